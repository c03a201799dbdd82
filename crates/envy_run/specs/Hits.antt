-- What a line of counters says: the hits and the misses are told by the earlier turns alone.
use Rattle.std.specs.Prelude.{◌≡◌, ℕ, ◌+◌, ◌/◌, ◌%◌, ◌==◌, Bool, true, false, not, if◌then◌else◌, List, [], ◌∷◌, Option, None, Some, IfSome}
use Rattle.envy_array.specs.declared.counts.Counts.{Counts}
use Rattle.envy_trace.specs.declared.line.Line.{Line}
use Rattle.envy_trace.specs.declared.line.Line.TheVariants.{Load, Store, Put}
use Rattle.envy_trace.specs.declared.reply.Reply.{Reply}
use Rattle.envy_trace.specs.declared.reply.Reply.TheVariants.{Range, Held, Closed, Full, Restarted}
use Rattle.envy_serve.specs.Turns.{one_if}
use Rattle.envy_run.specs.Counters.{NoneFell, counter, last_told}
use Rattle.envy_run.specs.Turns.{TraceTurn}
use Rattle.envy_base.specs.declared.page.TheConstants.{PAGE_WORDS}

-- the reply says that the command isn't done
abbrev pub is_refusal : Reply → Bool
is_refusal Range = true
is_refusal (Held u) = true
is_refusal Closed = true
is_refusal Full = true
is_refusal reply = false

abbrev pub unless_refused : List Reply → ℕ → Option ℕ
unless_refused [] page = None
unless_refused (reply ∷ replies) page = if is_refusal reply then None else Some page

-- the page of a host access: a load, store or put that isn't refused
abbrev pub accessed : Line → List Reply → Option ℕ
accessed (Load a) replies = unless_refused replies (a / PAGE_WORDS)
accessed (Store a w) replies = unless_refused replies (a / PAGE_WORDS)
accessed (Put t a w) replies = unless_refused replies (a / PAGE_WORDS)
accessed line replies = None

-- power came in these replies
abbrev pub is_restarted : List Reply → Bool
is_restarted [] = false
is_restarted (Restarted ∷ replies) = true
is_restarted (reply ∷ replies) = is_restarted replies

-- of two accesses to the same entry the later decides
abbrev pub decides : ℕ → ℕ → Option ℕ → Bool → Bool
decides entries page None before = before
decides entries page (Some other) before = if (page % entries) == (other % entries) then other == page else before

-- since power last came, the last access to a page congruent to this one was to this one
abbrev pub is_hit : ℕ → ℕ → List TraceTurn → Bool
is_hit entries page [] = false
is_hit entries page (turn ∷ earlier) = if is_restarted turn.replies then false else decides entries page (accessed turn.line turn.replies) (is_hit entries page earlier)

abbrev pub counted : (Bool → Bool) → ℕ → Option ℕ → List TraceTurn → ℕ
counted test entries None earlier = 0
counted test entries (Some page) earlier = one_if (test (is_hit entries page earlier))

-- how many of the accesses hit
abbrev pub hits_in : ℕ → List TraceTurn → ℕ
hits_in entries [] = 0
hits_in entries (turn ∷ earlier) = hits_in entries earlier + counted (λ hit. hit) entries (accessed turn.line turn.replies) earlier

-- how many don't
abbrev pub misses_in : ℕ → List TraceTurn → ℕ
misses_in entries [] = 0
misses_in entries (turn ∷ earlier) = misses_in entries earlier + counted not entries (accessed turn.line turn.replies) earlier

-- what a line of counters of a memory with so many entries says after these turns
pub record MayTell (entries : ℕ) (earlier : List TraceTurn) (counts : Counts) : Type 0 where
  pub hits : counts.hits ≡ counter (hits_in entries earlier)
  pub misses : counts.misses ≡ counter (misses_in entries earlier)
  pub never_fell : IfSome (last_told earlier) (λ before. NoneFell before counts)
