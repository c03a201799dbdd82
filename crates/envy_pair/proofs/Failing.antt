-- What a line in which power may fail does to a pair: a command, from what was heard of it; and power cut by hand.
use Rattle.std.proofs.Common.{◌≡◌, ◌⊎◌, inl, inr, ℕ, ◌+◌, ◌<◌, false, List, [], ◌∷◌, ◌++◌, Option, None, refl, sym, ◌∙◌, ap, subst, arith}
use Rattle.std.specs.Prelude.{IsTrue, IfSome, ◌||◌}
use Rattle.envy_array.specs.Array.{Array, undone, restarted}
use Rattle.envy_array.specs.Step.{Command}
use Rattle.envy_array.specs.Step.{Store as DoStore, Begin as DoBegin, Put as DoPut, Commit as DoCommit, Abort as DoAbort, Tick as DoTick}
use Rattle.envy_array.specs.declared.counts.Counts.{Counts}
use Rattle.envy_soundness.specs.Sound.{IsSound}
use Rattle.envy_soundness.specs.Words.{durable}
use Rattle.envy_memory.specs.Calls.{fresh}
use Rattle.envy_memory.specs.Picture.{counts_of}
use Rattle.envy_mirror.specs.Mirroring.{Mirrors}
use Rattle.envy_mirror.specs.Pair.{Side, Pair, is_good, side_at, IsDark, IsPair}
use Rattle.envy_mirror.specs.Reviving.{which, LeavesCut, cut_pair}
use Rattle.envy_mirror.specs.declared.standing.Which.{Which}
use Rattle.envy_serve.specs.Turns.{one_if, count_of}
use Rattle.envy_trace.specs.declared.line.Line.{Line}
use Rattle.envy_trace.specs.declared.line.Line.TheVariants.{Store, Begin, Put, Commit, Abort, Tick, Power}
use Rattle.envy_trace.specs.declared.mirror_line.MirrorLine.{MirrorLine}
use Rattle.envy_trace.specs.declared.mirror_line.MirrorLine.TheVariants.{Array as OfArray}
use Rattle.envy_trace.specs.declared.reply.Reply.{Reply}
use Rattle.envy_trace.specs.declared.reply.Reply.TheVariants.{Lost, Restarted}
use Rattle.envy_trace.specs.declared.mirror_reply.MirrorReply.{MirrorReply}
use Rattle.envy_trace.specs.declared.mirror_reply.MirrorReply.TheVariants.{Array as Plain, Gone}
use Rattle.envy_pair.specs.Bills.{Charged, Sums, Bill}
use Rattle.envy_pair.specs.Hearing.{Commanded}
use Rattle.envy_pair.specs.MirrorRun.{DoesLine, DoesMirror, FailsIn, IsTold, Darkens, before_restart, is_power, is_plan, is_lost, is_fault, told_in, undo_all_in}
use Rattle.envy_pair.specs.Restarting.{no_toll, last_side, IsFallen, IsBack, IsForGood}
use Rattle.envy_pair.specs.Serving.{Past, Known, state_of, IsSpent, Serves, LineDone, LineDead, sums_of}
use Rattle.envy_pair.specs.State.{MirrorState, cut_chosen, has_good, revived}
use Rattle.envy_pair.proofs.Commanding.{sums}
use Rattle.envy_pair.proofs.Commanded.{Lit, Dark, commanded, both-false, fallen-dark, shadows-last}
use Rattle.envy_pair.proofs.Powering.{cut-known, powers-lit, powers-dark}
use Rattle.envy_pair.proofs.Returning.{bill-more, charged-back, charged-dark, state-back, mirrors-back}

-- ---- bills

-- the sums of a line that neither cuts power nor plans
pub bill-as : (p q l f x y : ℕ) (old new : Pair) → p ≡ 0 → q ≡ 0 → Bill (sums l f x y) old new → Bill (record { lines = 1; powers = p; plans = q; losts = l; faults = f; first_falls = x; second_falls = y }) old new
bill-as p q l f x y old new pe qe b = record {
  first = b.first;
  second = b.second;
  to_first = b.to_first;
  to_second = b.to_second;
  pulls = let e = b.pulls in omega arith;
  faults = b.faults;
  losts = b.losts;
  plans = let e = b.plans in omega arith;
  first_falls = b.first_falls;
  second_falls = b.second_falls;
  few_pulls = b.few_pulls;
  few_faults = b.few_faults;
  few_losts = b.few_losts;
  few_first = b.few_first;
  few_second = b.few_second;
}

-- ---- no side is Good at the end of a line

pub record DarkLine (replies : List MirrorReply) (k : Known) (line : MirrorLine) (old new : Pair) (w : Which) : Type 0 where
  pub before : before_restart line ≡ replies
  pub left : Known
  pub fails : FailsIn (state_of k old w) line (state_of left new w)
  pub fallen : IsFallen new
  pub sound : IsSound (last_side new).memory.chart
  pub words : durable (last_side new).memory.chart ≡ left.array.words
  pub is_fresh : fresh (last_side new).memory.chart.shape.shadows left.array.words ≡ left.array
  pub spent_first : IsSpent left.first new.first
  pub spent_second : IsSpent left.second new.second
  pub first_falls : ℕ
  pub second_falls : ℕ
  pub bill : Bill (sums_of line replies first_falls second_falls) old new
  pub bill_back : Bill (sums_of line (replies ++ Plain Restarted ∷ []) first_falls second_falls) old new
  pub quiet : told_in (replies ++ Plain Restarted ∷ []) ≡ None
  pub first : left.first.falls ≡ k.first.falls + first_falls
  pub second : left.second.falls ≡ k.second.falls + second_falls
  pub does : (t : MirrorState) → t ≡ revived (state_of left new w) → DoesMirror (state_of k old w) line (replies ++ Plain Restarted ∷ []) t

pub told-none : (replies : List MirrorReply) (P : Counts → Type 0) → told_in replies ≡ None → IfSome (told_in replies) P
told-none replies P none = subst (λ (o : Option Counts). IfSome o P) (sym none) tt

-- a side without lives has none after a restart either
pub spent-on : (k : Past) (old new : Side) → Charged no_toll old.memory new.memory → IsSpent k old → IsSpent k new
spent-on k old new c spent = λ dead. let none = spent dead in let le = c.lives in omega arith

-- power is back
pub dark-done : (replies : List MirrorReply) (k : Known) (line : MirrorLine) (old mid new : Pair) (side : ℕ) → side < 2 → DarkLine replies k line old mid (which side) → IsBack mid new → (left : Known) × LineDone k line (replies ++ Plain Restarted ∷ []) left old side new side
dark-done replies k line old mid new side within d back =
    let charged = charged-back mid new back in (
      d.left,
      record {
        does = d.does (state_of d.left new (which side)) (state-back d.left mid new (which side) back);
        serves = record { mirrors = mirrors-back d.left.array mid new back d.words d.is_fresh; first = spent-on d.left.first mid.first new.first charged.0 d.spent_first; second = spent-on d.left.second mid.second new.second charged.1 d.spent_second };
        within = within;
        costs = record { first_falls = d.first_falls; second_falls = d.second_falls; bill = bill-more (sums_of line (replies ++ Plain Restarted ∷ []) d.first_falls d.second_falls) old mid new charged d.bill_back; first = d.first; second = d.second };
        told = told-none (replies ++ Plain Restarted ∷ []) (λ counts. counts ≡ counts_of (side_at (which side) new).memory.parts) d.quiet;
      },
    )

-- power doesn't return
pub dark-dead : (replies : List MirrorReply) (k : Known) (line : MirrorLine) (old mid new : Pair) (side : ℕ) → DarkLine replies k line old mid (which side) → IsForGood mid new → LineDead k line old side new
dark-dead replies k line old mid new side d good =
    let still = good.still in
    let charged = charged-dark mid new still in
    record {
      mid = state_of d.left mid (which side);
      fails = d.fails;
      spent_first = spent-on d.left.first mid.first new.first charged.0 d.spent_first;
      spent_second = spent-on d.left.second mid.second new.second charged.1 d.spent_second;
      board = record { off = still.off; dead = good.dead; sound = still.sound d.sound; words = still.durable ∙ d.words };
      costs = record {
        first_falls = d.first_falls;
        second_falls = d.second_falls;
        bill = subst (λ (rs : List MirrorReply). Bill (sums_of line rs d.first_falls d.second_falls) old new) (sym d.before) (bill-more (sums_of line replies d.first_falls d.second_falls) old mid new (charged-dark mid new still) d.bill);
        first = d.first;
        second = d.second;
      };
    }

-- ---- lines that are commands

-- what is so of a line that is this command
pub record IsCommand (line : Line) (command : Command) : Type 0 where
  pub told : (s t : MirrorState) (replies : List MirrorReply) → IsTold s command replies t → DoesLine s line replies t
  pub lost : (s mid t : MirrorState) → Darkens s command mid → t ≡ revived mid → DoesLine s line (Plain Lost ∷ Plain Restarted ∷ []) t
  pub fails : (s mid : MirrorState) → Darkens s command mid → FailsIn s (OfArray line) mid
  pub no_power : one_if (is_power (OfArray line)) ≡ 0
  pub no_plan : one_if (is_plan (OfArray line)) ≡ 0
  pub before : before_restart (OfArray line) ≡ Plain Lost ∷ []

pub is-store : (a w : ℕ) → IsCommand (Store a w) (DoStore a w)
is-store a w = record { told = λ s t replies told. inl told; lost = λ s mid t dark is. inr (refl, mid, dark, is); fails = λ s mid dark. (DoStore a w, refl, dark); no_power = refl; no_plan = refl; before = refl }

pub is-begin : IsCommand Begin DoBegin
is-begin = record { told = λ s t replies told. inl told; lost = λ s mid t dark is. inr (refl, mid, dark, is); fails = λ s mid dark. (DoBegin, refl, dark); no_power = refl; no_plan = refl; before = refl }

pub is-put : (u a w : ℕ) → IsCommand (Put u a w) (DoPut u a w)
is-put u a w = record { told = λ s t replies told. inl told; lost = λ s mid t dark is. inr (refl, mid, dark, is); fails = λ s mid dark. (DoPut u a w, refl, dark); no_power = refl; no_plan = refl; before = refl }

pub is-commit : (u : ℕ) → IsCommand (Commit u) (DoCommit u)
is-commit u = record { told = λ s t replies told. inl told; lost = λ s mid t dark is. inr (refl, mid, dark, is); fails = λ s mid dark. (DoCommit u, refl, dark); no_power = refl; no_plan = refl; before = refl }

pub is-abort : (u : ℕ) → IsCommand (Abort u) (DoAbort u)
is-abort u = record { told = λ s t replies told. inl told; lost = λ s mid t dark is. inr (refl, mid, dark, is); fails = λ s mid dark. (DoAbort u, refl, dark); no_power = refl; no_plan = refl; before = refl }

pub is-tick : IsCommand Tick DoTick
is-tick = record { told = λ s t replies told. inl told; lost = λ s mid t dark is. inr (refl, mid, dark, is); fails = λ s mid dark. (DoTick, refl, dark); no_power = refl; no_plan = refl; before = refl }

-- what was heard of a line: it was done, or no side is Good
abbrev pub HeardLine : Known → MirrorLine → MirrorReply → Pair → ℕ → Pair → ℕ → Type 0
HeardLine k line reply old side new new_side =
    ((left : Known) × LineDone k line (reply ∷ []) left old side new new_side)
    ⊎ ((reply ≡ Plain Lost) × DarkLine (Plain Lost ∷ []) k line old new (which side) × (new_side ≡ side))

pub command-heard : (line : Line) (command : Command) (reply : Reply) (k : Known) (old new : Pair) (side : ℕ) → IsCommand line command → side < 2 → IsPair new → Serves k old → Commanded command reply old new → HeardLine k (OfArray line) (Plain reply) old side new side
command-heard line command reply k old new side is within i s heard = at (commanded command reply k old new (which side) i s heard)
  where
    at : Lit command reply k old new (which side) ⊎ ((reply ≡ Lost) × Dark command k old new (which side)) → HeardLine k (OfArray line) (Plain reply) old side new side
    at (inl lit) = inl (
      lit.left,
      record {
        does = is.told (state_of k old (which side)) (state_of lit.left new (which side)) (Plain reply ∷ []) lit.told;
        serves = lit.serves;
        within = within;
        costs = record { first_falls = lit.first_falls; second_falls = lit.second_falls; bill = bill-as (one_if (is_power (OfArray line))) (one_if (is_plan (OfArray line))) (count_of is_lost (Plain reply ∷ [])) (count_of is_fault (Plain reply ∷ [])) lit.first_falls lit.second_falls old new is.no_power is.no_plan lit.bill; first = lit.first; second = lit.second };
        told = told-none (Plain reply ∷ []) (λ counts. counts ≡ counts_of (side_at (which side) new).memory.parts) lit.quiet;
      },
    )
    at (inr (lost, d)) = inr (
      ap Plain lost,
      record {
        before = is.before;
        left = d.left;
        fails = is.fails (state_of k old (which side)) (state_of d.left new (which side)) d.darkens;
        fallen = d.fallen;
        sound = d.sound;
        words = d.words;
        is_fresh = d.is_fresh;
        spent_first = d.spent_first;
        spent_second = d.spent_second;
        first_falls = d.first_falls;
        second_falls = d.second_falls;
        bill = bill-as (one_if (is_power (OfArray line))) (one_if (is_plan (OfArray line))) 1 0 d.first_falls d.second_falls old new is.no_power is.no_plan d.bill;
        bill_back = bill-as (one_if (is_power (OfArray line))) (one_if (is_plan (OfArray line))) 1 0 d.first_falls d.second_falls old new is.no_power is.no_plan d.bill;
        quiet = refl;
        first = d.first;
        second = d.second;
        does = λ t back. is.lost (state_of k old (which side)) (state_of d.left new (which side)) t d.darkens back;
      },
      refl,
    )

-- ---- power cut by hand

pub power-lit : (k : Known) (old new : Pair) (side : ℕ) → side < 2 → Serves k old → new ≡ cut_pair (which side) old → LeavesCut k.array new → IsTrue (is_good new.first || is_good new.second) → (left : Known) × LineDone k (OfArray Power) (Gone ∷ []) left old side new side
power-lit k old new side within s is leaves good =
    let c = cut-known (which side) k old new s is in (
      c.left,
      record {
        does = powers-lit (state_of k old (which side)) (state_of c.left new (which side)) c.state good;
        serves = record { mirrors = subst (λ (m : Array). Mirrors new m) (sym c.array) (leaves.lit good); first = c.spent_first; second = c.spent_second };
        within = within;
        costs = record { first_falls = c.first_falls; second_falls = c.second_falls; bill = c.bill; first = c.first; second = c.second };
        told = tt;
      },
    )

shape-cut : (old new : Pair) (sums_are : Sums) → Bill sums_are old new → (new.first.memory.chart.shape ≡ old.first.memory.chart.shape) × (new.second.memory.chart.shape ≡ old.second.memory.chart.shape)
shape-cut old new sums_are b = (Charged.shape b.to_first, Charged.shape b.to_second)

pub power-dark : (k : Known) (old new : Pair) (side : ℕ) → IsPair new → Serves k old → new ≡ cut_pair (which side) old → LeavesCut k.array new → IsDark new → DarkLine [] k (OfArray Power) old new (which side)
power-dark k old new side i s is leaves dark =
    let c = cut-known (which side) k old new s is in
    let found = leaves.dark dark in
    let shapes = shape-cut old new _ c.bill in
    let left : Known = record { array = restarted k.array; first = c.left.first; second = c.left.second } in
    let undone_so : state_of left new (which side) ≡ undo_all_in (cut_chosen (state_of k old (which side))) = ap (λ (m : Array). let t : MirrorState = record (state_of c.left new (which side)) { array = restarted m } in t) (sym c.array) ∙ ap undo_all_in c.state in
    let none : has_good (cut_chosen (state_of k old (which side))) ≡ false = subst (λ (t : MirrorState). has_good t ≡ false) c.state (both-false (is_good new.first) (is_good new.second) dark.0 dark.1) in
    record {
      before = refl;
      left = left;
      fails = (none, undone_so);
      fallen = fallen-dark new i dark;
      sound = found.0;
      words = found.1;
      is_fresh = ap (λ (n : ℕ). fresh n (undone k.array)) (sym (shadows-last k.array old new i s.mirrors shapes.0 shapes.1));
      spent_first = c.spent_first;
      spent_second = c.spent_second;
      first_falls = c.first_falls;
      second_falls = c.second_falls;
      bill = c.bill;
      bill_back = c.bill;
      quiet = refl;
      first = c.first;
      second = c.second;
      does = λ t back. powers-dark (state_of k old (which side)) t none (back ∙ ap revived undone_so);
    }
