-- What a memory did in a trace, from what it does in one line, and what its board's counts say then.
use Rattle.std.proofs.Common.{◌≡◌, ◌⊎◌, inl, inr, ℕ, zero, suc, ◌+◌, ◌*◌, ◌-◌, ◌^◌, ◌<◌, ◌≤◌, Bool, List, [], ◌∷◌, length, refl, sym, ◌∙◌, ap, subst, arith}
use Rattle.std.specs.Prelude.{IfSome, Option, None, Some, slice_index, sum}
use Rattle.envy_array.specs.Array.{Array, zeros}
use Rattle.envy_array.specs.declared.counts.Counts.{Counts}
use Rattle.envy_base.specs.declared.shape.Shape.{Shape}
use Rattle.envy_base.specs.State.{State, IsBoard, IsMade}
use Rattle.std.proofs.Math.Nat.{mul-le-mul_left}
use Rattle.std.proofs.lemmas.Bool.{cases_lt}
use Rattle.std.proofs.lemmas.List.{length-replicate}
use Rattle.std.proofs.lemmas.List.Sums.{sum_by-cons}
use Rattle.envy_io.specs.Streams.{Feed, Drain}
use Rattle.envy_map.specs.Fields.{Chart, chart}
use Rattle.envy_base.specs.Counting.{up, Tally}
use Rattle.envy_engine.specs.Counts.{Tallies, Tally3}
use Rattle.envy_meaning.specs.Stands.{Stands}
use Rattle.envy_memory.proofs.Counted.{Tallies-stay, below-top}
use Rattle.envy_memory.specs.Formats.{IsFresh, IsStarted, no_counts}
use Rattle.envy_memory.specs.Picture.{Picture, counts_of}
use Rattle.envy_memory.specs.Rises.{RoseOver}
use Rattle.envy_serve.proofs.Counts.{count-lines, count-of}
use Rattle.envy_table.specs.Entries.{Entry, vacant}
use Rattle.envy_table.specs.Hits.{page_at}
use Rattle.envy_policy.specs.declared.setup.Setup.{Setup}
use Rattle.envy_trace.specs.declared.line.Line.{Line}
use Rattle.envy_trace.specs.declared.line.Line.TheVariants.{Empty, Load, Look, Store, Begin, Put, Commit, Abort, Tick, Power, Cut, Bad, Stat}
use Rattle.envy_trace.specs.declared.reply.Reply.{Reply}
use Rattle.envy_serve.specs.declared.service.LineOutcome.{LineOutcome}
use Rattle.envy_serve.specs.declared.service.LineOutcome.TheVariants.{Done, WriteFault, Dead}
use Rattle.envy_serve.specs.declared.server.End.{End}
use Rattle.envy_serve.specs.Ends.{Serves, Ends, most_bytes}
use Rattle.envy_serve.specs.Obeys.{Obeys}
use Rattle.envy_serve.specs.Streams.{Streams}
use Rattle.envy_serve.specs.Turns.{count_lines, count_replies, one_if}
use Rattle.envy_serve.proofs.Advancing.{Serves-as, served-either}
use Rattle.envy_run.specs.Done.{Run, Dies, DiesIn, HoldsOff, OnBoard}
use Rattle.envy_run.specs.Headline.{Licences, run_task, zeros_of}
use Rattle.envy_run.specs.Task.{DoesTask}
use Rattle.envy_run.specs.Counters.{AddsUp, just_told, told_in}
use Rattle.envy_run.specs.Hits.{MayTell}
use Rattle.envy_run.specs.Tells.{Telling}
use Rattle.envy_run.specs.Licence.{Licence, plans_in, newest}
use Rattle.envy_run.specs.Obeys.{ObeysLine, LineDone}
use Rattle.envy_run.specs.declared.endings.Finished.{Finished}
use Rattle.envy_run.specs.Prepares.{HasTried, IsBegun, IsPrepared, IsReady, NoneBegun, WasMade}
use Rattle.envy_run.specs.Resumes.{LicencesBehind}
use Rattle.envy_run.specs.Outcome.{Outcome, ending_of, outcome_of}
use Rattle.envy_run.specs.Spending.{IsThrifty, Spends, programs_in, programs_of, erases_in, erases_of, tries_of}
use Rattle.envy_run.specs.Tracing.{Start, HasDone, LicensedTurns, SpentSince, TracedSince, DiedSince}
use Rattle.envy_run.specs.Turns.{TraceTurn, Does, trace_grammar, is_power, is_plan, plan_of, is_lost, is_fault, FailsIn, before_restart}
use Rattle.envy_run.proofs.Accounts.{account_of, served_outcome, unread}
use Rattle.envy_run.proofs.Hitting.{telling-more}
use Rattle.envy_run.proofs.Recovering.{Licence-trans, plans-count}
use Rattle.envy_run.proofs.Replying.{Licence-refl}
use Rattle.envy_run.proofs.Spent.{spends-none, spends-trans}

-- a line began what it may
spent-more : (start : Start) (old new : Picture) (turns : List TraceTurn) (line : Line) → SpentSince start old turns → old.chart.shape ≡ start.memory.chart.shape → Spends (programs_of old.chart.shape.rows line) (erases_of line) old.chart new.chart → Spends (programs_in start.memory.chart.shape.rows turns + programs_of start.memory.chart.shape.rows line) (erases_in turns + erases_of line) start.memory.chart new.chart
spent-more start old new turns line before shape s = spends-trans (programs_in start.memory.chart.shape.rows turns) (erases_in turns) (programs_of start.memory.chart.shape.rows line) (erases_of line) start.memory.chart old.chart new.chart before (subst (λ (sh : Shape). Spends (programs_of sh.rows line) (erases_of line) old.chart new.chart) shape s)

-- a line joins the turns
traced-done : (start : Start) (old new : Picture) (turns : List TraceTurn) (t : TracedSince start old turns) (line : Line) (replies : List _) (left : Array) → LineDone (MayTell old.chart.shape.entries turns) (HasDone.array t.done) line replies left old new → TracedSince start new (record { line = line; replies = replies } ∷ turns)
traced-done start old new turns t line replies left d = record {
  done = record {
    array = left;
    run = subst (λ (sh : Shape). Run sh.entries start.array (record { line = line; replies = replies } ∷ turns) left) (sym (Licence.shape d.licensed)) (HasDone.array t.done, HasDone.run t.done, d.does);
    stands = d.stands;
  };
  licensed = Licence-trans (count_lines is_power turns) (plans_in plan_of turns) (count_replies is_lost turns) (count_replies is_fault turns) _ _ _ _ start.memory.chart old.chart new.chart t.licensed d.licensed;
  spent = spent-more start old new turns line t.spent (Licence.shape t.licensed) d.spent;
  telling = telling-more start.memory (record { line = line; replies = replies }) turns old new t.telling (Licence.shape d.licensed) d.notes;
}

-- a line that was done joins the turns
pub traced-obeys : (start : Start) (old new : Picture) (turns : List TraceTurn) (line : Line) (obeyed : LineOutcome) (sink then_sink : Drain) (t : TracedSince start old turns) → ObeysLine (MayTell old.chart.shape.entries turns) (HasDone.array t.done) line obeyed old new sink then_sink → Obeys obeyed trace_grammar (TracedSince start new) (DiedSince start new) turns line sink then_sink
traced-obeys start old new turns line Done sink then_sink t (replies, left, done, told) = (replies, traced-done start old new turns t line replies left done, told)
traced-obeys start old new turns line WriteFault sink then_sink t (replies, left, done, told) = (replies, traced-done start old new turns t line replies left done, told)
traced-obeys start old new turns line Dead sink then_sink t (dead, told) = (
  _,
  record {
    died =
        let (left, fails, words) = dead.found in (
          left,
          record {
            array = HasDone.array t.done;
            run = subst (λ (sh : Shape). Run sh.entries start.array turns (HasDone.array t.done)) (sym (Licence.shape dead.licensed)) (HasDone.run t.done);
            replies = refl;
            fails = fails;
          },
          record { found = words; magic = dead.magic; version = dead.version; sound = dead.sound; off = dead.off; dead = dead.dead },
        );
    licensed = Licence-trans (count_lines is_power turns) (plans_in plan_of turns) (count_replies is_lost turns) (count_replies is_fault turns) _ _ _ _ start.memory.chart old.chart new.chart t.licensed dead.licensed;
    spent = spent-more start old new turns line t.spent (Licence.shape t.licensed) dead.spent;
  },
  told,
)

-- What the counts of a board that began with none say.

-- each line that plans a failure plans one
length-plan : (line : Line) → length (plan_of line) ≡ one_if (is_plan line)
length-plan Empty = refl
length-plan (Load a) = refl
length-plan (Look a) = refl
length-plan (Store a w) = refl
length-plan Begin = refl
length-plan (Put t a w) = refl
length-plan (Commit t) = refl
length-plan (Abort t) = refl
length-plan Tick = refl
length-plan Power = refl
length-plan (Cut k g) = refl
length-plan (Bad k g) = refl
length-plan Stat = refl

length-plans : (turns : List TraceTurn) → length (plans_in plan_of turns) ≡ count_lines is_plan turns
length-plans turns = plans-count plan_of is_plan length-plan turns

-- no line began anything yet
pub thrifty-none : (programs times : ℕ) (now : Chart) → now.begun ≡ programs → sum now.erases ≤ now.shape.segments * times → IsThrifty programs times [] now
thrifty-none programs times now begun erases = record { programs = omega arith; erases = omega arith }

-- it is no less thrifty where each segment may have been erased more often
thrifty-more : (programs few many : ℕ) (turns : List TraceTurn) (now : Chart) → few ≤ many → IsThrifty programs few turns now → IsThrifty programs many turns now
thrifty-more programs few many turns now le t =
    let more = mul-le-mul_left now.shape.segments le in
    let erases = t.erases in
    record { programs = t.programs; erases = omega arith }

-- How often formatting was begun on a board that is formatted: once, and again for so many failures of power.
pub record IsTriedOn (setup : Setup) (now : Chart) : Type 0 where
  pub times : ℕ
  pub erases : sum now.erases ≤ setup.shape.segments * times
  pub paid : times ≤ 1 + now.cuts
  pub low : times < 2 ^ 34

no-erases : (xs : List ℕ) → ((s : ℕ) → slice_index xs s ≡ 0) → sum xs ≡ 0
no-erases [] each = refl
no-erases (x ∷ xs) each = sum_by-cons (λ (n : ℕ). n) x xs ∙ (let here : x ≡ 0 = each 0 in let rest = no-erases xs (λ s. each (suc s)) in omega arith)

pub tried-on : (setup : Setup) (returns : ℕ) (s : State) (now : Chart) → returns < 2 ^ 32 → IsMade setup.shape returns s → IsPrepared (chart s) now → IsTriedOn setup now
tried-on setup returns s now low made p =
    let none = no-erases s.erases made.erases in
    let shape = ap (λ (sh : Shape). sh.segments * (1 + p.returned)) made.shape in
    let few = HasTried.erases p.tried in
    let lives = HasTried.lives p.tried in
    let had = made.lives in
    let cuts = made.cuts in
    record {
      times = 1 + p.returned;
      erases = omega arith;
      paid = let paid : p.returned ≤ now.cuts = below-top p.returned now.cuts (omega arith) (λ lt. let rise = RoseOver.rise (HasTried.cuts p.tried) lt in omega arith) in omega arith;
      low = omega arith;
    }

-- formatting was begun no more often than failures of power that no line tells allow
pub times-few : (times n cuts now : ℕ) → times ≤ 1 + cuts → times < 2 ^ 34 → n < 2 ^ 63 → (now < 2 ^ 64 - 1 → cuts + n ≤ now) → times ≤ 1 + (now - n)
times-few times n cuts now paid low few rise = at (cases_lt now (2 ^ 64 - 1))
  where
    at : (now < 2 ^ 64 - 1) ⊎ (2 ^ 64 - 1 ≤ now) → times ≤ 1 + (now - n)
    at (inl lt) = let le = rise lt in omega arith
    at (inr top) = omega arith

-- before the first line there is nothing to license
pub licences-none : (setup : Setup) (returns : ℕ) (now : Chart) → now.shape ≡ setup.shape → now.given ≡ returns → now.pulled ≡ 0 → now.plans ≡ 0 → now.last_plan ≡ None → now.begun ≡ 0 → IsTriedOn setup now → Licences setup returns [] now
licences-none setup returns now shape given pulled plans last begun tried =
    let paid = tried.paid in
    let segments = ap (λ (sh : Shape). sh.segments * tried.times) shape in
    let erases = tried.erases in
    record {
      shape = shape;
      given = given;
      pulled = pulled;
      plans = plans;
      last_plan = last;
      losts = omega arith;
      faults = omega arith;
      told = tt;
      thrifty = thrifty-more 0 tried.times (tries_of [] now) [] now (omega arith) (thrifty-none 0 tried.times now begun (omega arith));
    }

-- a line has two replies at most
does-few : (May : Counts → Type 0) (m : Array) (line : Line) (replies : List Reply) (n : Array) → Does May m line replies n → length replies ≤ 2
does-few May m line replies n (inl (empty, none, same)) = let e = ap length none in omega arith
does-few May m line replies n (inr (inl (reply, one, says))) = let e = ap length one in omega arith
does-few May m line replies n (inr (inr (inl (two, loses)))) = let e = ap length two in omega arith
does-few May m line replies n (inr (inr (inr (power, one, is)))) = let e = ap length one in omega arith

run-few : (test : Reply → Bool) (entries : ℕ) (first : Array) (turns : List TraceTurn) (m : Array) → Run entries first turns m → count_replies test turns ≤ 2 * length turns
run-few test entries first [] m run = omega arith
run-few test entries first (turn ∷ earlier) m (mid, before, does) =
    let rest = run-few test entries first earlier mid before in
    let here = count-of test turn.replies in
    let few = does-few (MayTell entries earlier) mid turn.line turn.replies m does in
    omega arith

before-few : (line : Line) → length (before_restart line) ≤ 1
before-few Empty = omega arith
before-few (Load a) = omega arith
before-few (Look a) = omega arith
before-few (Store a w) = omega arith
before-few Begin = omega arith
before-few (Put t a w) = omega arith
before-few (Commit t) = omega arith
before-few (Abort t) = omega arith
before-few Tick = omega arith
before-few Power = omega arith
before-few (Cut k g) = omega arith
before-few (Bad k g) = omega arith
before-few Stat = omega arith

-- no more replies than two a line
pub traced-few : (test : Reply → Bool) (start : Start) (p : Picture) (turns : List TraceTurn) → TracedSince start p turns ⊎ DiedSince start p turns → count_replies test turns ≤ 2 * length turns
traced-few test start p turns (inl t) = run-few test p.chart.shape.entries start.array turns (HasDone.array t.done) (HasDone.run t.done)
traced-few test start p [] (inr d) = omega arith
traced-few test start p (turn ∷ earlier) (inr d) =
    let dies = d.died.1 in
    let rest = run-few test p.chart.shape.entries start.array earlier (DiesIn.array dies) (DiesIn.run dies) in
    let here = count-of test turn.replies in
    let few = before-few turn.line in
    let same = ap length (DiesIn.replies dies) in
    omega arith

-- what a memory was when its trace began, of whose board so many programs had begun
pub record Began (programs : ℕ) (setup : Setup) (returns : ℕ) (first : Picture) : Type 0 where
  pub shape : first.chart.shape ≡ setup.shape
  pub given : first.chart.given ≡ returns
  pub pulled : first.chart.pulled ≡ 0
  pub plans : first.chart.plans ≡ 0
  pub last_plan : first.chart.last_plan ≡ None
  pub counts : counts_of first.parts ≡ no_counts
  pub begun : first.chart.begun ≡ programs
  pub erases : first.chart.cuts ≡ 0 → sum first.chart.erases ≡ setup.shape.segments

-- the counters add up
pub adds-up : (programs : ℕ) (setup : Setup) (returns : ℕ) (first now : Picture) → Began programs setup returns first → now.chart.shape ≡ first.chart.shape → first.chart.cuts ≤ now.chart.cuts → Tallies first.chart first.parts now.chart now.parts → AddsUp programs (counts_of now.parts) now.chart
adds-up programs setup returns first now b shape cuts t =
    let flushes = ap (λ (c : Counts). c.flushes) b.counts in
    let copies = ap (λ (c : Counts). c.copies) b.counts in
    let moves = ap (λ (c : Counts). c.moves) b.counts in
    let erased = ap (λ (c : Counts). c.erases) b.counts in
    let begun = b.begun in
    let segments = ap (λ (sh : Shape). sh.segments) (shape ∙ b.shape) in
    record {
      programs = λ lf lc lm lb. let same = Tally3.same t.programs lf lc lm lb in omega arith;
      erases = λ none le ls. let same = Tally.same t.erases ls le in let whole = b.erases (omega arith) in omega arith;
    }

-- what was told adds up where what is counted does
told-so : (programs : ℕ) (told : Option Counts) (now : Picture) → IfSome told (λ c. c ≡ counts_of now.parts) → AddsUp programs (counts_of now.parts) now.chart → IfSome told (λ c. AddsUp programs c now.chart)
told-so programs None now same adds = tt
told-so programs (Some counts) now same adds = subst (λ (c : Counts). AddsUp programs c now.chart) (sym same) adds

-- where power failed no counters were just told
died-told : (array : Array) (line : Line) (replies : List Reply) (earlier : List TraceTurn) (left : Array) → replies ≡ before_restart line → FailsIn array line left → (P : Counts → Type 0) → IfSome (just_told (record { line = line; replies = replies } ∷ earlier)) P
died-told array Empty replies earlier left is (inl loses) P = absurd (let never = loses.is in cc)
died-told array Empty replies earlier left is (inr (power, same)) P = absurd (let never = power in cc)
died-told array (Load a) replies earlier left is fails P = subst (λ (rs : List Reply). IfSome (told_in rs) P) (sym is) tt
died-told array (Look a) replies earlier left is fails P = subst (λ (rs : List Reply). IfSome (told_in rs) P) (sym is) tt
died-told array (Store a w) replies earlier left is fails P = subst (λ (rs : List Reply). IfSome (told_in rs) P) (sym is) tt
died-told array Begin replies earlier left is fails P = subst (λ (rs : List Reply). IfSome (told_in rs) P) (sym is) tt
died-told array (Put t a w) replies earlier left is fails P = subst (λ (rs : List Reply). IfSome (told_in rs) P) (sym is) tt
died-told array (Commit t) replies earlier left is fails P = subst (λ (rs : List Reply). IfSome (told_in rs) P) (sym is) tt
died-told array (Abort t) replies earlier left is fails P = subst (λ (rs : List Reply). IfSome (told_in rs) P) (sym is) tt
died-told array Tick replies earlier left is fails P = subst (λ (rs : List Reply). IfSome (told_in rs) P) (sym is) tt
died-told array Power replies earlier left is fails P = subst (λ (rs : List Reply). IfSome (told_in rs) P) (sym is) tt
died-told array (Cut k g) replies earlier left is fails P = subst (λ (rs : List Reply). IfSome (told_in rs) P) (sym is) tt
died-told array (Bad k g) replies earlier left is fails P = subst (λ (rs : List Reply). IfSome (told_in rs) P) (sym is) tt
died-told array Stat replies earlier left is fails P = subst (λ (rs : List Reply). IfSome (told_in rs) P) (sym is) tt

-- so what the last line of counters told adds up
since-told : (programs : ℕ) (setup : Setup) (returns : ℕ) (start : Start) (p : Picture) (turns : List TraceTurn) → Began programs setup returns start.memory → TracedSince start p turns ⊎ DiedSince start p turns → IfSome (just_told turns) (λ c. AddsUp programs c p.chart)
since-told programs setup returns start p turns b (inl t) = told-so programs (just_told turns) p (Telling.last t.telling) (adds-up programs setup returns start.memory p b (Licence.shape t.licensed) (RoseOver.kept (Licence.cuts t.licensed)) (Telling.tallies t.telling))
since-told programs setup returns start p [] b (inr d) = tt
since-told programs setup returns start p (turn ∷ earlier) b (inr d) = let dies = d.died.1 in died-told (DiesIn.array dies) turn.line turn.replies earlier d.died.0 (DiesIn.replies dies) (DiesIn.fails dies) (λ c. AddsUp programs c p.chart)

licensed-either : (start : Start) (p : Picture) (turns : List TraceTurn) → TracedSince start p turns ⊎ DiedSince start p turns → LicensedTurns turns start.memory.chart p.chart
licensed-either start p turns (inl t) = t.licensed
licensed-either start p turns (inr d) = d.licensed

spent-either : (start : Start) (p : Picture) (turns : List TraceTurn) → TracedSince start p turns ⊎ DiedSince start p turns → SpentSince start p turns
spent-either start p turns (inl t) = t.spent
spent-either start p turns (inr d) = d.spent

-- the flash work that was begun is that of the lines and of the formatting
thrifty-since : (programs times : ℕ) (setup : Setup) (returns : ℕ) (start : Start) (p : Picture) (turns : List TraceTurn) → Began programs setup returns start.memory → sum start.memory.chart.erases ≤ setup.shape.segments * times → TracedSince start p turns ⊎ DiedSince start p turns → IsThrifty programs times turns p.chart
thrifty-since programs times setup returns start p turns b before since =
    let l = licensed-either start p turns since in
    let s = spent-either start p turns since in
    let begun = b.begun in
    let shape = Licence.shape l in
    let rows = ap (λ (sh : Shape). programs_in sh.rows turns) shape in
    let segments = ap (λ (sh : Shape). sh.segments * times) (shape ∙ b.shape) in
    let within = Spends.programs s in
    let erased = Spends.erases s in
    record { programs = omega arith; erases = omega arith }

-- what the board's counts say of the turns behind an image
pub licences-behind : (programs times : ℕ) (setup : Setup) (returns : ℕ) (start : Start) (p : Picture) (turns : List TraceTurn) → Began programs setup returns start.memory → sum start.memory.chart.erases ≤ setup.shape.segments * times → length turns ≤ most_bytes → TracedSince start p turns ⊎ DiedSince start p turns → LicencesBehind programs times setup returns turns p.chart
licences-behind programs times setup returns start p turns b before few since =
    let l = licensed-either start p turns since in
    let powers = count-lines is_power turns in
    let planned = count-lines is_plan turns in
    let lost = traced-few is_lost start p turns since in
    let fault = traced-few is_fault start p turns since in
    let pulled = b.pulled in
    let plans = b.plans in
    record {
      shape = Licence.shape l ∙ b.shape;
      given = Licence.given l ∙ b.given;
      pulled = let e = Licence.pulled l (omega arith) in omega arith;
      plans = let long = length-plans turns in let e = Licence.plans_made l (omega arith) in omega arith;
      last_plan = Licence.last_plan l ∙ ap (newest (plans_in plan_of turns)) b.last_plan;
      losts = below-top (count_lines is_power turns + count_replies is_lost turns) p.chart.cuts (omega arith) (λ lt. let rise = RoseOver.rise (Licence.cuts l) lt in omega arith);
      faults = below-top (count_replies is_fault turns) p.chart.bads (omega arith) (λ lt. let rise = RoseOver.rise (Licence.bads l) lt in omega arith);
      told = since-told programs setup returns start p turns b since;
      thrifty = thrifty-since programs times setup returns start p turns b before since;
    }

-- and of those since it was formatted
pub licences-since : (setup : Setup) (returns : ℕ) (start : Start) (p : Picture) (turns : List TraceTurn) → Began 0 setup returns start.memory → IsTriedOn setup start.memory.chart → length turns ≤ most_bytes → TracedSince start p turns ⊎ DiedSince start p turns → Licences setup returns turns p.chart
licences-since setup returns start p turns b tried few since =
    let l = licences-behind 0 tried.times setup returns start p turns b tried.erases few since in
    let licence = licensed-either start p turns since in
    let powers = count-lines is_power turns in
    let lost = traced-few is_lost start p turns since in
    let enough = times-few tried.times (count_lines is_power turns + count_replies is_lost turns) start.memory.chart.cuts p.chart.cuts tried.paid tried.low (omega arith) (λ lt. RoseOver.rise (Licence.cuts licence) lt) in
    record { shape = l.shape; given = l.given; pulled = l.pulled; plans = l.plans; last_plan = l.last_plan; losts = l.losts; faults = l.faults; told = l.told; thrifty = thrifty-more 0 tried.times (tries_of turns p.chart) turns p.chart enough l.thrifty }

length-vacant : (n : ℕ) → length (vacant n) ≡ n
length-vacant n = length-replicate n None

page-vacant : (n i : ℕ) → page_at (vacant n) i ≡ None
page-vacant zero i = refl
page-vacant (suc n) zero = refl
page-vacant (suc n) (suc i) = page-vacant n i

-- before the first line of a memory that was just made, whatever array its board stands for
pub traced-first : (setup : Setup) (first : Picture) (array : Array) → 0 < setup.shape.entries → first.chart.shape ≡ setup.shape → Stands first.chart array → IsStarted setup first → TracedSince (record { array = array; memory = first }) first []
traced-first setup first array some shape stands begins = record {
  done = record { array = array; run = refl; stands = stands };
  licensed = Licence-refl first.chart;
  spent = spends-none 0 0 first.chart first.chart refl refl;
  telling = record {
    can = record {
      tracks = record {
        some = let e = ap (λ (sh : Shape). sh.entries) shape in omega arith;
        size = ap length begins.entries ∙ length-vacant setup.shape.entries ∙ sym (ap (λ (sh : Shape). sh.entries) shape);
        pages = λ i lt. ap (λ (es : List Entry). page_at es i) begins.entries ∙ page-vacant setup.shape.entries i;
        hits = ap (λ (c : Counts). c.hits) begins.counts;
        misses = ap (λ (c : Counts). c.misses) begins.counts;
      };
      never_fell = tt;
    };
    last = tt;
    tallies = Tallies-stay first first refl refl refl;
  };
}

-- a memory that was formatted has done no lines
pub traced-none : (old : Chart) (setup : Setup) (first : Picture) → 0 < setup.shape.entries → first.chart.shape ≡ setup.shape → IsReady old setup first → TracedSince (record { array = zeros first.chart.shape.pages first.chart.shape.shadows; memory = first }) first []
traced-none old setup first some shape ready = traced-first setup first (zeros first.chart.shape.pages first.chart.shape.shadows) some shape (IsFresh.stands ready.fresh) ready.begins

-- each segment was erased once
pub ones-sum : (xs : List ℕ) → ((s : ℕ) → s < length xs → slice_index xs s ≡ 1) → sum xs ≡ length xs
ones-sum [] each = refl
ones-sum (x ∷ xs) each = sum_by-cons (λ (n : ℕ). n) x xs ∙ (let here : x ≡ 1 = each 0 (omega arith) in let rest = ones-sum xs (λ s lt. each (suc s) (omega arith)) in omega arith)

up-zero : (n : ℕ) → n ≡ 0 → up n ≡ 1
unfolding up
up-zero n none = omega arith

-- segments that were each erased once
once-sum : (old new : List ℕ) (segments : ℕ) → length new ≡ segments → ((e : ℕ) → slice_index old e ≡ 0) → ((s : ℕ) → s < segments → slice_index new s ≡ up (slice_index old s)) → sum new ≡ segments
once-sum old new segments long none once = ones-sum new (λ s lt. once s (omega arith) ∙ up-zero (slice_index old s) (none s)) ∙ long

-- a memory that was formatted on a board of the maker begins with no counts
pub began : (setup : Setup) (returns : ℕ) (s : State) (first : Picture) → IsMade setup.shape returns s → length s.erases ≡ setup.shape.segments → IsReady (chart s) setup first → Began 0 setup returns first
began setup returns s first made long ready = record {
  shape = IsPrepared.shape ready.prepared ∙ made.shape;
  given = IsPrepared.given ready.prepared ∙ made.given;
  pulled = IsPrepared.pulled ready.prepared ∙ made.pulled;
  plans = IsPrepared.plans ready.prepared ∙ made.plans;
  last_plan = IsPrepared.last_plan ready.prepared ∙ made.last_plan;
  counts = (IsStarted.counts ready.begins);
  begun = ready.begun ∙ made.begun;
  erases = λ none. once-sum s.erases first.chart.erases setup.shape.segments (ready.long ∙ long) made.erases (subst (λ (sh : Shape). (e : ℕ) → e < sh.segments → slice_index first.chart.erases e ≡ up (slice_index s.erases e)) made.shape (ready.once none));
}

pub began-of : (setup : Setup) (returns : ℕ) (first : Picture) → IsBegun setup returns first → Began 0 setup returns first
began-of setup returns first begun = began setup returns begun.made first begun.new (IsBoard.erases begun.whole ∙ ap (λ (sh : Shape). sh.segments) (IsMade.shape begun.new)) begun.ready

-- what the memory did is what the lines lead to, by the entries of the setup
traced-left : (entries : ℕ) (start : Start) (p : Picture) (turns : List TraceTurn) → p.chart.shape.entries ≡ entries → TracedSince start p turns → (m : Array) × Run entries start.array turns m × Stands p.chart m
traced-left entries start p turns same t = let d = t.done in (d.array, subst (λ (n : ℕ). Run n start.array turns d.array) same d.run, d.stands)

-- where power failed for good, what a restart finds
died-left : (entries : ℕ) (start : Start) (p : Picture) (turns : List TraceTurn) → p.chart.shape.entries ≡ entries → DiedSince start p turns → (m : Array) × Dies entries start.array turns m × HoldsOff m.words p.chart
died-left entries start p turns same d = let (m, dies, holds) = d.died in (m, subst (λ (n : ℕ). Dies n start.array turns m) same dies, holds)

-- a trace that was served is told of the board that is handed back
pub on-board : (entries : ℕ) (start : Start) (now : Picture) (o : Outcome) (end : End) (lines taken skipped : ℕ) (turns : List TraceTurn) (io : Streams) → o.board ≡ Some now.chart → now.chart.shape.entries ≡ entries
    → Serves end lines taken trace_grammar skipped (TracedSince start now) (DiedSince start now) [] turns io
    → Serves end lines taken trace_grammar skipped (λ t. (m : Array) × Run entries start.array t m × OnBoard (λ c. Stands c m) o) (λ t. (m : Array) × Dies entries start.array t m × OnBoard (HoldsOff m.words) o) [] turns io
on-board entries start now o end lines taken skipped turns io board same s =
    Serves-as end lines taken trace_grammar skipped (TracedSince start now) (DiedSince start now) _ _ [] turns io
    (λ t. let (m, run, stands) = traced-left entries start now turns same t in (m, run, (now.chart, board, stands)))
    (λ d. let (m, dies, holds) = died-left entries start now turns same d in (m, dies, (now.chart, board, holds)))
    s

-- the trace was served over a fresh memory
pub runs-served : (whole : State) (setup : Setup) (returns : ℕ) (old : Chart) (first now : Picture) (end : End) (lines taken : ℕ) (io : Streams) → 0 < setup.shape.entries → IsReady old setup first → Began 0 setup returns first → IsTriedOn setup first.chart → lines ≤ most_bytes → ((start : Start) → TracedSince start first [] → (turns : List TraceTurn) × Serves end lines taken trace_grammar 0 (TracedSince start now) (DiedSince start now) [] turns io) → DoesTask (run_task setup returns) (served_outcome end lines taken now.chart whole) io
runs-served whole setup returns old first now end lines taken io some ready b tried few serves =
    let start : Start = record { array = zeros_of setup; memory = first } in
    let zeros_are : zeros first.chart.shape.pages first.chart.shape.shadows ≡ zeros_of setup = ap (λ (sh : Shape). zeros sh.pages sh.shadows) b.shape in
    let o : Outcome = served_outcome end lines taken now.chart whole in
    let (turns, s) = serves start (subst (λ (m : Array). TracedSince (record { array = m; memory = first }) first []) zeros_are (traced-none old setup first some b.shape ready)) in
    let either = served-either end (TracedSince start now) (DiedSince start now) turns (Ends.served (Serves.ends s)) in
    let entries : now.chart.shape.entries ≡ setup.shape.entries = ap (λ (sh : Shape). sh.entries) (Licence.shape (licensed-either start now turns either) ∙ b.shape) in
    account_of (run_task setup returns) o io (record {
      turns = turns;
      answers = inl (record {
        end = end;
        serves = on-board setup.shape.entries start now o end lines taken 0 turns io refl entries s;
        ending = record { status = refl; why = refl };
      });
      licences = licences-since setup returns start now turns b tried (let same = Serves.lines_are s in omega arith) either;
    })

-- so it is where formatting failed
pub licences-prepared : (setup : Setup) (returns : ℕ) (s : State) (now : Chart) → returns < 2 ^ 32 → IsMade setup.shape returns s → IsPrepared (chart s) now → Licences setup returns [] now
licences-prepared setup returns s now low made p = licences-none setup returns now (p.shape ∙ made.shape) (p.given ∙ made.given) (p.pulled ∙ made.pulled) (p.plans ∙ made.plans) (p.last_plan ∙ made.last_plan) (p.begun ∙ made.begun) (tried-on setup returns s now low made p)

licences-made : (setup : Setup) (returns : ℕ) (board : Option Chart) → returns < 2 ^ 32 → IfSome board (WasMade setup returns) → IfSome board (Licences setup returns [])
licences-made setup returns None low none = tt
licences-made setup returns (Some now) low m = licences-prepared setup returns m.made now low m.new m.prepared

-- a run that ended before a line was read
pub runs-quiet : (setup : Setup) (returns : ℕ) (o : Outcome) (feed : Feed) (sink : Drain) → returns < 2 ^ 32 → NoneBegun setup returns o → DoesTask (run_task setup returns) o (record { from = feed; feed = feed; to = sink; sink = sink })
runs-quiet setup returns o feed sink low n =
    let io : Streams = record { from = feed; feed = feed; to = sink; sink = sink } in
    account_of (run_task setup returns) o io (record {
      turns = [];
      answers = inr (refl, unread o io (record { lines = n.lines; taken = n.taken; source = refl; sink = refl }) n.cause, n.cause);
      licences = licences-made setup returns o.board low n.board;
    })

-- a run whose trace was served
pub runs-ended : {B : Type 0} (state : B → State) (setup : Setup) (returns : ℕ) (first now : Picture) (end : End) (lines taken skipped : ℕ) (board : B) (e : Finished B) (io : Streams) → e ≡ record { ending = ending_of end; lines = lines; taken = taken; board = Some board; second = None } → chart (state board) ≡ now.chart → skipped ≡ 0 → lines ≤ most_bytes → 0 < setup.shape.entries → returns < 2 ^ 32 → IsBegun setup returns first → ((start : Start) → TracedSince start first [] → (turns : List TraceTurn) × Serves end lines taken trace_grammar skipped (TracedSince start now) (DiedSince start now) [] turns io) → DoesTask (run_task setup returns) (outcome_of state e) io
runs-ended {B} state setup returns first now end lines taken skipped board e io is same none few some low begun serves =
    subst (λ (x : Finished B). DoesTask (run_task setup returns) (outcome_of state x) io) (sym is)
    (subst (λ (c : Chart). DoesTask (run_task setup returns) (served_outcome end lines taken c (state board)) io) (sym same)
    (runs-served (state board) setup returns (chart begun.made) first now end lines taken io some begun.ready (began-of setup returns first begun) (tried-on setup returns begun.made first.chart low begun.new (IsReady.prepared begun.ready)) few
    (subst (λ (k : ℕ). (start : Start) → TracedSince start first [] → (turns : List TraceTurn) × Serves end lines taken trace_grammar k (TracedSince start now) (DiedSince start now) [] turns io) none serves)))
