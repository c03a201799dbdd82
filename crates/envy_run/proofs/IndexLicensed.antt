-- What the board's counts license of the lines of an index since its trace began.
use Rattle.std.proofs.Common.{◌≡◌, ◌⊎◌, inl, inr, ℕ, ◌+◌, ◌*◌, ◌≤◌, Bool, List, [], ◌∷◌, length, refl, sym, ◌∙◌, ap, subst, arith}
use Rattle.std.specs.Prelude.{None, sum}
use Rattle.envy_base.specs.declared.shape.Shape.{Shape}
use Rattle.envy_btree.specs.declared.line.IndexLine.{IndexLine}
use Rattle.envy_btree.specs.declared.line.IndexLine.TheVariants.{Empty, Get, Insert, Remove, Power, Cut, Bad}
use Rattle.envy_btree.specs.declared.reply.IndexReply.{IndexReply}
use Rattle.envy_map.specs.Fields.{Chart}
use Rattle.envy_memory.proofs.Counted.{below-top}
use Rattle.envy_memory.specs.Picture.{Picture}
use Rattle.envy_memory.specs.Rises.{RoseOver}
use Rattle.envy_policy.specs.declared.setup.Setup.{Setup}
use Rattle.envy_serve.proofs.Counts.{count-lines, count-of}
use Rattle.envy_serve.specs.Ends.{most_bytes}
use Rattle.envy_serve.specs.Turns.{count_lines, count_replies, one_if}
use Rattle.envy_run.specs.IndexDone.{IndexLicences}
use Rattle.envy_run.specs.IndexServing.{IndexLicensed, IndexedSince, FellIn, FellSince}
use Rattle.envy_run.specs.IndexSpending.{SpendsPuts, puts_in, tries_before}
use Rattle.envy_run.specs.IndexTurns.{Pairs, IndexTurn, IndexRun, DoesIndex, most_of, before_restart, is_power, is_plan, plan_of, is_lost, is_fault}
use Rattle.envy_run.specs.Licence.{Licence, plans_in, newest}
use Rattle.envy_run.proofs.IndexSpent.{puts-none, thrifty-index}
use Rattle.envy_run.proofs.Recovering.{plans-count}
use Rattle.envy_run.proofs.Traced.{IsTriedOn, times-few}

-- each line that plans a failure plans one
length-plan : (line : IndexLine) → length (plan_of line) ≡ one_if (is_plan line)
length-plan Empty = refl
length-plan (Get key) = refl
length-plan (Insert key value) = refl
length-plan (Remove key) = refl
length-plan Power = refl
length-plan (Cut k g) = refl
length-plan (Bad k g) = refl

length-plans : (turns : List IndexTurn) → length (plans_in plan_of turns) ≡ count_lines is_plan turns
length-plans turns = plans-count plan_of is_plan length-plan turns

-- a line has two replies at most
does-few : (most : ℕ) (es : Pairs) (line : IndexLine) (replies : List IndexReply) (n : Pairs) → DoesIndex most es line replies n → length replies ≤ 2
does-few most es line replies n (inl (empty, none, same)) = let e = ap length none in omega arith
does-few most es line replies n (inr (inl (reply, one, says))) = let e = ap length one in omega arith
does-few most es line replies n (inr (inr (inl (two, loses)))) = let e = ap length two in omega arith
does-few most es line replies n (inr (inr (inr (power, one, is)))) = let e = ap length one in omega arith

run-few : (test : IndexReply → Bool) (most : ℕ) (turns : List IndexTurn) (n : Pairs) → IndexRun most turns n → count_replies test turns ≤ 2 * length turns
run-few test most [] n run = omega arith
run-few test most (turn ∷ earlier) n (mid, before, does) =
    let rest = run-few test most earlier mid before in
    let here = count-of test turn.replies in
    let few = does-few most mid turn.line turn.replies n does in
    omega arith

before-few : (line : IndexLine) → length (before_restart line) ≤ 1
before-few Empty = omega arith
before-few (Get key) = omega arith
before-few (Insert key value) = omega arith
before-few (Remove key) = omega arith
before-few Power = omega arith
before-few (Cut k g) = omega arith
before-few (Bad k g) = omega arith

since-few : (test : IndexReply → Bool) (first : Chart) (p : Picture) (b : Bool) (turns : List IndexTurn) → IndexedSince first p b turns ⊎ FellSince first p.chart turns → count_replies test turns ≤ 2 * length turns
since-few test first p b turns (inl t) = run-few test (most_of p.chart.shape.pages) turns (IndexedSince.pairs t) (IndexedSince.run t)
since-few test first p b [] (inr d) = omega arith
since-few test first p b (turn ∷ earlier) (inr d) =
    let rest = run-few test (most_of p.chart.shape.pages) earlier (FellIn.pairs (FellSince.fell d)) (FellIn.run (FellSince.fell d)) in
    let here = count-of test turn.replies in
    let few = before-few turn.line in
    let same = ap length (FellIn.replies (FellSince.fell d)) in
    omega arith

licensed-either : (first : Chart) (p : Picture) (b : Bool) (turns : List IndexTurn) → IndexedSince first p b turns ⊎ FellSince first p.chart turns → IndexLicensed turns first p.chart
licensed-either first p b turns (inl t) = IndexedSince.licensed t
licensed-either first p b turns (inr d) = FellSince.licensed d

spent-either : (first : Chart) (p : Picture) (b : Bool) (turns : List IndexTurn) → IndexedSince first p b turns ⊎ FellSince first p.chart turns → SpendsPuts (puts_in turns) first p.chart
spent-either first p b turns (inl t) = IndexedSince.spent t
spent-either first p b turns (inr d) = FellSince.spent d

-- what a board was when its trace began
pub record IndexBegan (setup : Setup) (returns : ℕ) (first : Chart) : Type 0 where
  pub shape : first.shape ≡ setup.shape
  pub given : first.given ≡ returns
  pub pulled : first.pulled ≡ 0
  pub plans : first.plans ≡ 0
  pub last_plan : first.last_plan ≡ None
  pub begun : first.begun ≡ 0
  pub tried : IsTriedOn setup first

tried-erases : (setup : Setup) (returns : ℕ) (c : Chart) (b : IndexBegan setup returns c) → sum c.erases ≤ c.shape.segments * IsTriedOn.times (IndexBegan.tried b)
tried-erases setup returns c b = subst (λ (sh : Shape). sum c.erases ≤ sh.segments * IsTriedOn.times (IndexBegan.tried b)) (sym b.shape) (IsTriedOn.erases b.tried)

-- before the first line there is nothing to license
pub licences-none : (setup : Setup) (returns : ℕ) (c : Chart) → IndexBegan setup returns c → IndexLicences setup returns [] c
licences-none setup returns c b = record {
  shape = b.shape;
  given = b.given;
  pulled = b.pulled;
  plans = b.plans;
  last_plan = b.last_plan;
  losts = omega arith;
  faults = omega arith;
  thrifty = thrifty-index (IsTriedOn.times b.tried) (tries_before [] c) [] c c refl (let paid = IsTriedOn.paid b.tried in omega arith) b.begun (tried-erases setup returns c b) (puts-none c);
}

-- what the board's counts say of the turns since it was formatted
pub licences-since : (setup : Setup) (returns : ℕ) (first : Chart) (p : Picture) (d : Bool) (turns : List IndexTurn) → IndexBegan setup returns first → length turns ≤ most_bytes → IndexedSince first p d turns ⊎ FellSince first p.chart turns → IndexLicences setup returns turns p.chart
licences-since setup returns first p d turns b few since =
    let l = licensed-either first p d turns since in
    let powers = count-lines is_power turns in
    let planned = count-lines is_plan turns in
    let lost = since-few is_lost first p d turns since in
    let fault = since-few is_fault first p d turns since in
    let pulled_none = b.pulled in
    let plans_none = b.plans in
    let times = IsTriedOn.times b.tried in
    let enough = times-few times (count_lines is_power turns + count_replies is_lost turns) first.cuts p.chart.cuts (IsTriedOn.paid b.tried) (IsTriedOn.low b.tried) (omega arith) (λ lt. RoseOver.rise (Licence.cuts l) lt) in
    record {
      shape = Licence.shape l ∙ b.shape;
      given = Licence.given l ∙ b.given;
      pulled = let e = Licence.pulled l (omega arith) in omega arith;
      plans = let long = length-plans turns in let e = Licence.plans_made l (omega arith) in omega arith;
      last_plan = Licence.last_plan l ∙ ap (newest (plans_in plan_of turns)) b.last_plan;
      losts = below-top (count_lines is_power turns + count_replies is_lost turns) p.chart.cuts (omega arith) (λ lt. let rise = RoseOver.rise (Licence.cuts l) lt in omega arith);
      faults = below-top (count_replies is_fault turns) p.chart.bads (omega arith) (λ lt. let rise = RoseOver.rise (Licence.bads l) lt in omega arith);
      thrifty = thrifty-index times (tries_before turns p.chart) turns first p.chart (Licence.shape l) enough b.begun (tried-erases setup returns first b) (spent-either first p d turns since);
    }
