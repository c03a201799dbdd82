use Rattle.std.proofs.Common.{◌≡◌, ◌≢◌, false, refl, ap, sym, ◌∙◌, subst, arith}
use Rattle.envy_io.specs.Taking.{Taking}
use Rattle.envy_io.specs.Fetching.{IsIdle}
use Rattle.envy_io.proofs.Fetches.{Failed-bytes, Failed-held, Fetched-none, Short-bytes, Spent-bytes, Whole-bytes, Whole-held, none-held}
use Rattle.envy_io.proofs.Fetched.{pulls-fewer, idle-absurd, Fetched-more}
use Rattle.envy_io.proofs.lines.Lines.next_bytes.Goals as goal

pub loop-count-smaller : goal.loop-count-smaller
loop-count-smaller g c =
    let going : c.loop-count.self.ended ≡ false = ap (λ (t : Taking). t.ended) (sym c.self.view_is) ∙ c.if-self.false in
    let below : c.loop-count.self.taken ≢ c.loop-count.self.cap = λ full. c.if-self-2.false (ap (λ (t : Taking). t.taken) c.self.view_is ∙ (full ∙ ap (λ (t : Taking). t.cap) (sym c.self.view_is))) in
    pulls-fewer c.loop-count.self c.pull.new.self _ _ _ _ _ _ going below c.loop-count.invariant.fetched.draws.within c.in-Ok.ensures.pulls

pub loop-count-preserved : goal.loop-count-preserved
loop-count-preserved g c =
    let going : c.loop-count.self.ended ≡ false = ap (λ (t : Taking). t.ended) (sym c.self.view_is) ∙ c.if-self.false in
    let below : c.loop-count.self.taken ≢ c.loop-count.self.cap = λ full. c.if-self-2.false (ap (λ (t : Taking). t.taken) c.self.view_is ∙ (full ∙ ap (λ (t : Taking). t.cap) (sym c.self.view_is))) in
    record {
      fetched = Fetched-more _ c.loop-count.self _ _ c.loop-count.into _ c.loop-count.invariant.fetched c.loop-count-test.true going c.pull.new.self _ c.pull.new.into _ c.pull.auto.into c.in-Ok.ensures.pulls;
      unasked = idle-absurd _ c.loop-count.self _ _ c.loop-count.into _ c.loop-count.invariant.fetched c.loop-count-test.true going _ c.pull.auto.into below;
    }

pub returns-in-Err-clause-unasked : goal.returns-in-Err-clause-unasked
returns-in-Err-clause-unasked g c =
    let going : c.loop-count.self.ended ≡ false = ap (λ (t : Taking). t.ended) (sym c.self.view_is) ∙ c.if-self.false in
    let below : c.loop-count.self.taken ≢ c.loop-count.self.cap = λ full. c.if-self-2.false (ap (λ (t : Taking). t.taken) c.self.view_is ∙ (full ∙ ap (λ (t : Taking). t.cap) (sym c.self.view_is))) in
    idle-absurd _ c.loop-count.self _ _ c.loop-count.into _ c.loop-count.invariant.fetched c.loop-count-test.true going _ (omega (arith, c.loop-count.auto.into, c.hand_over-count.auto.into)) below

pub loop-count-init : goal.loop-count-init
loop-count-init g c =
    record { fetched = Fetched-none _ c.hand_over-count.new.self _ c.hand_over-count.new.into _ c.hand_over-count.ensures; unasked = λ _. refl }

pub returns-then-self-clause-fetches : goal.returns-then-self-clause-fetches
returns-then-self-clause-fetches g c = Short-bytes _ c.loop-count.self _ _ c.loop-count.into _ c.loop-count.invariant.fetched c.loop-count-test.true (ap (λ (t : Taking). t.ended) (sym c.self.view_is) ∙ c.if-self.true)

pub returns-then-self-clause-nothing_over : goal.returns-then-self-clause-nothing_over
returns-then-self-clause-nothing_over g c = λ _. none-held _ c.loop-count.self _ _ c.loop-count.into _ c.loop-count.invariant.fetched c.loop-count-test.true

pub returns-then-self-clause-unasked : goal.returns-then-self-clause-unasked
returns-then-self-clause-unasked g c = λ idle. c.loop-count.invariant.unasked (subst (λ n. IsIdle c.args.self.now n) (sym (c.loop-count.auto.into ∙ c.hand_over-count.auto.into)) idle)

pub returns-then-self-2-clause-fetches : goal.returns-then-self-2-clause-fetches
returns-then-self-2-clause-fetches g c =
    let going : c.loop-count.self.ended ≡ false = ap (λ (t : Taking). t.ended) (sym c.self.view_is) ∙ c.if-self.false in
    Spent-bytes _ c.loop-count.self _ _ c.loop-count.into _ c.loop-count.invariant.fetched c.loop-count-test.true going (ap (λ (t : Taking). t.taken) (sym c.self.view_is) ∙ (c.if-self-2.true ∙ ap (λ (t : Taking). t.cap) c.self.view_is))

pub returns-then-self-2-clause-nothing_over : goal.returns-then-self-2-clause-nothing_over
returns-then-self-2-clause-nothing_over g c = λ _. none-held _ c.loop-count.self _ _ c.loop-count.into _ c.loop-count.invariant.fetched c.loop-count-test.true

pub returns-then-self-2-clause-unasked : goal.returns-then-self-2-clause-unasked
returns-then-self-2-clause-unasked g c = λ idle. c.loop-count.invariant.unasked (subst (λ n. IsIdle c.args.self.now n) (sym (c.loop-count.auto.into ∙ c.hand_over-count.auto.into)) idle)

pub returns-in-Err-clause-fetches : goal.returns-in-Err-clause-fetches
returns-in-Err-clause-fetches g c =
    let going : c.loop-count.self.ended ≡ false = ap (λ (t : Taking). t.ended) (sym c.self.view_is) ∙ c.if-self.false in
    let below : c.loop-count.self.taken ≢ c.loop-count.self.cap = λ full. c.if-self-2.false (ap (λ (t : Taking). t.taken) c.self.view_is ∙ (full ∙ ap (λ (t : Taking). t.cap) (sym c.self.view_is))) in
    Failed-bytes _ c.loop-count.self _ _ c.loop-count.into _ c.loop-count.invariant.fetched c.loop-count-test.true going below c.pull.new.into c.pull.auto.into c.pull.new.self _ _ c.in-Err.ensures.pulls

pub returns-in-Err-clause-nothing_over : goal.returns-in-Err-clause-nothing_over
returns-in-Err-clause-nothing_over g c = λ _. Failed-held _ c.loop-count.self _ _ c.loop-count.into _ c.loop-count.invariant.fetched c.loop-count-test.true c.pull.new.into c.pull.new.self _ _ c.in-Err.ensures.pulls

pub returns-clause-fetches : goal.returns-clause-fetches
returns-clause-fetches g c = Whole-bytes _ c.loop-count.self _ _ c.loop-count.into _ c.loop-count.invariant.fetched c.loop-count-test.false

pub returns-clause-nothing_over : goal.returns-clause-nothing_over
returns-clause-nothing_over g c = Whole-held _ c.loop-count.self _ _ c.loop-count.into _ c.loop-count.invariant.fetched c.loop-count-test.false

pub returns-clause-unasked : goal.returns-clause-unasked
returns-clause-unasked g c = λ idle. c.loop-count.invariant.unasked (subst (λ n. IsIdle c.args.self.now n) (sym (c.loop-count.auto.into ∙ c.hand_over-count.auto.into)) idle)
