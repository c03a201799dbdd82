use Rattle.std.proofs.Common.{◌≡◌, ◌∙◌, Some, false, sym, subst}
use Rattle.std.specs.Prelude.{IsTrue}
use Rattle.envy_memory.specs.Opened.{HasOpenFrom}
use Rattle.envy_memory.specs.Picture.{Picture}
use Rattle.envy_memory.specs.Sheets.{IsHeld}
use Rattle.envy_index_calls.specs.Ranges.{HasFirst, MayHold}
use Rattle.envy_index_calls.proofs.Ranging.{alone-of, lends}
use Rattle.envy_index_calls.proofs.ranges.lend.Goals as goal

pub taken-requires-clause-array : goal.taken-requires-clause-array
taken-requires-clause-array g c = subst MayHold (sym c.denial.ensures.same) c.in_default-denial.ensures.reason.array

pub taken-requires-clause-on : goal.taken-requires-clause-on
taken-requires-clause-on g c = subst (λ (p : Picture). IsTrue p.chart.on) (sym c.denial.ensures.same) c.in_default-denial.ensures.reason.on

pub taken-requires-clause-alone : goal.taken-requires-clause-alone
taken-requires-clause-alone g c =
    subst (λ (p : Picture). HasOpenFrom 1 p.chart false) (sym c.denial.ensures.same) (alone-of c.args.whose c.args.range c.in-Some.memory c.in_default-denial.ensures.reason)

pub returns : goal.returns
returns g c =
    let value = c.in-Some.ensures.value in
    let is : c.args.place.now ≡ Some c.in-Some.memory = cc in
    let same = c.denial.ensures.same in
    lends c.args.whose c.args.range c.args.place.now c.take.new.self c.in-Some.memory c.taken.result.memory c.taken.result.begun is (c.taken.ensures.same ∙ same) c.in_default-denial.ensures.reason
    (subst (λ (p : Picture). HasFirst p.chart c.taken.result.begun) same c.taken.ensures.first)
    (subst (λ (p : Picture). ∥ IsHeld p.chart c.taken.result.begun ∥₁) same c.taken.ensures.held)
