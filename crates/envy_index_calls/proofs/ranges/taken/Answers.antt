use Rattle.std.proofs.Common.{sym, subst, true, false, Bool}
use Rattle.envy_memory.specs.Sheets.{IsHeld}
use Rattle.envy_index_calls.specs.Ranges.{HasFirst}
use Rattle.envy_index_calls.proofs.Ranging.{goes-on, held, lent-shut}
use Rattle.envy_index_calls.proofs.ranges.taken.Goals as goal

pub resume-requires : goal.resume-requires
resume-requires g c =
    let p = c.args.memory in
    let first = subst (HasFirst p.chart) c.if-has_first.true c.has_first.ensures in
    goes-on true p (held true p c.requires.array c.requires.on c.requires.alone first)

pub new-requires : goal.new-requires
new-requires g c =
    let p = c.args.memory in
    let first = subst (HasFirst p.chart) c.if-has_first.false c.has_first.ensures in
    let e = c.invariant_holds.ensures in
    lent-shut p e.magic e.version e.sound c.requires.on (held false p c.requires.array c.requires.on c.requires.alone first)

pub returns-then-has_first-clause-first : goal.returns-then-has_first-clause-first
returns-then-has_first-clause-first g c =
    let p = c.args.memory in
    subst (HasFirst p.chart) (sym c.resume.ensures.begun) (subst (HasFirst p.chart) c.if-has_first.true c.has_first.ensures)

pub returns-then-has_first-clause-held : goal.returns-then-has_first-clause-held
returns-then-has_first-clause-held g c =
    let p = c.args.memory in
    let first = subst (HasFirst p.chart) c.if-has_first.true c.has_first.ensures in
    subst (λ (b : Bool). ∥ IsHeld p.chart b ∥₁) (sym c.resume.ensures.begun) (held true p c.requires.array c.requires.on c.requires.alone first)

pub returns-else-has_first-clause-first : goal.returns-else-has_first-clause-first
returns-else-has_first-clause-first g c =
    let p = c.args.memory in
    subst (HasFirst p.chart) (sym c.new.ensures.shut) (subst (HasFirst p.chart) c.if-has_first.false c.has_first.ensures)

pub returns-else-has_first-clause-held : goal.returns-else-has_first-clause-held
returns-else-has_first-clause-held g c =
    let p = c.args.memory in
    let first = subst (HasFirst p.chart) c.if-has_first.false c.has_first.ensures in
    subst (λ (b : Bool). ∥ IsHeld p.chart b ∥₁) (sym c.new.ensures.shut) (held false p c.requires.array c.requires.on c.requires.alone first)
