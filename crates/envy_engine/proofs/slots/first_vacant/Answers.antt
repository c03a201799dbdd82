use Rattle.std.proofs.Common.{ℕ, ◌<◌, subst}
use Rattle.envy_map.specs.Fields.{chart}
use Rattle.envy_soundness.specs.Sound.{Sound, Slots}
use Rattle.envy_soundness.proofs.Formed.{slots-all}
use Rattle.envy_reloc.proofs.Exits.{none-if, none-err}
use Rattle.envy_engine.proofs.EndAnswers.{none-some, within-end}
use Rattle.envy_engine.proofs.slots.first_vacant.Goals as goal

pub returns-in_err-slot-clause-low : goal.returns-in_err-slot-clause-low
returns-in_err-slot-clause-low g c = none-if c.from_residual.result _ _ c.from_residual.ensures.1

pub returns-in_err-slot-clause-lowest : goal.returns-in_err-slot-clause-lowest
returns-in_err-slot-clause-lowest g c = none-if c.from_residual.result _ _ c.from_residual.ensures.1

pub returns-in_err-slot-clause-none : goal.returns-in_err-slot-clause-none
returns-in_err-slot-clause-none g c = none-if c.from_residual.result _ _ c.from_residual.ensures.1

pub returns-in_err-slot-clause-off : goal.returns-in_err-slot-clause-off
returns-in_err-slot-clause-off g c = none-err c.from_residual.result _ _ c.in_err-slot.ensures c.from_residual.ensures.1

pub returns-clause-low : goal.returns-clause-low
returns-clause-low g c t is = none-some t is

pub returns-clause-lowest : goal.returns-clause-lowest
returns-clause-lowest g c t is = none-some t is

pub returns-clause-none : goal.returns-clause-none
returns-clause-none g c is u low = c.loop-t.invariant u (within-end u c.loop-t.t low c.loop-t-test.false)

pub slot-requires-clause-decodes : goal.slot-requires-clause-decodes
slot-requires-clause-decodes g c =
    let s = g.B.Board.state c.args.board.now in
    Slots.decode (Sound.slots c.requires.sound) c.loop-t.t (subst (λ (n : ℕ). c.loop-t.t < n) (slots-all s.shape (chart s).fields.version c.requires.version) c.loop-t-test.true)
