use Rattle.std.proofs.Common.{◌≢◌, ℕ, ◌<◌, Some}
use Rattle.envy_base.specs.declared.fields.Slot.TheVariants.{Vacant}
use Rattle.envy_map.specs.Fields.{chart, slot}
use Rattle.envy_engine.proofs.slots.first_vacant.Given as goal

abbrev pub invariant-loop-t : goal.invariant-loop-t
invariant-loop-t g l = (u : ℕ) → u < l.t → slot (chart (g.B.Board.state l.board)).fields u ≢ Some Vacant
