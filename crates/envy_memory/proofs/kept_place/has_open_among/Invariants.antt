use Rattle.std.proofs.Common.{◌≢◌, ◌<◌, ◌≤◌, ℕ, Some}
use Rattle.envy_base.specs.declared.fields.Slot.TheVariants.{Active}
use Rattle.envy_map.specs.Fields.{chart, slot}
use Rattle.envy_memory.proofs.kept_place.has_open_among.Given as goal

abbrev pub invariant-loop-t : goal.invariant-loop-t
invariant-loop-t g l = (u : ℕ) → l.first ≤ u → u < l.t → slot (chart (g.B.Board.state l.board)).fields u ≢ Some Active
