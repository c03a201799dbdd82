use Rattle.std.proofs.Common.{◌≢◌, ℕ, ◌<◌, Some}
use Rattle.envy_base.specs.declared.fields.Slot.TheVariants.{Active}
use Rattle.envy_map.specs.Fields.{chart, slot}
use Rattle.envy_mirror.proofs.catch_up.lowest_open.Given as goal

abbrev pub invariant-loop-t : goal.invariant-loop-t
invariant-loop-t g l = (u : ℕ) → u < l.t → slot l.fn.memory.chart.fields u ≢ Some Active
