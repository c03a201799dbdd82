use Rattle.envy_sum.specs.Lanes.{IsLane}
use Rattle.envy_sum.proofs.lanes.lane.Given as goal

abbrev pub invariant-loop-bit : goal.invariant-loop-bit
invariant-loop-bit l = IsLane l.bit l.bits l.entries.items
