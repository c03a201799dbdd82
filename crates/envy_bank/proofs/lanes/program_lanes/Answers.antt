use Rattle.std.proofs.Common.{arith}
use Rattle.std.proofs.lemmas.Grind.{common_steps}
use Rattle.envy_bank.specs.Lanes.{lane_of}
use Rattle.envy_bank.proofs.LaneLoops.{held_more}
use Rattle.envy_bank.proofs.lanes.program_lanes.Goals as goal

pub loop-lane-preserved : goal.loop-lane-preserved
loop-lane-preserved c = record {
  begun = grind (arith, common_steps);
  held = held_more c.args.addr (lane_of c.args.row.now) c.loop-lane.chips c.loop-lane.lane c.program_lane-held.new.chip c.loop-lane.held c.program_lane-held.result (omega arith) c.loop-lane.invariant.held (rw (← c.lane_byte.ensures) c.program_lane-held.ensures.held);
}
