use Rattle.envy_bank.specs.Commands.{upset_at}
use Rattle.envy_bank.specs.Lanes.{lane_of}
use Rattle.envy_bank.proofs.LaneLoops.{Begun}
use Rattle.envy_bank.proofs.lanes.upset_lanes.Given as goal

abbrev pub invariant-loop-lane : goal.invariant-loop-lane
invariant-loop-lane l = Begun (λ lane chip. upset_at chip l.addr (lane_of l.row lane)) l.initial.chips l.chips l.lane
