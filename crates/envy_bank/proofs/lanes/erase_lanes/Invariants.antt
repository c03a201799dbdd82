use Rattle.envy_bank.specs.Lanes.{blanked}
use Rattle.envy_bank.proofs.LaneLoops.{Begun}
use Rattle.envy_bank.proofs.lanes.erase_lanes.Given as goal

abbrev pub invariant-loop-chip : goal.invariant-loop-chip
invariant-loop-chip l = Begun (λ _ chip. blanked l.addr chip) l.initial.chips l.chips l.chip-index
