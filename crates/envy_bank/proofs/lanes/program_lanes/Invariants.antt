use Rattle.std.proofs.Common.{◌≡◌, ◌<◌, ◌↔◌, ℕ, IsTrue, slice_index, slice_index_or}
use Rattle.envy_bank.specs.Commands.{ChipState}
use Rattle.envy_bank.specs.Lanes.{lane_of, anded}
use Rattle.envy_bank.proofs.LaneLoops.{Begun}
use Rattle.envy_bank.proofs.lanes.program_lanes.Given as goal

abbrev pub invariant-loop-lane : goal.invariant-loop-lane
invariant-loop-lane l = record {
  begun : Begun (λ lane chip. anded l.addr (lane_of l.row lane) chip) l.initial.chips l.chips l.lane;
  held : IsTrue l.held ↔ ((j : ℕ) (d : ChipState) → j < l.lane → slice_index (ChipState.bytes (slice_index_or l.chips j d)) l.addr ≡ lane_of l.row j);
}
