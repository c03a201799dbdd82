use Rattle.std.proofs.Common.{◌≡◌, ◌≤◌, ◌<◌, ◌+◌, Ok, Some, length}
use Rattle.envy_bank.specs.Commands.{ChipState}
use Rattle.envy_cfi.specs.Driving.{IsCalm, IsIdle, Tells}
use Rattle.envy_cfi.proofs.Steps.{Going}
use Rattle.envy_cfi.proofs.driver.order_row.Given as goal

abbrev pub invariant-loop-k : goal.invariant-loop-k
invariant-loop-k g l = record {
  tells : 0 < l.k → Tells (g.B.Bus.heard l.bus) (Ok tt);
  going : (c : ChipState) → g.B.Bus.chip l.initial.bus ≡ Some c → l.addr + 256 ≤ length c.bytes → IsIdle c → IsCalm c → Going c (g.B.Bus.chip l.bus) l.addr l.k l.row;
}
