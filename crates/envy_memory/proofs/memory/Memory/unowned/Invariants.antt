use Rattle.std.proofs.Common.{◌≡◌, ◌≤◌}
use Rattle.envy_memory.specs.Rooms.{unowned}
use Rattle.envy_memory.proofs.memory.Memory.unowned.Given as goal

abbrev pub invariant-loop-i : goal.invariant-loop-i
invariant-loop-i g l = record {
  counted : l.free ≡ unowned l.i l.first l.self.owned;
  few : l.free ≤ l.i;
}
