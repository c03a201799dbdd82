use Rattle.std.proofs.Common.{◌-◌, ◌+◌, ◌^◌, ◌/◌, ◌<◌, None}
use Rattle.envy_memory.specs.StoreRuns.{StoresRun}
use Rattle.envy_memory.specs.Runs.{StandsFor}
use Rattle.envy_memory.proofs.memory.Memory.store_run.Given as goal

abbrev pub invariant-loop-i : goal.invariant-loop-i
invariant-loop-i g l = record {
  stores : StoresRun l.i l.words l.a l.initial.self l.self;
  fits : l.a + l.i < 2 ^ 32;
  stands : 0 < l.i → StandsFor None ((l.a + l.i - 1) / 32) l.frame l.self;
}
