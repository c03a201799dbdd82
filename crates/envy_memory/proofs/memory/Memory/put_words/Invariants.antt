use Rattle.std.proofs.Common.{◌-◌, ◌+◌, ◌^◌, ◌/◌, ◌<◌, Some}
use Rattle.envy_memory.specs.PutRuns.{PutsRun}
use Rattle.envy_memory.specs.Runs.{StandsFor}
use Rattle.envy_memory.proofs.memory.Memory.put_words.Given as goal

abbrev pub invariant-loop-i : goal.invariant-loop-i
invariant-loop-i g l = record {
  puts : PutsRun l.i l.words l.t l.a l.initial.self l.self;
  fits : l.a + l.i < 2 ^ 32;
  stands : 0 < l.i → StandsFor (Some l.t) ((l.a + l.i - 1) / 32) l.frame l.self;
}
