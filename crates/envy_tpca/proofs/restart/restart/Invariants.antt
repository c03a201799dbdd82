use Rattle.std.proofs.Common.{◌≡◌}
use Rattle.envy_memory.specs.Picture.{counts_of}
use Rattle.envy_tpca.proofs.Between.{Waits}
use Rattle.envy_tpca.proofs.restart.restart.Given as goal

abbrev pub invariant-loop : goal.invariant-loop
invariant-loop g l = record {
  waits : Waits l.initial.memory l.memory;
  counts : counts_of l.memory.parts ≡ counts_of l.initial.memory.parts;
}

abbrev pub decreases-loop : goal.decreases-loop
decreases-loop g l = l.memory.chart.lives
