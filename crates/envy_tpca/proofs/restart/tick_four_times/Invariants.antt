use Rattle.envy_soundness.specs.Words.{durable}
use Rattle.envy_tpca.specs.Loading.{Accessed}
use Rattle.envy_tpca.specs.Since.{Since}
use Rattle.envy_tpca.specs.Trying.{Rests}
use Rattle.envy_tpca.proofs.restart.tick_four_times.Given as goal

abbrev pub invariant-loop-tick : goal.invariant-loop-tick
invariant-loop-tick g l = record {
  rests : Rests (durable l.initial.memory.chart) l.memory;
  since : Since 0 l.initial.memory l.memory;
  accessed : Accessed 0 l.initial.memory.parts.cache l.memory.parts.cache;
}
