use Rattle.envy_soundness.specs.Words.{durable}
use Rattle.envy_tpca.specs.Loading.{CountsUncut}
use Rattle.envy_tpca.specs.Since.{Since}
use Rattle.envy_tpca.specs.Trying.{Rests}
use Rattle.envy_tpca.proofs.driver.transfer_once.Given as goal

abbrev pub invariant-loop-memory : goal.invariant-loop-memory
invariant-loop-memory g l = record {
  rests : Rests (durable l.initial.memory.chart) l.memory;
  since : Since 0 l.initial.memory l.memory;
  uncut : CountsUncut 0 l.initial.memory l.memory;
}

abbrev pub decreases-loop-memory : goal.decreases-loop-memory
decreases-loop-memory g l = l.memory.chart.lives
