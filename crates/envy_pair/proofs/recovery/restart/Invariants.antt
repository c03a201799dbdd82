use Rattle.envy_pair.specs.Restarting.{IsStillDark}
use Rattle.envy_mirror.specs.Pair.{side_at}
use Rattle.envy_pair.proofs.recovery.restart.Given as goal

abbrev pub invariant-loop : goal.invariant-loop
invariant-loop g l = IsStillDark l.initial.mirror l.mirror

abbrev pub decreases-loop : goal.decreases-loop
decreases-loop g l = (side_at l.initial.mirror.last l.mirror).memory.chart.lives
