use Rattle.envy_run.specs.IndexServing.{IndexOff}
use Rattle.envy_run.proofs.index_lines.restart_words.Given as goal

abbrev pub invariant-loop : goal.invariant-loop
invariant-loop g l = IndexOff l.initial.words.memory.chart l.words.memory.chart

abbrev pub decreases-loop : goal.decreases-loop
decreases-loop g l = l.words.memory.chart.lives
