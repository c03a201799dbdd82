use Rattle.envy_space.specs.Winners.{score_in}
use Rattle.envy_space.proofs.RunLemmas.{Narrowed}
use Rattle.envy_space.proofs.nodes.best_between.Given as goal

abbrev pub invariant-loop-low : goal.invariant-loop-low
invariant-loop-low l = Narrowed (score_in l.places l.nodes) l.places l.first l.end l.low l.high l.left l.right

abbrev pub decreases-loop-low : goal.decreases-loop-low
decreases-loop-low l = l.high
