use Rattle.envy_heap.specs.Vectors.{vec_sheet}
use Rattle.test_trees.specs.Beside.{HasBoth}
use Rattle.test_trees.proofs.ranges.check_turns.Given as goal

abbrev pub invariant-loop-i : goal.invariant-loop-i
invariant-loop-i g l = HasBoth (vec_sheet l.words)
