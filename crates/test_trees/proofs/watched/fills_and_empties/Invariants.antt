use Rattle.envy_heap.specs.Vectors.{vec_sheet}
use Rattle.envy_btree.specs.Testing.{IsReady}
use Rattle.test_trees.proofs.watched.fills_and_empties.Given as goal

abbrev pub invariant-loop-i : goal.invariant-loop-i
invariant-loop-i g l = IsReady (vec_sheet l.words.words)

abbrev pub invariant-loop-i-2 : goal.invariant-loop-i-2
invariant-loop-i-2 g l = IsReady (vec_sheet l.words.words)

abbrev pub invariant-loop-i-3 : goal.invariant-loop-i-3
invariant-loop-i-3 g l = IsReady (vec_sheet l.words.words)
