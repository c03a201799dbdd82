use Rattle.envy_heap.specs.Vectors.{vec_sheet}
use Rattle.envy_btree.specs.Testing.{IsReady}
use Rattle.test_trees.proofs.maps.fill_by.Given as goal

abbrev pub invariant-loop-i : goal.invariant-loop-i
invariant-loop-i g l = IsReady (vec_sheet l.words)
