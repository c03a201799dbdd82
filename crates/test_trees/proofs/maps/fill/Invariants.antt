use Rattle.envy_heap.specs.Vectors.{vec_sheet}
use Rattle.envy_btree.specs.Testing.{IsReady}
use Rattle.test_trees.proofs.maps.fill.Given as goal

abbrev pub invariant-loop-key : goal.invariant-loop-key
invariant-loop-key g l = IsReady (vec_sheet l.words)
