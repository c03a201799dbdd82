use Rattle.std.specs.Prelude.{◌≡◌, length}
use Rattle.envy_heap.specs.Vectors.{vec_sheet}
use Rattle.test_trees.proofs.ranges.check_words.Given as goal

abbrev pub invariant-loop-i : goal.invariant-loop-i
invariant-loop-i g l = length (vec_sheet l.words).words ≡ 2048
