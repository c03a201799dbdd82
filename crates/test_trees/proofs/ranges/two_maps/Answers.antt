use Rattle.envy_heap.specs.Vectors.{vec_sheet}
use Rattle.test_trees.proofs.Beside.{both-new}
use Rattle.test_trees.proofs.ranges.two_maps.Goals as goal

pub returns : goal.returns
returns c = both-new vec_sheet c.new.result c.new.ensures.words c.new.ensures.shut c.new.ensures.room
