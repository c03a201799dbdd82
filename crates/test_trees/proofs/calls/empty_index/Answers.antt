use Rattle.envy_heap.specs.Vectors.{vec_sheet}
use Rattle.envy_btree.proofs.Readiness.{ready-new}
use Rattle.test_trees.proofs.calls.empty_index.Goals as goal

pub returns : goal.returns
returns c = ready-new vec_sheet c.args.size c.new.result c.new.ensures.words c.new.ensures.shut c.new.ensures.room c.requires.least c.requires.most
