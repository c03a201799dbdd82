use Rattle.std.proofs.Common.{ℕ, Ok}
use Rattle.envy_heap.specs.Vectors.{vec_sheet}
use Rattle.envy_btree.proofs.Readiness.{ready-new}
use Rattle.test_trees.proofs.watched.watched_index.Goals as goal

pub returns : goal.returns
returns c =
    let new = c.in_ok-words.ensures in
    ready-new {E = ℕ} vec_sheet c.args.size (Ok c.in_ok-words.words) new.words new.shut new.room c.requires.least c.requires.most
