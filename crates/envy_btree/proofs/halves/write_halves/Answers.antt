use Rattle.std.proofs.Common.{◌∙◌, length}
use Rattle.envy_array.proofs.Working.{Works-trans}
use Rattle.envy_btree.proofs.Exits.{none-if, err-fails, fails-after, room-left, room-less, more-works}
use Rattle.envy_btree.proofs.halves.write_halves.Goals as goal

pub write_node-requires-clause-begun : goal.write_node-requires-clause-begun
write_node-requires-clause-begun g c = c.requires.begun

pub write_node-requires-clause-within : goal.write_node-requires-clause-within
write_node-requires-clause-within g c = c.requires.second_within

pub write_node-requires-clause-room : goal.write_node-requires-clause-room
write_node-requires-clause-room g c = room-less 2 2 (length (g.W.Words.sheet c.args.words.now).pages) (g.W.Words.sheet c.args.words.now).room c.requires.room

pub returns-in_err-write_node-clause-works : goal.returns-in_err-write_node-clause-works
returns-in_err-write_node-clause-works g c = more-works 2 2 (g.W.Words.sheet c.args.words.now) (g.W.Words.sheet c.write_node.new.words) c.write_node.ensures.works

pub returns-in_err-write_node-clause-fails : goal.returns-in_err-write_node-clause-fails
returns-in_err-write_node-clause-fails g c = err-fails Unit (g.W.Words.sheet c.args.words.now) (g.W.Words.sheet c.write_node.new.words) c.from_residual.result _ c.in_err-write_node.ensures.fails c.from_residual.ensures.1

pub returns-in_err-write_node-clause-halves : goal.returns-in_err-write_node-clause-halves
returns-in_err-write_node-clause-halves g c = none-if c.from_residual.result _ _ c.from_residual.ensures.1

pub write_node-requires-2-clause-begun : goal.write_node-requires-2-clause-begun
write_node-requires-2-clause-begun g c = c.write_node.ensures.works.still c.in_ok-write_node.ensures.fails ∙ c.requires.begun

pub write_node-requires-2-clause-room : goal.write_node-requires-2-clause-room
write_node-requires-2-clause-room g c = room-left 2 2 (g.W.Words.sheet c.args.words.now) (g.W.Words.sheet c.write_node.new.words) c.write_node.ensures.works c.in_ok-write_node.ensures.fails c.requires.room

pub returns-in_err-write_node-2-clause-works : goal.returns-in_err-write_node-2-clause-works
returns-in_err-write_node-2-clause-works g c = Works-trans 2 2 (g.W.Words.sheet c.args.words.now) (g.W.Words.sheet c.write_node.new.words) (g.W.Words.sheet c.write_node-2.new.words) c.write_node.ensures.works c.write_node-2.ensures.works

pub returns-in_err-write_node-2-clause-fails : goal.returns-in_err-write_node-2-clause-fails
returns-in_err-write_node-2-clause-fails g c = fails-after 2 2 (g.W.Words.sheet c.args.words.now) (g.W.Words.sheet c.write_node.new.words) (g.W.Words.sheet c.write_node-2.new.words) c.from_residual-in_err-write_node-2.result c.write_node.ensures.works c.write_node-2.ensures.works (err-fails Unit (g.W.Words.sheet c.write_node.new.words) (g.W.Words.sheet c.write_node-2.new.words) c.from_residual-in_err-write_node-2.result _ c.in_err-write_node-2.ensures.fails c.from_residual-in_err-write_node-2.ensures.1)

pub returns-in_err-write_node-2-clause-halves : goal.returns-in_err-write_node-2-clause-halves
returns-in_err-write_node-2-clause-halves g c = none-if c.from_residual-in_err-write_node-2.result _ _ c.from_residual-in_err-write_node-2.ensures.1

pub returns-clause-works : goal.returns-clause-works
returns-clause-works g c = Works-trans 2 2 (g.W.Words.sheet c.args.words.now) (g.W.Words.sheet c.write_node.new.words) (g.W.Words.sheet c.write_node-2.new.words) c.write_node.ensures.works c.write_node-2.ensures.works

pub returns-clause-fails : goal.returns-clause-fails
returns-clause-fails g c = c.in_ok-write_node-2.ensures.fails
