use Rattle.std.proofs.Common.{◌∙◌, subst, arith, Ok, Option, ℕ}
use Rattle.envy_heap.specs.Pieces.{TakesAs}
use Rattle.envy_heap.proofs.Heaps.{exhausted-spare}
use Rattle.envy_array.proofs.Working.{Works-trans}
use Rattle.envy_btree.proofs.Exits.{none-if, err-fails, no-works, room-left}
use Rattle.envy_btree.proofs.Planting.{taken-within}
use Rattle.envy_btree.proofs.Following.{leafed-of}
use Rattle.envy_btree.proofs.leaf_pairs.add_leaf.Goals as goal

pub unreachable-requires : goal.unreachable-requires
unreachable-requires g c =
    let old = (g.W.Words.sheet c.args.words.now).words in
    let h = c.requires.heap in
    let t = subst (λ r. TakesAs old h.0 (Ok r) (g.W.Words.sheet c.take.new.words).words) c.in_default.is (c.in_ok-piece.ensures.takes h.0 h.1) in
    omega (arith, exhausted-spare old h.0 h.1 t.0)

pub take-requires-clause-begun : goal.take-requires-clause-begun
take-requires-clause-begun g c = c.requires.begun

pub take-requires-clause-room : goal.take-requires-clause-room
take-requires-clause-room g c = c.requires.room

pub take-requires-clause-heap : goal.take-requires-clause-heap
take-requires-clause-heap g c = (c.requires.heap.0, c.requires.heap.1)

pub returns-in_err-piece-clause-works : goal.returns-in_err-piece-clause-works
returns-in_err-piece-clause-works g c = no-works 2 (g.W.Words.sheet c.args.words.now) (g.W.Words.sheet c.take.new.words) (c.take.ensures.works.again c.requires.head)

pub returns-in_err-piece-clause-fails : goal.returns-in_err-piece-clause-fails
returns-in_err-piece-clause-fails g c = err-fails (Option ℕ) (g.W.Words.sheet c.args.words.now) (g.W.Words.sheet c.take.new.words) c.from_residual.result _ c.in_err-piece.ensures.fails c.from_residual.ensures.1

pub returns-in_err-piece-clause-leafed : goal.returns-in_err-piece-clause-leafed
returns-in_err-piece-clause-leafed g c free heap = none-if c.from_residual.result _ _ c.from_residual.ensures.1

pub write_node-requires-clause-begun : goal.write_node-requires-clause-begun
write_node-requires-clause-begun g c = c.take.ensures.works.works.still c.in_ok-piece.ensures.fails ∙ c.requires.begun

pub write_node-requires-clause-within : goal.write_node-requires-clause-within
write_node-requires-clause-within g c =
    let old = (g.W.Words.sheet c.args.words.now).words in
    let first = (g.W.Words.sheet c.take.new.words).words in
    let h = c.requires.heap in
    let t = subst (λ r. TakesAs old h.0 (Ok r) first) c.in-Some.is (c.in_ok-piece.ensures.takes h.0 h.1) in
    taken-within old first c.in-Some.piece h.0 t.0 h.1 t.1

pub write_node-requires-clause-room : goal.write_node-requires-clause-room
write_node-requires-clause-room g c = room-left 0 2 (g.W.Words.sheet c.args.words.now) (g.W.Words.sheet c.take.new.words) (c.take.ensures.works.again c.requires.head) c.in_ok-piece.ensures.fails c.requires.room

pub returns-clause-leafed : goal.returns-clause-leafed
returns-clause-leafed g c free heap =
    let old = (g.W.Words.sheet c.args.words.now).words in
    let first = (g.W.Words.sheet c.take.new.words).words in
    let t = subst (λ r. TakesAs old free (Ok r) first) c.in-Some.is (c.in_ok-piece.ensures.takes free heap) in
    leafed-of old first (g.W.Words.sheet c.write_node.new.words).words free t.0 c.in-Some.piece c.deref.result.now c.deref-2.result.now c.args.pairs.now t.1 (c.deref.ensures.0 ∙ c.leaf_of-leaf.ensures.keys) (c.deref-2.ensures.0 ∙ c.leaf_of-leaf.ensures.values) c.in_ok-write_node.ensures.node c.in_ok-write_node.ensures.only

pub returns-clause-works : goal.returns-clause-works
returns-clause-works g c = Works-trans 0 2 (g.W.Words.sheet c.args.words.now) (g.W.Words.sheet c.take.new.words) (g.W.Words.sheet c.write_node.new.words) (c.take.ensures.works.again c.requires.head) c.write_node.ensures.works
