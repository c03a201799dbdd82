use Rattle.std.proofs.Common.{ℕ, ◌+◌, ◌≤◌, ◌∙◌, length, sym, subst, arith, Ok, Option, inl}
use Rattle.envy_heap.specs.Pieces.{TakesAs, one}
use Rattle.envy_heap.proofs.Heaps.{exhausted-spare}
use Rattle.envy_btree.proofs.Planting.{crown-ok}
use Rattle.envy_array.proofs.Working.{Works-trans}
use Rattle.envy_btree.proofs.Exits.{none-if, err-fails, fails-after, no-works, room-left, put-ends, zero-in}
use Rattle.envy_btree.proofs.Planting.{taken-within}
use Rattle.envy_btree.proofs.new_root.crown.Goals as goal

pub unreachable-requires : goal.unreachable-requires
unreachable-requires g c =
    let old = (g.W.Words.sheet c.args.words.now).words in
    let h = c.requires.heap in
    let t = subst (λ r. TakesAs old h.0 (Ok r) (g.W.Words.sheet c.take.new.words).words) c.in_default.is (c.in_ok-piece.ensures.takes h.0 h.1) in
    omega (arith, exhausted-spare old h.0 h.1 t.0)

pub returns-clause-crowned : goal.returns-clause-crowned
returns-clause-crowned g c free heap =
    let old = (g.W.Words.sheet c.args.words.now).words in
    let first = (g.W.Words.sheet c.take.new.words).words in
    let t = subst (λ r. TakesAs old free (Ok r) first) c.in-Some.is (c.in_ok-piece.ensures.takes free heap) in
    crown-ok old first (g.W.Words.sheet c.write_node.new.words) (g.W.Words.sheet c.put.new.self) free t.0 c.in-Some.piece (one c.args.inner) c.args.keys.now c.args.slots.now c.put.result heap t.1 c.in_ok-write_node.ensures.node c.in_ok-write_node.ensures.only c.requires.keys c.requires.slots c.put.ensures.answer

pub take-requires-clause-begun : goal.take-requires-clause-begun
take-requires-clause-begun g c = c.requires.begun

pub take-requires-clause-room : goal.take-requires-clause-room
take-requires-clause-room g c = c.requires.room

pub take-requires-clause-heap : goal.take-requires-clause-heap
take-requires-clause-heap g c = (c.requires.heap.0, c.requires.heap.1)

pub returns-in_err-piece-clause-works : goal.returns-in_err-piece-clause-works
returns-in_err-piece-clause-works g c = no-works 2 (g.W.Words.sheet c.args.words.now) (g.W.Words.sheet c.take.new.words) (c.take.ensures.works.again c.requires.head)

pub returns-in_err-piece-clause-fails : goal.returns-in_err-piece-clause-fails
returns-in_err-piece-clause-fails g c = err-fails (Option ℕ) (g.W.Words.sheet c.args.words.now) (g.W.Words.sheet c.take.new.words) c.from_residual.result _ c.in_err-piece.ensures.fails c.from_residual.ensures.1

pub returns-in_err-piece-clause-crowned : goal.returns-in_err-piece-clause-crowned
returns-in_err-piece-clause-crowned g c free heap = none-if c.from_residual.result _ _ c.from_residual.ensures.1

pub write_node-requires-clause-begun : goal.write_node-requires-clause-begun
write_node-requires-clause-begun g c = c.take.ensures.works.works.still c.in_ok-piece.ensures.fails ∙ c.requires.begun

pub write_node-requires-clause-within : goal.write_node-requires-clause-within
write_node-requires-clause-within g c =
    let old = (g.W.Words.sheet c.args.words.now).words in
    let first = (g.W.Words.sheet c.take.new.words).words in
    let h = c.requires.heap in
    let t = subst (λ r. TakesAs old h.0 (Ok r) first) c.in-Some.is (c.in_ok-piece.ensures.takes h.0 h.1) in
    taken-within old first c.in-Some.piece h.0 t.0 h.1 t.1

pub write_node-requires-clause-keys : goal.write_node-requires-clause-keys
write_node-requires-clause-keys g c = c.requires.keys

pub write_node-requires-clause-slots : goal.write_node-requires-clause-slots
write_node-requires-clause-slots g c = c.requires.slots

pub write_node-requires-clause-room : goal.write_node-requires-clause-room
write_node-requires-clause-room g c = room-left 0 2 (g.W.Words.sheet c.args.words.now) (g.W.Words.sheet c.take.new.words) (c.take.ensures.works.again c.requires.head) c.in_ok-piece.ensures.fails c.requires.room

pub returns-in_err-write_node-clause-works : goal.returns-in_err-write_node-clause-works
returns-in_err-write_node-clause-works g c = Works-trans 0 2 (g.W.Words.sheet c.args.words.now) (g.W.Words.sheet c.take.new.words) (g.W.Words.sheet c.write_node.new.words) (c.take.ensures.works.again c.requires.head) c.write_node.ensures.works

pub returns-in_err-write_node-clause-fails : goal.returns-in_err-write_node-clause-fails
returns-in_err-write_node-clause-fails g c = fails-after 0 2 (g.W.Words.sheet c.args.words.now) (g.W.Words.sheet c.take.new.words) (g.W.Words.sheet c.write_node.new.words) c.from_residual-in_err-write_node.result (c.take.ensures.works.again c.requires.head) c.write_node.ensures.works (err-fails Unit (g.W.Words.sheet c.take.new.words) (g.W.Words.sheet c.write_node.new.words) c.from_residual-in_err-write_node.result _ c.in_err-write_node.ensures.fails c.from_residual-in_err-write_node.ensures.1)

pub returns-in_err-write_node-clause-crowned : goal.returns-in_err-write_node-clause-crowned
returns-in_err-write_node-clause-crowned g c free heap = none-if c.from_residual-in_err-write_node.result _ _ c.from_residual-in_err-write_node.ensures.1

pub put-requires-clause-address : goal.put-requires-clause-address
put-requires-clause-address g c =
    let long = c.write_node.ensures.works.long ∙ c.take.ensures.works.works.long in
    zero-in (length (g.W.Words.sheet c.write_node.new.words).words) (subst (λ n. 640 ≤ n) (sym long) c.requires.heap.1.size)

pub put-requires-clause-begun : goal.put-requires-clause-begun
put-requires-clause-begun g c = c.write_node.ensures.works.still c.in_ok-write_node.ensures.fails ∙ (c.take.ensures.works.works.still c.in_ok-piece.ensures.fails ∙ c.requires.begun)

pub put-requires-clause-room : goal.put-requires-clause-room
put-requires-clause-room g c = inl (c.write_node.ensures.works.seen c.in_ok-write_node.ensures.fails 0 (c.take.ensures.works.works.seen c.in_ok-piece.ensures.fails 0 c.requires.head))

pub returns-clause-works : goal.returns-clause-works
returns-clause-works g c = Works-trans 2 0 (g.W.Words.sheet c.args.words.now) (g.W.Words.sheet c.write_node.new.words) (g.W.Words.sheet c.put.new.self) (Works-trans 0 2 (g.W.Words.sheet c.args.words.now) (g.W.Words.sheet c.take.new.words) (g.W.Words.sheet c.write_node.new.words) (c.take.ensures.works.again c.requires.head) c.write_node.ensures.works) (c.put.ensures.works.again (c.write_node.ensures.works.seen c.in_ok-write_node.ensures.fails 0 (c.take.ensures.works.works.seen c.in_ok-piece.ensures.fails 0 c.requires.head)))

pub returns-clause-fails : goal.returns-clause-fails
returns-clause-fails g c = fails-after 2 1 (g.W.Words.sheet c.args.words.now) (g.W.Words.sheet c.write_node.new.words) (g.W.Words.sheet c.put.new.self) c.put.result (Works-trans 0 2 (g.W.Words.sheet c.args.words.now) (g.W.Words.sheet c.take.new.words) (g.W.Words.sheet c.write_node.new.words) (c.take.ensures.works.again c.requires.head) c.write_node.ensures.works) c.put.ensures.works.works (put-ends 0 (c.in-Some.piece + 1) (g.W.Words.sheet c.write_node.new.words) (g.W.Words.sheet c.put.new.self) c.put.result c.put.ensures.answer)
