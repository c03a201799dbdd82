use Rattle.std.proofs.Common.{ℕ, ◌<◌, ◌≤◌, ◌∙◌, sym, subst, arith, length, Ok, Option}
use Rattle.envy_heap.specs.Pieces.{TakesAs, at, one}
use Rattle.envy_heap.proofs.Heaps.{exhausted-spare}
use Rattle.envy_array.proofs.Working.{Works-trans}
use Rattle.envy_btree.specs.Tree.{Shows}
use Rattle.envy_btree.proofs.Exits.{err-fails, fails-after, no-works, more-works, room-left, room-less}
use Rattle.envy_btree.proofs.Holding.{saved-failed}
use Rattle.envy_btree.proofs.Neighbours.{keys-many, keys-few, slots-few}
use Rattle.envy_btree.proofs.Planting.{taken-within}
use Rattle.envy_btree.proofs.halves.save.Goals as goal

pub unreachable-requires : goal.unreachable-requires
unreachable-requires g c =
    let old = (g.W.Words.sheet c.args.words.now).words in
    let h = c.requires.heap in
    let t = subst (λ r. TakesAs old h.0 (Ok r) (g.W.Words.sheet c.take.new.words).words) c.in_default.is (c.in_ok-second.ensures.takes h.0 h.1) in
    omega (arith, exhausted-spare old h.0 h.1 t.0)

pub returns-clause-saved : goal.returns-clause-saved
returns-clause-saved g c free heap out =
    let old = (g.W.Words.sheet c.args.words.now).words in
    let first = (g.W.Words.sheet c.take.new.words).words in
    let t = subst (λ r. TakesAs old free (Ok r) first) c.in-Some.is (c.in_ok-second.ensures.takes free heap) in
    let many : 32 ≤ length c.args.node.now.keys.items = omega (arith, c.if-len-le31.false, c.len.ensures.value) in
    (first, t.0, many, t.1, c.in_ok-middle.ensures.halves)

pub write_node-requires-clause-begun : goal.write_node-requires-clause-begun
write_node-requires-clause-begun g c = c.requires.begun

pub write_node-requires-clause-within : goal.write_node-requires-clause-within
write_node-requires-clause-within g c = c.requires.within

pub write_node-requires-clause-keys : goal.write_node-requires-clause-keys
write_node-requires-clause-keys g c = keys-few c.len.result c.args.node.now.keys.items c.deref.result.now c.len.ensures.value c.if-len-le31.true c.deref.ensures.0

pub write_node-requires-clause-slots : goal.write_node-requires-clause-slots
write_node-requires-clause-slots g c = slots-few c.len.result c.args.node.now.keys.items c.args.node.now.slots.items c.deref-then-len-le31.result.now c.args.node.now.inner c.requires.slots c.len.ensures.value c.if-len-le31.true c.deref-then-len-le31.ensures.0

pub write_node-requires-clause-room : goal.write_node-requires-clause-room
write_node-requires-clause-room g c = room-less 2 2 (length (g.W.Words.sheet c.args.words.now).pages) (g.W.Words.sheet c.args.words.now).room c.requires.room

pub returns-in_err-write_node-clause-works : goal.returns-in_err-write_node-clause-works
returns-in_err-write_node-clause-works g c = more-works 2 2 (g.W.Words.sheet c.args.words.now) (g.W.Words.sheet c.write_node.new.words) c.write_node.ensures.works

pub returns-in_err-write_node-clause-fails : goal.returns-in_err-write_node-clause-fails
returns-in_err-write_node-clause-fails g c = err-fails Unit (g.W.Words.sheet c.args.words.now) (g.W.Words.sheet c.write_node.new.words) c.from_residual.result _ c.in_err-write_node.ensures.fails c.from_residual.ensures.1

pub returns-in_err-write_node-clause-saved : goal.returns-in_err-write_node-clause-saved
returns-in_err-write_node-clause-saved g c free heap out = saved-failed (g.W.Words.sheet c.args.words.now).words free (g.W.Words.sheet c.write_node.new.words).words c.args.piece c.args.node.now.inner c.args.node.now.keys.items c.args.node.now.slots.items c.from_residual.result _ c.from_residual.ensures.1

pub returns-then-len-le31-clause-works : goal.returns-then-len-le31-clause-works
returns-then-len-le31-clause-works g c = more-works 2 2 (g.W.Words.sheet c.args.words.now) (g.W.Words.sheet c.write_node.new.words) c.write_node.ensures.works

pub returns-then-len-le31-clause-fails : goal.returns-then-len-le31-clause-fails
returns-then-len-le31-clause-fails g c = c.in_ok-write_node.ensures.fails

pub returns-then-len-le31-clause-saved : goal.returns-then-len-le31-clause-saved
returns-then-len-le31-clause-saved g c free heap out =
    let new = (g.W.Words.sheet c.write_node.new.words).words in
    let kind = one c.args.node.now.inner in
    let shows = subst (λ x. Shows new c.args.piece kind x c.deref-then-len-le31.result.now) c.deref.ensures.0 c.in_ok-write_node.ensures.node in
    (subst (λ n. n ≤ 31) c.len.ensures.value c.if-len-le31.true, subst (λ x. Shows new c.args.piece kind c.args.node.now.keys.items x) c.deref-then-len-le31.ensures.0 shows, c.in_ok-write_node.ensures.only)

pub take-requires-clause-begun : goal.take-requires-clause-begun
take-requires-clause-begun g c = c.requires.begun

pub take-requires-clause-room : goal.take-requires-clause-room
take-requires-clause-room g c = room-less 2 2 (length (g.W.Words.sheet c.args.words.now).pages) (g.W.Words.sheet c.args.words.now).room c.requires.room

pub take-requires-clause-heap : goal.take-requires-clause-heap
take-requires-clause-heap g c = (c.requires.heap.0, c.requires.heap.1)

pub returns-in_err-second-clause-works : goal.returns-in_err-second-clause-works
returns-in_err-second-clause-works g c = no-works 4 (g.W.Words.sheet c.args.words.now) (g.W.Words.sheet c.take.new.words) (c.take.ensures.works.again c.requires.head)

pub returns-in_err-second-clause-fails : goal.returns-in_err-second-clause-fails
returns-in_err-second-clause-fails g c = err-fails (Option ℕ) (g.W.Words.sheet c.args.words.now) (g.W.Words.sheet c.take.new.words) c.from_residual-in_err-second.result _ c.in_err-second.ensures.fails c.from_residual-in_err-second.ensures.1

pub returns-in_err-second-clause-saved : goal.returns-in_err-second-clause-saved
returns-in_err-second-clause-saved g c free heap out = saved-failed (g.W.Words.sheet c.args.words.now).words free (g.W.Words.sheet c.take.new.words).words c.args.piece c.args.node.now.inner c.args.node.now.keys.items c.args.node.now.slots.items c.from_residual-in_err-second.result _ c.from_residual-in_err-second.ensures.1

pub write_halves-requires-clause-begun : goal.write_halves-requires-clause-begun
write_halves-requires-clause-begun g c = c.take.ensures.works.works.still c.in_ok-second.ensures.fails ∙ c.requires.begun

pub write_halves-requires-clause-first_within : goal.write_halves-requires-clause-first_within
write_halves-requires-clause-first_within g c = subst (λ n. at c.args.piece 63 < n) (sym c.take.ensures.works.works.long) c.requires.within

pub write_halves-requires-clause-second_within : goal.write_halves-requires-clause-second_within
write_halves-requires-clause-second_within g c =
    let old = (g.W.Words.sheet c.args.words.now).words in
    let first = (g.W.Words.sheet c.take.new.words).words in
    let h = c.requires.heap in
    let t = subst (λ r. TakesAs old h.0 (Ok r) first) c.in-Some.is (c.in_ok-second.ensures.takes h.0 h.1) in
    taken-within old first c.in-Some.second h.0 t.0 h.1 t.1

pub write_halves-requires-clause-room : goal.write_halves-requires-clause-room
write_halves-requires-clause-room g c = room-left 0 4 (g.W.Words.sheet c.args.words.now) (g.W.Words.sheet c.take.new.words) (c.take.ensures.works.again c.requires.head) c.in_ok-second.ensures.fails c.requires.room

pub write_halves-requires-clause-many : goal.write_halves-requires-clause-many
write_halves-requires-clause-many g c = keys-many c.len.result c.args.node.now.keys.items c.len.ensures.value c.if-len-le31.false

pub write_halves-requires-clause-few : goal.write_halves-requires-clause-few
write_halves-requires-clause-few g c = c.requires.keys

pub write_halves-requires-clause-slots : goal.write_halves-requires-clause-slots
write_halves-requires-clause-slots g c = c.requires.slots

pub returns-in_err-middle-clause-works : goal.returns-in_err-middle-clause-works
returns-in_err-middle-clause-works g c = Works-trans 0 4 (g.W.Words.sheet c.args.words.now) (g.W.Words.sheet c.take.new.words) (g.W.Words.sheet c.write_halves.new.words) (c.take.ensures.works.again c.requires.head) c.write_halves.ensures.works

pub returns-in_err-middle-clause-fails : goal.returns-in_err-middle-clause-fails
returns-in_err-middle-clause-fails g c = fails-after 0 4 (g.W.Words.sheet c.args.words.now) (g.W.Words.sheet c.take.new.words) (g.W.Words.sheet c.write_halves.new.words) c.from_residual-in_err-middle.result (c.take.ensures.works.again c.requires.head) c.write_halves.ensures.works (err-fails ℕ (g.W.Words.sheet c.take.new.words) (g.W.Words.sheet c.write_halves.new.words) c.from_residual-in_err-middle.result _ c.in_err-middle.ensures.fails c.from_residual-in_err-middle.ensures.1)

pub returns-in_err-middle-clause-saved : goal.returns-in_err-middle-clause-saved
returns-in_err-middle-clause-saved g c free heap out = saved-failed (g.W.Words.sheet c.args.words.now).words free (g.W.Words.sheet c.write_halves.new.words).words c.args.piece c.args.node.now.inner c.args.node.now.keys.items c.args.node.now.slots.items c.from_residual-in_err-middle.result _ c.from_residual-in_err-middle.ensures.1

pub returns-clause-works : goal.returns-clause-works
returns-clause-works g c = Works-trans 0 4 (g.W.Words.sheet c.args.words.now) (g.W.Words.sheet c.take.new.words) (g.W.Words.sheet c.write_halves.new.words) (c.take.ensures.works.again c.requires.head) c.write_halves.ensures.works

pub returns-clause-fails : goal.returns-clause-fails
returns-clause-fails g c = c.in_ok-middle.ensures.fails
