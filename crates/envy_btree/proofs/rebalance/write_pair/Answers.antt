use Rattle.std.proofs.Common.{◌≡◌, ◌+◌, ◌∙◌, sym, subst, arith, length, get_or, refl, List, ℕ, inl}
use Rattle.envy_array.proofs.Working.{Works-trans, Works-more}
use Rattle.envy_heap.specs.Pieces.{IsHeap, handed, Freed, one}
use Rattle.envy_heap.proofs.Heaps.{Chain-one}
use Rattle.envy_btree.specs.Tree.{Shows}
use Rattle.envy_btree.specs.Nodes.{OnlyPiece}
use Rattle.envy_btree.proofs.Setting.{heap-kept}
use Rattle.envy_btree.proofs.Exits.{none-if, err-fails, fails-after, room-left, room-less, same-few}
use Rattle.envy_btree.proofs.Neighbours.{first-slot, second-slot, first-within, second-within, piece-fits, next-fits, keys-many, keys-few, slots-few, set-few, set-long, remove-few, remove-long, mended-two}
use Rattle.envy_btree.proofs.rebalance.write_pair.Goals as goal

pub give-requires-clause-heap : goal.give-requires-clause-heap
give-requires-clause-heap g c =
    let old = (g.W.Words.sheet c.args.words.now).words in
    let mid = (g.W.Words.sheet c.write_node.new.words).words in
    let slots = c.args.node.now.slots.items in
    let p = c.requires.children.pair in
    let only = subst (λ x. OnlyPiece x old mid) c.slot-first.ensures c.in_ok-write_node.ensures.only in
    let k = heap-kept old mid p.free (get_or slots c.args.j 0) p.heap (omega (arith, p.first)) only in
    (p.free, k.0, subst (λ x. handed mid p.free x ≡ 1) (sym c.slot-second.ensures) (k.1 (get_or slots (c.args.j + 1) 0) ∙ p.second))

pub returns-clause-mended : goal.returns-clause-mended
returns-clause-mended g c free heap =
    let old = (g.W.Words.sheet c.args.words.now).words in
    let mid = (g.W.Words.sheet c.write_node.new.words).words in
    let new = (g.W.Words.sheet c.give.new.words).words in
    let slots = c.args.node.now.slots.items in
    let kind = one c.args.joined.now.inner in
    let keys = c.args.joined.now.keys.items in
    let p = c.requires.children.pair in
    let first = get_or slots c.args.j 0 in
    let second = get_or slots (c.args.j + 1) 0 in
    let same : p.free ≡ free = Chain-one old (get_or old 1 0) p.free free p.heap.chain heap.chain in
    let out_one : handed old free first ≡ 1 = subst (λ f. handed old f first ≡ 1) same p.first in
    let out_two : handed old free second ≡ 1 = subst (λ f. handed old f second ≡ 1) same p.second in
    let only = subst (λ x. OnlyPiece x old mid) c.slot-first.ensures c.in_ok-write_node.ensures.only in
    let k = heap-kept old mid free first heap (omega (arith, out_one)) only in
    let shows = subst (λ x. Shows mid x kind c.deref.result.now c.deref-2.result.now) c.slot-first.ensures c.in_ok-write_node.ensures.node in
    let shows_keys = subst (λ x. Shows mid first kind x c.deref-2.result.now) c.deref.ensures.0 shows in
    let freed = subst (λ x. (f : List ℕ) → IsHeap mid f → handed mid f x ≡ 1 → Freed x mid new f) c.slot-second.ensures c.in_ok-give.ensures.gives free k.0 (k.1 second ∙ out_two) in
    inl (record {
      few = omega (arith, c.if-len-gt31.false, c.len.ensures.value);
      mid = mid;
      only = only;
      shows = subst (λ x. Shows mid first kind keys x) c.deref-2.ensures.0 shows_keys;
      freed = freed;
      front = c.remove.ensures.items;
      back = c.remove-2.ensures.items;
    })

pub returns-in_err-write_node-clause-works : goal.returns-in_err-write_node-clause-works
returns-in_err-write_node-clause-works g c =
    Works-more 2 4 (g.W.Words.sheet c.args.words.now) (g.W.Words.sheet c.write_node.new.words) (omega arith) c.write_node.ensures.works

pub returns-in_err-give-clause-works : goal.returns-in_err-give-clause-works
returns-in_err-give-clause-works g c =
    Works-trans 2 2 (g.W.Words.sheet c.args.words.now) (g.W.Words.sheet c.write_node.new.words) (g.W.Words.sheet c.give.new.words) c.write_node.ensures.works c.give.ensures.works

pub returns-clause-works : goal.returns-clause-works
returns-clause-works g c =
    Works-trans 2 2 (g.W.Words.sheet c.args.words.now) (g.W.Words.sheet c.write_node.new.words) (g.W.Words.sheet c.give.new.words) c.write_node.ensures.works c.give.ensures.works

pub slot-first-requires : goal.slot-first-requires
slot-first-requires g c = first-slot (g.W.Words.sheet c.args.words.now).words c.args.j c.args.node.now.keys.items c.args.node.now.slots.items c.requires.children

pub overflow_cast-first : goal.overflow_cast-first
overflow_cast-first g c = piece-fits (g.W.Words.sheet c.args.words.now).words c.slot-first.result (first-within (g.W.Words.sheet c.args.words.now).words c.args.j c.slot-first.result c.args.node.now.keys.items c.args.node.now.slots.items c.requires.children c.slot-first.ensures) (g.met.W.Words.lawful c.args.words.now).few

pub overflow_add-j : goal.overflow_add-j
overflow_add-j g c = next-fits (g.W.Words.sheet c.args.words.now).words c.args.j c.args.node.now.keys.items c.args.node.now.slots.items c.requires.children

pub slot-second-requires : goal.slot-second-requires
slot-second-requires g c = second-slot (g.W.Words.sheet c.args.words.now).words c.args.j c.args.node.now.keys.items c.args.node.now.slots.items c.requires.children

pub overflow_cast-second : goal.overflow_cast-second
overflow_cast-second g c = piece-fits (g.W.Words.sheet c.args.words.now).words c.slot-second.result (second-within (g.W.Words.sheet c.args.words.now).words c.args.j c.slot-second.result c.args.node.now.keys.items c.args.node.now.slots.items c.requires.children c.slot-second.ensures) (g.met.W.Words.lawful c.args.words.now).few

pub write_halves-requires-clause-begun : goal.write_halves-requires-clause-begun
write_halves-requires-clause-begun g c = c.requires.begun

pub write_halves-requires-clause-first_within : goal.write_halves-requires-clause-first_within
write_halves-requires-clause-first_within g c = first-within (g.W.Words.sheet c.args.words.now).words c.args.j c.slot-first.result c.args.node.now.keys.items c.args.node.now.slots.items c.requires.children c.slot-first.ensures

pub write_halves-requires-clause-second_within : goal.write_halves-requires-clause-second_within
write_halves-requires-clause-second_within g c = second-within (g.W.Words.sheet c.args.words.now).words c.args.j c.slot-second.result c.args.node.now.keys.items c.args.node.now.slots.items c.requires.children c.slot-second.ensures

pub write_halves-requires-clause-room : goal.write_halves-requires-clause-room
write_halves-requires-clause-room g c = c.requires.room

pub write_halves-requires-clause-many : goal.write_halves-requires-clause-many
write_halves-requires-clause-many g c = keys-many c.len.result c.args.joined.now.keys.items c.len.ensures.value c.if-len-gt31.true

pub write_halves-requires-clause-few : goal.write_halves-requires-clause-few
write_halves-requires-clause-few g c = c.requires.keys

pub write_halves-requires-clause-slots : goal.write_halves-requires-clause-slots
write_halves-requires-clause-slots g c = c.requires.slots

pub returns-in_err-middle-clause-works : goal.returns-in_err-middle-clause-works
returns-in_err-middle-clause-works g c = c.write_halves.ensures.works

pub returns-in_err-middle-clause-fails : goal.returns-in_err-middle-clause-fails
returns-in_err-middle-clause-fails g c = err-fails ℕ (g.W.Words.sheet c.args.words.now) (g.W.Words.sheet c.write_halves.new.words) c.from_residual.result _ c.in_err-middle.ensures.fails c.from_residual.ensures.1

pub returns-in_err-middle-clause-kind : goal.returns-in_err-middle-clause-kind
returns-in_err-middle-clause-kind g c = refl

pub returns-in_err-middle-clause-few : goal.returns-in_err-middle-clause-few
returns-in_err-middle-clause-few g c = same-few (length c.args.node.now.keys.items)

pub returns-in_err-middle-clause-long : goal.returns-in_err-middle-clause-long
returns-in_err-middle-clause-long g c = c.requires.children.long

pub returns-in_err-middle-clause-mended : goal.returns-in_err-middle-clause-mended
returns-in_err-middle-clause-mended g c free heap = none-if c.from_residual.result _ _ c.from_residual.ensures.1

pub set_key-requires : goal.set_key-requires
set_key-requires g c = c.requires.children.place

pub returns-then-len-gt31-clause-works : goal.returns-then-len-gt31-clause-works
returns-then-len-gt31-clause-works g c = c.write_halves.ensures.works

pub returns-then-len-gt31-clause-fails : goal.returns-then-len-gt31-clause-fails
returns-then-len-gt31-clause-fails g c = c.in_ok-middle.ensures.fails

pub returns-then-len-gt31-clause-kind : goal.returns-then-len-gt31-clause-kind
returns-then-len-gt31-clause-kind g c = c.set_key.ensures.kind

pub returns-then-len-gt31-clause-few : goal.returns-then-len-gt31-clause-few
returns-then-len-gt31-clause-few g c = set-few c.args.node.now.keys.items c.set_key.new.self.keys.items c.args.j c.in_ok-middle.middle c.set_key.ensures.keys

pub returns-then-len-gt31-clause-long : goal.returns-then-len-gt31-clause-long
returns-then-len-gt31-clause-long g c = set-long c.args.node.now.keys.items c.args.node.now.slots.items c.set_key.new.self.keys.items c.set_key.new.self.slots.items c.args.j c.in_ok-middle.middle c.requires.children.long c.set_key.ensures.keys c.set_key.ensures.slots

pub returns-then-len-gt31-clause-mended : goal.returns-then-len-gt31-clause-mended
returns-then-len-gt31-clause-mended g c free heap =
    let many = keys-many c.len.result c.args.joined.now.keys.items c.len.ensures.value c.if-len-gt31.true in
    mended-two (g.W.Words.sheet c.args.words.now).words (g.W.Words.sheet c.write_halves.new.words).words free c.args.j c.slot-first.result c.slot-second.result c.in_ok-middle.middle c.args.node.now.keys.items c.args.node.now.slots.items c.args.joined.now.inner c.args.joined.now.keys.items c.args.joined.now.slots.items c.set_key.new.self.keys.items c.set_key.new.self.slots.items
    c.slot-first.ensures c.slot-second.ensures many c.in_ok-middle.ensures.halves c.set_key.ensures.keys c.set_key.ensures.slots

pub write_node-requires-clause-begun : goal.write_node-requires-clause-begun
write_node-requires-clause-begun g c = c.requires.begun

pub write_node-requires-clause-within : goal.write_node-requires-clause-within
write_node-requires-clause-within g c = first-within (g.W.Words.sheet c.args.words.now).words c.args.j c.slot-first.result c.args.node.now.keys.items c.args.node.now.slots.items c.requires.children c.slot-first.ensures

pub write_node-requires-clause-keys : goal.write_node-requires-clause-keys
write_node-requires-clause-keys g c = keys-few c.len.result c.args.joined.now.keys.items c.deref.result.now c.len.ensures.value c.if-len-gt31.false c.deref.ensures.0

pub write_node-requires-clause-slots : goal.write_node-requires-clause-slots
write_node-requires-clause-slots g c = slots-few c.len.result c.args.joined.now.keys.items c.args.joined.now.slots.items c.deref-2.result.now c.args.joined.now.inner c.requires.slots c.len.ensures.value c.if-len-gt31.false c.deref-2.ensures.0

pub write_node-requires-clause-room : goal.write_node-requires-clause-room
write_node-requires-clause-room g c = room-less 2 2 (length (g.W.Words.sheet c.args.words.now).pages) (g.W.Words.sheet c.args.words.now).room c.requires.room

pub returns-in_err-write_node-clause-fails : goal.returns-in_err-write_node-clause-fails
returns-in_err-write_node-clause-fails g c = err-fails Unit (g.W.Words.sheet c.args.words.now) (g.W.Words.sheet c.write_node.new.words) c.from_residual-in_err-write_node.result _ c.in_err-write_node.ensures.fails c.from_residual-in_err-write_node.ensures.1

pub returns-in_err-write_node-clause-kind : goal.returns-in_err-write_node-clause-kind
returns-in_err-write_node-clause-kind g c = refl

pub returns-in_err-write_node-clause-few : goal.returns-in_err-write_node-clause-few
returns-in_err-write_node-clause-few g c = same-few (length c.args.node.now.keys.items)

pub returns-in_err-write_node-clause-long : goal.returns-in_err-write_node-clause-long
returns-in_err-write_node-clause-long g c = c.requires.children.long

pub returns-in_err-write_node-clause-mended : goal.returns-in_err-write_node-clause-mended
returns-in_err-write_node-clause-mended g c free heap = none-if c.from_residual-in_err-write_node.result _ _ c.from_residual-in_err-write_node.ensures.1

pub give-requires-clause-begun : goal.give-requires-clause-begun
give-requires-clause-begun g c = c.write_node.ensures.works.still c.in_ok-write_node.ensures.fails ∙ c.requires.begun

pub give-requires-clause-room : goal.give-requires-clause-room
give-requires-clause-room g c = room-left 2 2 (g.W.Words.sheet c.args.words.now) (g.W.Words.sheet c.write_node.new.words) c.write_node.ensures.works c.in_ok-write_node.ensures.fails c.requires.room

pub returns-in_err-give-clause-fails : goal.returns-in_err-give-clause-fails
returns-in_err-give-clause-fails g c =
    let mid = g.W.Words.sheet c.write_node.new.words in
    let new = g.W.Words.sheet c.give.new.words in
    let r = c.from_residual-in_err-give.result in
    fails-after 2 2 (g.W.Words.sheet c.args.words.now) mid new r c.write_node.ensures.works c.give.ensures.works (err-fails Unit mid new r _ c.in_err-give.ensures.fails c.from_residual-in_err-give.ensures.1)

pub returns-in_err-give-clause-kind : goal.returns-in_err-give-clause-kind
returns-in_err-give-clause-kind g c = refl

pub returns-in_err-give-clause-few : goal.returns-in_err-give-clause-few
returns-in_err-give-clause-few g c = same-few (length c.args.node.now.keys.items)

pub returns-in_err-give-clause-long : goal.returns-in_err-give-clause-long
returns-in_err-give-clause-long g c = c.requires.children.long

pub returns-in_err-give-clause-mended : goal.returns-in_err-give-clause-mended
returns-in_err-give-clause-mended g c free heap = none-if c.from_residual-in_err-give.result _ _ c.from_residual-in_err-give.ensures.1

pub returns-clause-fails : goal.returns-clause-fails
returns-clause-fails g c = c.in_ok-give.ensures.fails

pub returns-clause-kind : goal.returns-clause-kind
returns-clause-kind g c = refl

pub returns-clause-few : goal.returns-clause-few
returns-clause-few g c = remove-few c.args.node.now.keys.items _ c.args.j c.requires.children.place c.remove.ensures.items

pub returns-clause-long : goal.returns-clause-long
returns-clause-long g c = remove-long c.args.node.now.keys.items c.args.node.now.slots.items _ _ c.args.j c.requires.children.place c.requires.children.long c.remove.ensures.items c.remove-2.ensures.items
