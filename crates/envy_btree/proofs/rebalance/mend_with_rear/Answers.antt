use Rattle.std.proofs.Common.{◌+◌, ◌++◌, ◌∙◌, ap, sym, subst, arith, length, get_or, refl}
use Rattle.envy_array.proofs.Working.{Works-trans, Works-more}
use Rattle.envy_btree.specs.Changes.{HasPair}
use Rattle.envy_btree.proofs.Exits.{none-if, off-fails, fails-after, room-left, same-few}
use Rattle.envy_btree.proofs.Neighbours.{second-slot, second-within, piece-fits, beside-few, beside-read, both-few, joined-few, slots-one, mended-read, joined-is}
use Rattle.envy_btree.proofs.rebalance.mend_with_rear.Goals as goal

pub returns-in_err-rear-clause-works : goal.returns-in_err-rear-clause-works
returns-in_err-rear-clause-works g c = Works-more 0 4 (g.W.Words.sheet c.args.words.now) (g.W.Words.sheet c.read_node.new.words) (omega arith) c.read_node.ensures.works

pub returns-clause-works : goal.returns-clause-works
returns-clause-works g c = Works-trans 0 4 (g.W.Words.sheet c.args.words.now) (g.W.Words.sheet c.read_node.new.words) (g.W.Words.sheet c.write_pair.new.words) c.read_node.ensures.works c.write_pair.ensures.works

pub slot-requires : goal.slot-requires
slot-requires g c = second-slot (g.W.Words.sheet c.args.words.now).words c.args.j c.args.node.now.keys.items c.args.node.now.slots.items c.requires.children

pub overflow_cast-slot : goal.overflow_cast-slot
overflow_cast-slot g c =
    let old = (g.W.Words.sheet c.args.words.now).words in
    piece-fits old c.slot.result (second-within old c.args.j c.slot.result c.args.node.now.keys.items c.args.node.now.slots.items c.requires.children c.slot.ensures) (g.met.W.Words.lawful c.args.words.now).few

pub read_node-requires-clause-within : goal.read_node-requires-clause-within
read_node-requires-clause-within g c = second-within (g.W.Words.sheet c.args.words.now).words c.args.j c.slot.result c.args.node.now.keys.items c.args.node.now.slots.items c.requires.children c.slot.ensures

pub read_node-requires-clause-few : goal.read_node-requires-clause-few
read_node-requires-clause-few g c = beside-few (g.W.Words.sheet c.args.words.now).words c.slot.result (get_or c.args.node.now.slots.items (c.args.j + 1) 0) c.args.child.now.inner c.requires.short.beside c.slot.ensures

pub returns-in_err-rear-clause-fails : goal.returns-in_err-rear-clause-fails
returns-in_err-rear-clause-fails g c = off-fails (g.W.Words.sheet c.args.words.now) (g.W.Words.sheet c.read_node.new.words) c.from_residual.result c.from_residual.ensures.1 c.in_err-rear.ensures.power

pub returns-in_err-rear-clause-kind : goal.returns-in_err-rear-clause-kind
returns-in_err-rear-clause-kind g c = refl

pub returns-in_err-rear-clause-few : goal.returns-in_err-rear-clause-few
returns-in_err-rear-clause-few g c = same-few (length c.args.node.now.keys.items)

pub returns-in_err-rear-clause-long : goal.returns-in_err-rear-clause-long
returns-in_err-rear-clause-long g c = c.requires.children.long

pub returns-in_err-rear-clause-mended : goal.returns-in_err-rear-clause-mended
returns-in_err-rear-clause-mended g c free heap b = none-if c.from_residual.result _ _ c.from_residual.ensures.1

pub key-requires : goal.key-requires
key-requires g c = c.requires.children.place

pub join-requires-clause-kind : goal.join-requires-clause-kind
join-requires-clause-kind g c =
    let old = (g.W.Words.sheet c.args.words.now).words in
    let b = c.requires.short.beside in
    let read = beside-read old c.slot.result (get_or c.args.node.now.slots.items (c.args.j + 1) 0) c.args.child.now.inner c.in_ok-rear.rear.inner c.in_ok-rear.rear.keys.items c.in_ok-rear.rear.slots.items b c.slot.ensures c.in_ok-rear.ensures.node in
    sym read.0

pub join-requires-clause-keys : goal.join-requires-clause-keys
join-requires-clause-keys g c =
    let old = (g.W.Words.sheet c.args.words.now).words in
    let b = c.requires.short.beside in
    let read = beside-read old c.slot.result (get_or c.args.node.now.slots.items (c.args.j + 1) 0) c.args.child.now.inner c.in_ok-rear.rear.inner c.in_ok-rear.rear.keys.items c.in_ok-rear.rear.slots.items b c.slot.ensures c.in_ok-rear.ensures.node in
    both-few old (get_or c.args.node.now.slots.items (c.args.j + 1) 0) c.args.child.now.inner c.in_ok-rear.rear.keys.items c.args.child.now.keys.items c.args.child.now.slots.items c.requires.short read.1

pub join-requires-clause-front_slots : goal.join-requires-clause-front_slots
join-requires-clause-front_slots g c = c.requires.short.long

pub join-requires-clause-rear_slots : goal.join-requires-clause-rear_slots
join-requires-clause-rear_slots g c =
    let old = (g.W.Words.sheet c.args.words.now).words in
    let b = c.requires.short.beside in
    let read = beside-read old c.slot.result (get_or c.args.node.now.slots.items (c.args.j + 1) 0) c.args.child.now.inner c.in_ok-rear.rear.inner c.in_ok-rear.rear.keys.items c.in_ok-rear.rear.slots.items b c.slot.ensures c.in_ok-rear.ensures.node in
    slots-one c.args.child.now.inner c.in_ok-rear.rear.inner b.keys b.slots c.in_ok-rear.rear.keys.items c.in_ok-rear.rear.slots.items b.long read.0 read.1 read.2

pub write_pair-requires-clause-begun : goal.write_pair-requires-clause-begun
write_pair-requires-clause-begun g c = c.read_node.ensures.works.still c.in_ok-rear.ensures.power ∙ c.requires.begun

pub write_pair-requires-clause-room : goal.write_pair-requires-clause-room
write_pair-requires-clause-room g c = room-left 0 4 (g.W.Words.sheet c.args.words.now) (g.W.Words.sheet c.read_node.new.words) c.read_node.ensures.works c.in_ok-rear.ensures.power c.requires.room

pub write_pair-requires-clause-children : goal.write_pair-requires-clause-children
write_pair-requires-clause-children g c = subst (λ w. HasPair w c.args.j c.args.node.now.keys.items c.args.node.now.slots.items) (sym c.in_ok-rear.ensures.same) c.requires.children

pub write_pair-requires-clause-keys : goal.write_pair-requires-clause-keys
write_pair-requires-clause-keys g c =
    let old = (g.W.Words.sheet c.args.words.now).words in
    let b = c.requires.short.beside in
    let read = beside-read old c.slot.result (get_or c.args.node.now.slots.items (c.args.j + 1) 0) c.args.child.now.inner c.in_ok-rear.rear.inner c.in_ok-rear.rear.keys.items c.in_ok-rear.rear.slots.items b c.slot.ensures c.in_ok-rear.ensures.node in
    joined-few (length c.args.child.now.keys.items) (length c.in_ok-rear.rear.keys.items) (length c.join.new.front.keys.items) (both-few old (get_or c.args.node.now.slots.items (c.args.j + 1) 0) c.args.child.now.inner c.in_ok-rear.rear.keys.items c.args.child.now.keys.items c.args.child.now.slots.items c.requires.short read.1) c.join.ensures.few

pub write_pair-requires-clause-slots : goal.write_pair-requires-clause-slots
write_pair-requires-clause-slots g c = c.join.ensures.long

pub returns-clause-fails : goal.returns-clause-fails
returns-clause-fails g c =
    let old = g.W.Words.sheet c.args.words.now in
    let mid = g.W.Words.sheet c.read_node.new.words in
    fails-after 0 4 old mid (g.W.Words.sheet c.write_pair.new.words) c.write_pair.result c.read_node.ensures.works c.write_pair.ensures.works c.write_pair.ensures.fails

pub returns-clause-kind : goal.returns-clause-kind
returns-clause-kind g c = c.write_pair.ensures.kind

pub returns-clause-few : goal.returns-clause-few
returns-clause-few g c = c.write_pair.ensures.few

pub returns-clause-long : goal.returns-clause-long
returns-clause-long g c = c.write_pair.ensures.long

pub returns-clause-mended : goal.returns-clause-mended
returns-clause-mended g c free heap b =
    let old = (g.W.Words.sheet c.args.words.now).words in
    let read = beside-read old c.slot.result (get_or c.args.node.now.slots.items (c.args.j + 1) 0) c.args.child.now.inner c.in_ok-rear.rear.inner c.in_ok-rear.rear.keys.items c.in_ok-rear.rear.slots.items b c.slot.ensures c.in_ok-rear.ensures.node in
    let key = c.key.ensures in
    let keys = c.join.ensures.keys ∙ joined-is c.args.child.now.inner c.args.child.now.inner c.args.child.now.keys.items c.args.child.now.keys.items c.key.result (get_or c.args.node.now.keys.items c.args.j 0) c.in_ok-rear.rear.keys.items b.keys refl refl key read.1 in
    let slots = c.join.ensures.slots ∙ ap (λ x. c.args.child.now.slots.items ++ x) read.2 in
    mended-read old (g.W.Words.sheet c.read_node.new.words).words (g.W.Words.sheet c.write_pair.new.words).words free c.args.j c.args.node.now.keys.items c.args.node.now.slots.items c.join.new.front.inner c.args.child.now.inner c.join.new.front.keys.items _ c.join.new.front.slots.items _ c.write_pair.new.node.keys.items c.write_pair.new.node.slots.items c.write_pair.result
    c.in_ok-rear.ensures.same c.join.ensures.kind keys slots heap c.write_pair.ensures.mended
