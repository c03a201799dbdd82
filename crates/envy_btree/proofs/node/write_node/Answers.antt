use Rattle.std.proofs.Common.{◌+◌, ◌*◌, ◌/◌, ◌∙◌, ap, sym, subst, arith, length, refl}
use Rattle.envy_array.proofs.Working.{Works-trans}
use Rattle.envy_array.specs.Words.{OnPage, pasted}
use Rattle.envy_heap.specs.Pieces.{head, at, one}
use Rattle.envy_btree.specs.Tree.{Shows}
use Rattle.envy_btree.specs.Nodes.{OnlyPiece}
use Rattle.envy_btree.proofs.Writing.{written}
use Rattle.envy_btree.proofs.Exits.{none-if, err-fails, put-fails, fails-after, room-left, page-works, first-page, two-pages, put-room, head-within, keys-within, slots-within, keys-page, slots-page}
use Rattle.envy_btree.proofs.Exits.{mul-fits, head-fits, keys-fit, slots-fit}
use Rattle.envy_btree.proofs.node.write_node.Goals as goal

pub returns-clause-node : goal.returns-clause-node
returns-clause-node g c =
    let old = (g.W.Words.sheet c.args.words.now).words in
    let keys = c.args.keys.now in
    let slots = c.args.slots.now in
    let n = 2 * length keys + c.kind_of-kind.result in
    let e = c.in_ok-write_list-2.ensures.list ∙ ap (pasted (at c.args.piece 32) slots (length slots)) (c.in_ok-write_list.ensures.list ∙ ap (pasted (at c.args.piece 1) keys (length keys)) c.in_ok-put.ensures.answer.1) in
    let w = written old c.args.piece (one c.args.inner) n (length keys) (length slots) keys slots c.requires.within refl refl c.requires.keys c.requires.slots (omega (arith, c.kind_of-kind.ensures)) in
    subst (λ x. Shows x c.args.piece (one c.args.inner) keys slots) (sym e) w.0

pub returns-clause-only : goal.returns-clause-only
returns-clause-only g c =
    let old = (g.W.Words.sheet c.args.words.now).words in
    let keys = c.args.keys.now in
    let slots = c.args.slots.now in
    let n = 2 * length keys + c.kind_of-kind.result in
    let e = c.in_ok-write_list-2.ensures.list ∙ ap (pasted (at c.args.piece 32) slots (length slots)) (c.in_ok-write_list.ensures.list ∙ ap (pasted (at c.args.piece 1) keys (length keys)) c.in_ok-put.ensures.answer.1) in
    let w = written old c.args.piece (one c.args.inner) n (length keys) (length slots) keys slots c.requires.within refl refl c.requires.keys c.requires.slots (omega (arith, c.kind_of-kind.ensures)) in
    subst (λ x. OnlyPiece c.args.piece old x) (sym e) w.1

pub put-requires-clause-address : goal.put-requires-clause-address
put-requires-clause-address g c = head-within c.args.piece (length (g.W.Words.sheet c.args.words.now).words) c.requires.within

pub put-requires-clause-begun : goal.put-requires-clause-begun
put-requires-clause-begun g c = c.requires.begun

pub put-requires-clause-room : goal.put-requires-clause-room
put-requires-clause-room g c = put-room (head c.args.piece / 32) 1 (g.W.Words.sheet c.args.words.now) c.requires.room

pub returns-in_err-put-clause-works : goal.returns-in_err-put-clause-works
returns-in_err-put-clause-works g c = page-works 1 (head c.args.piece / 32) (g.W.Words.sheet c.args.words.now) (g.W.Words.sheet c.put.new.self) c.put.ensures.works

pub returns-in_err-put-clause-fails : goal.returns-in_err-put-clause-fails
returns-in_err-put-clause-fails g c = put-fails (head c.args.piece) (2 * length c.args.keys.now + c.kind_of-kind.result) (g.W.Words.sheet c.args.words.now) (g.W.Words.sheet c.put.new.self) c.from_residual.result _ c.in_err-put.ensures.answer c.from_residual.ensures.1

pub returns-in_err-put-clause-node : goal.returns-in_err-put-clause-node
returns-in_err-put-clause-node g c = none-if c.from_residual.result _ _ c.from_residual.ensures.1

pub returns-in_err-put-clause-only : goal.returns-in_err-put-clause-only
returns-in_err-put-clause-only g c = none-if c.from_residual.result _ _ c.from_residual.ensures.1

pub write_list-requires-clause-begun : goal.write_list-requires-clause-begun
write_list-requires-clause-begun g c = c.in_ok-put.ensures.works.works.still c.in_ok-put.ensures.answer.0 ∙ c.requires.begun

pub write_list-requires-clause-within : goal.write_list-requires-clause-within
write_list-requires-clause-within g c = keys-within c.args.piece 1 (length c.args.keys.now) (g.W.Words.sheet c.args.words.now) (g.W.Words.sheet c.put.new.self) c.put.ensures.works.works c.requires.within c.requires.keys

pub write_list-requires-clause-page : goal.write_list-requires-clause-page
write_list-requires-clause-page g c = keys-page c.args.piece (length c.args.keys.now) c.requires.keys

pub write_list-requires-clause-room : goal.write_list-requires-clause-room
write_list-requires-clause-room g c = room-left 1 1 (g.W.Words.sheet c.args.words.now) (g.W.Words.sheet c.put.new.self) c.put.ensures.works.works c.in_ok-put.ensures.answer.0 c.requires.room

pub returns-in_err-write_list-clause-works : goal.returns-in_err-write_list-clause-works
returns-in_err-write_list-clause-works g c =
    let old = g.W.Words.sheet c.args.words.now in
    let one = g.W.Words.sheet c.put.new.self in
    let two = g.W.Words.sheet c.write_list.new.words in
    Works-trans 1 1 old one two c.put.ensures.works.works c.write_list.ensures.works.works

pub returns-in_err-write_list-clause-fails : goal.returns-in_err-write_list-clause-fails
returns-in_err-write_list-clause-fails g c =
    let old = g.W.Words.sheet c.args.words.now in
    let one = g.W.Words.sheet c.put.new.self in
    let two = g.W.Words.sheet c.write_list.new.words in
    let r = c.from_residual-in_err-write_list.result in
    fails-after 1 1 old one two r c.put.ensures.works.works c.write_list.ensures.works.works (err-fails Unit one two r _ c.in_err-write_list.ensures.fails c.from_residual-in_err-write_list.ensures.1)

pub returns-in_err-write_list-clause-node : goal.returns-in_err-write_list-clause-node
returns-in_err-write_list-clause-node g c = none-if c.from_residual-in_err-write_list.result _ _ c.from_residual-in_err-write_list.ensures.1

pub returns-in_err-write_list-clause-only : goal.returns-in_err-write_list-clause-only
returns-in_err-write_list-clause-only g c = none-if c.from_residual-in_err-write_list.result _ _ c.from_residual-in_err-write_list.ensures.1

pub write_list-requires-2-clause-begun : goal.write_list-requires-2-clause-begun
write_list-requires-2-clause-begun g c =
    c.in_ok-write_list.ensures.works.works.still c.in_ok-write_list.ensures.fails ∙ (c.in_ok-put.ensures.works.works.still c.in_ok-put.ensures.answer.0 ∙ c.requires.begun)

pub write_list-requires-2-clause-within : goal.write_list-requires-2-clause-within
write_list-requires-2-clause-within g c =
    let old = g.W.Words.sheet c.args.words.now in
    let two = g.W.Words.sheet c.write_list.new.words in
    let page = first-page c.args.piece old (g.W.Words.sheet c.put.new.self) two c.put.ensures.works c.write_list.ensures.works in
    slots-within c.args.piece 1 (length c.args.slots.now) old two (OnPage.works page) c.requires.within c.requires.slots

pub write_list-requires-2-clause-page : goal.write_list-requires-2-clause-page
write_list-requires-2-clause-page g c = slots-page c.args.piece (length c.args.slots.now) c.requires.slots

pub write_list-requires-2-clause-room : goal.write_list-requires-2-clause-room
write_list-requires-2-clause-room g c =
    let old = g.W.Words.sheet c.args.words.now in
    let two = g.W.Words.sheet c.write_list.new.words in
    let page = first-page c.args.piece old (g.W.Words.sheet c.put.new.self) two c.put.ensures.works c.write_list.ensures.works in
    room-left 1 1 old two (OnPage.works page) c.in_ok-write_list.ensures.fails c.requires.room

pub returns-in_err-write_list-2-clause-works : goal.returns-in_err-write_list-2-clause-works
returns-in_err-write_list-2-clause-works g c =
    let old = g.W.Words.sheet c.args.words.now in
    let one = g.W.Words.sheet c.put.new.self in
    let two = g.W.Words.sheet c.write_list.new.words in
    let new = g.W.Words.sheet c.write_list-2.new.words in
    two-pages c.args.piece old one two new c.put.ensures.works c.write_list.ensures.works c.write_list-2.ensures.works

pub returns-in_err-write_list-2-clause-fails : goal.returns-in_err-write_list-2-clause-fails
returns-in_err-write_list-2-clause-fails g c =
    let old = g.W.Words.sheet c.args.words.now in
    let one = g.W.Words.sheet c.put.new.self in
    let two = g.W.Words.sheet c.write_list.new.words in
    let new = g.W.Words.sheet c.write_list-2.new.words in
    let r = c.from_residual-in_err-write_list-2.result in
    let page = first-page c.args.piece old one two c.put.ensures.works c.write_list.ensures.works in
    fails-after 1 1 old two new r (OnPage.works page) c.write_list-2.ensures.works.works (err-fails Unit two new r _ c.in_err-write_list-2.ensures.fails c.from_residual-in_err-write_list-2.ensures.1)

pub returns-in_err-write_list-2-clause-node : goal.returns-in_err-write_list-2-clause-node
returns-in_err-write_list-2-clause-node g c = none-if c.from_residual-in_err-write_list-2.result _ _ c.from_residual-in_err-write_list-2.ensures.1

pub returns-in_err-write_list-2-clause-only : goal.returns-in_err-write_list-2-clause-only
returns-in_err-write_list-2-clause-only g c = none-if c.from_residual-in_err-write_list-2.result _ _ c.from_residual-in_err-write_list-2.ensures.1

pub returns-clause-works : goal.returns-clause-works
returns-clause-works g c =
    let old = g.W.Words.sheet c.args.words.now in
    let one = g.W.Words.sheet c.put.new.self in
    let two = g.W.Words.sheet c.write_list.new.words in
    let new = g.W.Words.sheet c.write_list-2.new.words in
    two-pages c.args.piece old one two new c.put.ensures.works c.write_list.ensures.works c.write_list-2.ensures.works

pub returns-clause-fails : goal.returns-clause-fails
returns-clause-fails g c = c.in_ok-write_list-2.ensures.fails

pub overflow_mul-piece : goal.overflow_mul-piece
overflow_mul-piece g c = mul-fits c.args.piece (length (g.W.Words.sheet c.args.words.now).words) c.requires.within (g.met.W.Words.lawful c.args.words.now).few

pub overflow_add-piece : goal.overflow_add-piece
overflow_add-piece g c = head-fits c.args.piece (length (g.W.Words.sheet c.args.words.now).words) c.requires.within (g.met.W.Words.lawful c.args.words.now).few

pub overflow_mul-piece-2 : goal.overflow_mul-piece-2
overflow_mul-piece-2 g c = mul-fits c.args.piece (length (g.W.Words.sheet c.args.words.now).words) c.requires.within (g.met.W.Words.lawful c.args.words.now).few

pub overflow_add-piece-2 : goal.overflow_add-piece-2
overflow_add-piece-2 g c = head-fits c.args.piece (length (g.W.Words.sheet c.args.words.now).words) c.requires.within (g.met.W.Words.lawful c.args.words.now).few

pub overflow_add-piece-3 : goal.overflow_add-piece-3
overflow_add-piece-3 g c = keys-fit c.args.piece (length (g.W.Words.sheet c.args.words.now).words) c.requires.within (g.met.W.Words.lawful c.args.words.now).few

pub overflow_mul-piece-3 : goal.overflow_mul-piece-3
overflow_mul-piece-3 g c = mul-fits c.args.piece (length (g.W.Words.sheet c.args.words.now).words) c.requires.within (g.met.W.Words.lawful c.args.words.now).few

pub overflow_add-piece-4 : goal.overflow_add-piece-4
overflow_add-piece-4 g c = head-fits c.args.piece (length (g.W.Words.sheet c.args.words.now).words) c.requires.within (g.met.W.Words.lawful c.args.words.now).few

pub overflow_add-piece-5 : goal.overflow_add-piece-5
overflow_add-piece-5 g c = slots-fit c.args.piece (length (g.W.Words.sheet c.args.words.now).words) c.requires.within (g.met.W.Words.lawful c.args.words.now).few
