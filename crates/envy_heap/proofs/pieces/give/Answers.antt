use Rattle.std.proofs.Common.{inr, arith, ◌+◌, ◌*◌, ap, ◌∙◌, subst, sym, set}
use Rattle.envy_array.proofs.Working.{Works-trans, Works-more}
use Rattle.envy_heap.specs.Pieces.{Freed}
use Rattle.envy_heap.proofs.Heaps.{Freed-given}
use Rattle.envy_heap.proofs.Loading.{begun_still, word_of_first, room_left}
use Rattle.envy_heap.proofs.pieces.give.Goals as goal

pub returns-clause-gives : goal.returns-clause-gives
returns-clause-gives g c free heap out =
    let old = (g.W.Words.sheet c.args.words.now).words in
    let e = c.in_ok-put-2.ensures.answer.1 ∙ ap (λ x. set x 1 (c.args.piece + 1)) (c.in_ok-put.ensures.answer.1 ∙ ap (λ x. set x (64 + 64 * c.args.piece) c.in_ok-link.link) c.in_ok-link.ensures.answer.2) in
    subst (λ x. Freed c.args.piece old x free) (sym e) (Freed-given old free c.args.piece c.in_ok-link.link heap out c.in_ok-link.ensures.answer.1)

pub returns-in_err-link-clause-works : goal.returns-in_err-link-clause-works
returns-in_err-link-clause-works g c = Works-more 0 2 _ _ (omega arith) c.load.ensures.works

pub put-requires-clause-begun : goal.put-requires-clause-begun
put-requires-clause-begun g c = begun_still 0 _ _ c.in_ok-link.ensures.answer.0 c.load.ensures.works c.requires.begun

pub put-requires-clause-room : goal.put-requires-clause-room
put-requires-clause-room g c = inr (room_left 0 _ _ c.load.ensures.works c.in_ok-link.ensures.answer.0 (omega (arith, c.requires.room)))

pub returns-in_err-put-clause-works : goal.returns-in_err-put-clause-works
returns-in_err-put-clause-works g c = Works-more 1 2 _ _ (omega arith) (Works-trans 0 1 _ _ _ c.load.ensures.works c.put.ensures.works.works)

pub put-requires-2-clause-address : goal.put-requires-2-clause-address
put-requires-2-clause-address g c = word_of_first 1 _ _ (omega arith) (c.put.ensures.works.works.long ∙ c.load.ensures.works.long) c.requires.heap.1.size

pub put-requires-2-clause-begun : goal.put-requires-2-clause-begun
put-requires-2-clause-begun g c = begun_still 1 _ _ c.in_ok-put.ensures.answer.0 c.put.ensures.works.works (begun_still 0 _ _ c.in_ok-link.ensures.answer.0 c.load.ensures.works c.requires.begun)

pub put-requires-2-clause-room : goal.put-requires-2-clause-room
put-requires-2-clause-room g c =
    let two = Works-trans 0 1 _ _ _ c.load.ensures.works c.put.ensures.works.works in
    inr (room_left 1 _ _ two c.in_ok-put.ensures.answer.0 c.requires.room)

pub returns-in_err-put-2-clause-works : goal.returns-in_err-put-2-clause-works
returns-in_err-put-2-clause-works g c = Works-trans 1 1 _ _ _ (Works-trans 0 1 _ _ _ c.load.ensures.works c.put.ensures.works.works) c.put-2.ensures.works.works

pub returns-clause-works : goal.returns-clause-works
returns-clause-works g c = Works-trans 1 1 _ _ _ (Works-trans 0 1 _ _ _ c.load.ensures.works c.put.ensures.works.works) c.put-2.ensures.works.works
