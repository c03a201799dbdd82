use Rattle.std.proofs.Common.{refl, ◌≡◌, ◌≢◌, ◌<◌, ◌+◌, ◌-◌, ◌*◌, ap, ◌∙◌, subst, sym, get_or, set, arith, length}
use Rattle.envy_array.proofs.Working.{OnPage-trans, OnPage-room}
use Rattle.envy_heap.specs.Pieces.{Takes, pieces}
use Rattle.envy_heap.proofs.Loading.{loaded, begun_still, word_of_first, fewer}
use Rattle.envy_heap.proofs.Heaps.{link-within, Takes-first, Takes-new, Exhausted}
use Rattle.envy_heap.proofs.pieces.take.Goals as goal

pub overflow_cast-piece : goal.overflow_cast-piece
overflow_cast-piece g c =
    let low = link-within _ c.requires.heap.0 c.requires.heap.1 (omega (arith, c.in_ok-link.ensures.answer.1)) in
    omega (arith, low.0, c.in_ok-link.ensures.answer.1, (g.met.W.Words.lawful c.args.words.now).few)

pub overflow_mul-piece : goal.overflow_mul-piece
overflow_mul-piece g c =
    let low = link-within _ c.requires.heap.0 c.requires.heap.1 (omega (arith, c.in_ok-link.ensures.answer.1)) in
    omega (arith, low.0, c.in_ok-link.ensures.answer.1, (g.met.W.Words.lawful c.args.words.now).few)

pub overflow_add-piece : goal.overflow_add-piece
overflow_add-piece g c =
    let low = link-within _ c.requires.heap.0 c.requires.heap.1 (omega (arith, c.in_ok-link.ensures.answer.1)) in
    omega (arith, low.0, c.in_ok-link.ensures.answer.1, (g.met.W.Words.lawful c.args.words.now).few)

pub load-requires-then-link-gt0 : goal.load-requires-then-link-gt0
load-requires-then-link-gt0 g c =
    let low = link-within _ c.requires.heap.0 c.requires.heap.1 (omega (arith, c.in_ok-link.ensures.answer.1)) in
    omega (arith, low.0, c.in_ok-link.ensures.answer.1, ap length c.in_ok-link.ensures.answer.2)

pub returns-then-link-gt0-clause-takes : goal.returns-then-link-gt0-clause-takes
returns-then-link-gt0-clause-takes g c free heap =
    let old = (g.W.Words.sheet c.args.words.now).words in
    let link = c.in_ok-link.ensures.answer in
    let next = c.in_ok-next.ensures.answer in
    let lt : 0 < get_or old 1 0 = omega (arith, link.1) in
    let e = c.in_ok-put.ensures.answer.1 ∙ ap (λ x. set x 1 c.in_ok-next.next) (next.2 ∙ link.2) in
    let read = next.1 ∙ ap (λ x. get_or x (64 + 64 * (c.in_ok-link.link - 1)) 0) link.2 in
    let t = Takes-first old free (c.in_ok-link.link - 1) c.in_ok-next.next heap lt (ap (λ x. x - 1) link.1) read in
    (t.0, subst (λ x. Takes (c.in_ok-link.link - 1) old x free t.0) (sym e) t.1)

pub returns-then-used-size-clause-takes : goal.returns-then-used-size-clause-takes
returns-then-used-size-clause-takes g c free heap =
    let old = (g.W.Words.sheet c.args.words.now).words in
    let link = c.in_ok-link.ensures.answer in
    let used = c.in_ok-used.ensures.answer in
    let all : get_or old 2 0 ≡ pieces old = omega (arith, used.1, ap (λ x. get_or x 2 0) link.2, ap length link.2, ap length used.2, c.size.ensures) in
    let none : get_or old 1 0 ≡ 0 = omega (arith, link.1) in
    (Exhausted old free heap none all, used.2 ∙ link.2)

pub returns-clause-takes : goal.returns-clause-takes
returns-clause-takes g c free heap =
    let old = (g.W.Words.sheet c.args.words.now).words in
    let link = c.in_ok-link.ensures.answer in
    let used = c.in_ok-used.ensures.answer in
    let none : get_or old 1 0 ≡ 0 = omega (arith, link.1) in
    let is : c.in_ok-used.used ≡ get_or old 2 0 = used.1 ∙ ap (λ x. get_or x 2 0) link.2 in
    let ne : c.in_ok-used.used ≢ pieces old = omega (arith, ap length link.2, ap length used.2, c.size.ensures) in
    let e = c.in_ok-put-2.ensures.answer.1 ∙ ap (λ x. set x 2 (c.in_ok-used.used + 1)) (used.2 ∙ link.2) in
    let t = Takes-new old free c.in_ok-used.used heap none is ne in
    (t.0, subst (λ x. Takes c.in_ok-used.used old x free t.0) (sym e) t.1)

pub returns-in_err-link-clause-works : goal.returns-in_err-link-clause-works
returns-in_err-link-clause-works g c = loaded 0 1 c.load.result _ _ c.load.ensures.works c.load.ensures.answer

pub returns-in_err-next-clause-works : goal.returns-in_err-next-clause-works
returns-in_err-next-clause-works g c =
    let one = loaded 0 1 c.load.result _ _ c.load.ensures.works c.load.ensures.answer in
    OnPage-trans 0 _ _ _ one (loaded 0 _ c.load-then-link-gt0.result _ _ c.load-then-link-gt0.ensures.works c.load-then-link-gt0.ensures.answer)

pub put-requires-clause-address : goal.put-requires-clause-address
put-requires-clause-address g c = word_of_first 1 _ _ (omega arith) (c.load-then-link-gt0.ensures.works.long ∙ c.load.ensures.works.long) c.requires.heap.1.size

pub put-requires-clause-begun : goal.put-requires-clause-begun
put-requires-clause-begun g c = begun_still _ _ _ c.in_ok-next.ensures.answer.0 (c.load-then-link-gt0.ensures.works) (begun_still _ _ _ c.in_ok-link.ensures.answer.0 c.load.ensures.works c.requires.begun)

pub put-requires-clause-room : goal.put-requires-clause-room
put-requires-clause-room g c =
    let one = loaded 0 1 c.load.result _ _ c.load.ensures.works c.load.ensures.answer in
    let two = OnPage-trans 0 _ _ _ one (loaded 0 _ c.load-then-link-gt0.result _ _ c.load-then-link-gt0.ensures.works c.load-then-link-gt0.ensures.answer) in
    OnPage-room 0 0 _ _ two c.in_ok-next.ensures.answer.0 refl (fewer _ _ c.requires.room)

pub returns-in_err-put-clause-works : goal.returns-in_err-put-clause-works
returns-in_err-put-clause-works g c =
    let one = loaded 0 1 c.load.result _ _ c.load.ensures.works c.load.ensures.answer in
    let two = OnPage-trans 0 _ _ _ one (loaded 0 _ c.load-then-link-gt0.result _ _ c.load-then-link-gt0.ensures.works c.load-then-link-gt0.ensures.answer) in
    OnPage-trans 0 _ _ _ two c.put.ensures.works

pub returns-then-link-gt0-clause-works : goal.returns-then-link-gt0-clause-works
returns-then-link-gt0-clause-works g c =
    let one = loaded 0 1 c.load.result _ _ c.load.ensures.works c.load.ensures.answer in
    let two = OnPage-trans 0 _ _ _ one (loaded 0 _ c.load-then-link-gt0.result _ _ c.load-then-link-gt0.ensures.works c.load-then-link-gt0.ensures.answer) in
    OnPage-trans 0 _ _ _ two c.put.ensures.works

pub returns-in_err-used-clause-works : goal.returns-in_err-used-clause-works
returns-in_err-used-clause-works g c =
    let one = loaded 0 1 c.load.result _ _ c.load.ensures.works c.load.ensures.answer in
    OnPage-trans 0 _ _ _ one (loaded 0 2 c.load-2.result _ _ c.load-2.ensures.works c.load-2.ensures.answer)

pub returns-then-used-size-clause-works : goal.returns-then-used-size-clause-works
returns-then-used-size-clause-works g c =
    let one = loaded 0 1 c.load.result _ _ c.load.ensures.works c.load.ensures.answer in
    OnPage-trans 0 _ _ _ one (loaded 0 2 c.load-2.result _ _ c.load-2.ensures.works c.load-2.ensures.answer)

pub put-requires-2-clause-address : goal.put-requires-2-clause-address
put-requires-2-clause-address g c = word_of_first 2 _ _ (omega arith) (c.load-2.ensures.works.long ∙ c.load.ensures.works.long) c.requires.heap.1.size

pub put-requires-2-clause-begun : goal.put-requires-2-clause-begun
put-requires-2-clause-begun g c = begun_still _ _ _ c.in_ok-used.ensures.answer.0 (c.load-2.ensures.works) (begun_still _ _ _ c.in_ok-link.ensures.answer.0 c.load.ensures.works c.requires.begun)

pub put-requires-2-clause-room : goal.put-requires-2-clause-room
put-requires-2-clause-room g c =
    let one = loaded 0 1 c.load.result _ _ c.load.ensures.works c.load.ensures.answer in
    let two = OnPage-trans 0 _ _ _ one (loaded 0 2 c.load-2.result _ _ c.load-2.ensures.works c.load-2.ensures.answer) in
    OnPage-room 0 0 _ _ two c.in_ok-used.ensures.answer.0 refl (fewer _ _ c.requires.room)

pub returns-in_err-put-2-clause-works : goal.returns-in_err-put-2-clause-works
returns-in_err-put-2-clause-works g c =
    let one = loaded 0 1 c.load.result _ _ c.load.ensures.works c.load.ensures.answer in
    let two = OnPage-trans 0 _ _ _ one (loaded 0 2 c.load-2.result _ _ c.load-2.ensures.works c.load-2.ensures.answer) in
    OnPage-trans 0 _ _ _ two c.put-2.ensures.works

pub returns-clause-works : goal.returns-clause-works
returns-clause-works g c =
    let one = loaded 0 1 c.load.result _ _ c.load.ensures.works c.load.ensures.answer in
    let two = OnPage-trans 0 _ _ _ one (loaded 0 2 c.load-2.result _ _ c.load-2.ensures.works c.load-2.ensures.answer) in
    OnPage-trans 0 _ _ _ two c.put-2.ensures.works
