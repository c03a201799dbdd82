use Rattle.std.proofs.Common.{◌∙◌, ◌<◌, ◌++◌, length, sym, subst, get_or}
use Rattle.envy_heap.specs.Pieces.{at}
use Rattle.envy_btree.specs.Changes.{joined_keys}
use Rattle.envy_btree.proofs.Diving.{mended-back, hand-as}
use Rattle.envy_array.proofs.Working.{Works-trans}
use Rattle.envy_btree.proofs.Exits.{none-if, err-fails, fails-after, more-works, room-left}
use Rattle.envy_btree.proofs.Neighbours.{above-few, above-slots}
use Rattle.envy_btree.proofs.removal_path.shrink_with_front.Goals as goal

pub returns-clause-mended : goal.returns-clause-mended
returns-clause-mended g c free heap b =
    let old = (g.W.Words.sheet c.args.words.now).words in
    let mid = (g.W.Words.sheet c.mend_with_front.new.words).words in
    let new = (g.W.Words.sheet c.put_back.new.words).words in
    let node = c.mend_with_front.new.node in
    mended-back old mid new free c.args.piece c.args.j c.args.node.keys.items c.args.node.slots.items c.args.child.inner (joined_keys c.args.child.inner b.keys (get_or c.args.node.keys.items c.args.j 0) c.args.child.keys.items) (b.slots ++ c.args.child.slots.items) node.keys.items node.slots.items node.inner c.put_back.result
    (c.in_ok-mend_with_front.ensures.mended free heap b) (c.in_ok-mend_with_front.ensures.kind ∙ c.requires.inner) c.put_back.ensures.back

pub returns-in_err-mend_with_front-clause-works : goal.returns-in_err-mend_with_front-clause-works
returns-in_err-mend_with_front-clause-works g c = more-works 4 2 (g.W.Words.sheet c.args.words.now) (g.W.Words.sheet c.mend_with_front.new.words) c.mend_with_front.ensures.works

pub returns-in_err-mend_with_front-clause-fails : goal.returns-in_err-mend_with_front-clause-fails
returns-in_err-mend_with_front-clause-fails g c = err-fails Unit (g.W.Words.sheet c.args.words.now) (g.W.Words.sheet c.mend_with_front.new.words) c.from_residual.result _ c.in_err-mend_with_front.ensures.fails c.from_residual.ensures.1

pub returns-in_err-mend_with_front-clause-hand : goal.returns-in_err-mend_with_front-clause-hand
returns-in_err-mend_with_front-clause-hand g c = none-if c.from_residual.result _ _ c.from_residual.ensures.1

pub returns-in_err-mend_with_front-clause-mended : goal.returns-in_err-mend_with_front-clause-mended
returns-in_err-mend_with_front-clause-mended g c free heap b = none-if c.from_residual.result _ _ c.from_residual.ensures.1

pub put_back-requires-clause-begun : goal.put_back-requires-clause-begun
put_back-requires-clause-begun g c = c.mend_with_front.ensures.works.still c.in_ok-mend_with_front.ensures.fails ∙ c.requires.begun

pub put_back-requires-clause-within : goal.put_back-requires-clause-within
put_back-requires-clause-within g c = subst (λ n. at c.args.piece 63 < n) (sym c.mend_with_front.ensures.works.long) c.requires.within

pub put_back-requires-clause-room : goal.put_back-requires-clause-room
put_back-requires-clause-room g c = room-left 4 2 (g.W.Words.sheet c.args.words.now) (g.W.Words.sheet c.mend_with_front.new.words) c.mend_with_front.ensures.works c.in_ok-mend_with_front.ensures.fails c.requires.room

pub put_back-requires-clause-few : goal.put_back-requires-clause-few
put_back-requires-clause-few g c = above-few (length c.args.node.keys.items) (length c.mend_with_front.new.node.keys.items) c.mend_with_front.ensures.few c.requires.children.many

pub put_back-requires-clause-slots : goal.put_back-requires-clause-slots
put_back-requires-clause-slots g c = above-slots (length c.args.node.keys.items) (length c.mend_with_front.new.node.keys.items) (length c.mend_with_front.new.node.slots.items) c.mend_with_front.ensures.few c.requires.children.many c.mend_with_front.ensures.long

pub returns-clause-works : goal.returns-clause-works
returns-clause-works g c = Works-trans 4 2 (g.W.Words.sheet c.args.words.now) (g.W.Words.sheet c.mend_with_front.new.words) (g.W.Words.sheet c.put_back.new.words) c.mend_with_front.ensures.works c.put_back.ensures.works

pub returns-clause-fails : goal.returns-clause-fails
returns-clause-fails g c = fails-after 4 2 (g.W.Words.sheet c.args.words.now) (g.W.Words.sheet c.mend_with_front.new.words) (g.W.Words.sheet c.put_back.new.words) c.put_back.result c.mend_with_front.ensures.works c.put_back.ensures.works c.put_back.ensures.fails

pub returns-clause-hand : goal.returns-clause-hand
returns-clause-hand g c = hand-as 4 (g.W.Words.sheet c.args.words.now) (g.W.Words.sheet c.mend_with_front.new.words) (g.W.Words.sheet c.put_back.new.words) c.put_back.result c.mend_with_front.ensures.works c.put_back.ensures.hand
