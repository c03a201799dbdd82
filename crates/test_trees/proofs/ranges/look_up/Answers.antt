use Rattle.std.proofs.Common.{refl, sym, subst}
use Rattle.envy_btree.proofs.Keeping.{keeps-works}
use Rattle.envy_heap.specs.Vectors.{vec_sheet}
use Rattle.envy_heap.specs.declared.vec_words.VecWords.{VecWords}
use Rattle.envy_range.specs.Ranges.{within}
use Rattle.test_trees.specs.Beside.{HasBoth, IsMap}
use Rattle.test_trees.proofs.Beside.{both-still, looked, map-seen, size-seen}
use Rattle.test_trees.proofs.ranges.look_up.Goals as goal

pub get-answer-requires : goal.get-answer-requires
get-answer-requires g c =
    let v = c.of-view.result in
    record { size = size-seen v.first v.count (vec_sheet v.words) v.fits c.of-view.ensures.count }

pub returns : goal.returns
returns g c =
    let v = c.of-view.result in
    let n = c.get-answer.new.words in
    let s = vec_sheet v.words in
    let t = vec_sheet n.words in
    let e = c.get-answer.ensures in
    let map = subst IsMap (sym c.of-view.ensures.first) c.first_of.ensures in
    let both = subst (λ (w : VecWords). HasBoth (vec_sheet w)) (sym c.of-view.ensures.words) c.requires in
    let seen = map-seen v.first v.count s map c.of-view.ensures.count both in
    let left = looked c.args.key c.get-answer.result (within v.first v.count s) (within n.first n.count t) refl e.gets seen in
    let all = both-still v.first v.count n.first n.count s t map c.of-view.ensures.count v.words.sound n.words.sound both e.works.room (keeps-works 0 (within v.first v.count s) (within n.first n.count t) e.works) (e.shut both.shut) left in
    subst (λ (w : VecWords). HasBoth (vec_sheet w)) (sym c.into_words.ensures.same) all
