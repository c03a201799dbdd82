use Rattle.std.proofs.Common.{refl, sym, subst}
use Rattle.envy_heap.specs.Vectors.{vec_sheet}
use Rattle.envy_heap.specs.declared.vec_words.VecWords.{VecWords}
use Rattle.envy_range.specs.Ranges.{within}
use Rattle.test_trees.specs.Beside.{HasBoth, IsMap}
use Rattle.test_trees.proofs.Beside.{both-still, inserted, map-seen, size-seen}
use Rattle.test_trees.proofs.ranges.set.Goals as goal

pub insert-answer-requires-clause-size : goal.insert-answer-requires-clause-size
insert-answer-requires-clause-size g c =
    let v = c.of-view.result in
    size-seen v.first v.count (vec_sheet v.words) v.fits c.of-view.ensures.count

pub returns : goal.returns
returns g c =
    let v = c.of-view.result in
    let n = c.insert-answer.new.words in
    let s = vec_sheet v.words in
    let t = vec_sheet n.words in
    let e = c.insert-answer.ensures in
    let map = subst IsMap (sym c.of-view.ensures.first) c.first_of.ensures in
    let both = subst (λ (w : VecWords). HasBoth (vec_sheet w)) (sym c.of-view.ensures.words) c.requires in
    let seen = map-seen v.first v.count s map c.of-view.ensures.count both in
    let left = inserted c.args.pair.0 c.args.pair.1 c.insert-answer.result (within v.first v.count s) (within n.first n.count t) refl e.inserts seen in
    let all = both-still v.first v.count n.first n.count s t map c.of-view.ensures.count v.words.sound n.words.sound both e.keeps.room e.keeps e.shut left in
    subst (λ (w : VecWords). HasBoth (vec_sheet w)) (sym c.into_words.ensures.same) all
