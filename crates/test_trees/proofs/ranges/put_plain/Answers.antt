use Rattle.std.proofs.Common.{◌∙◌, refl, sym, subst}
use Rattle.envy_btree.proofs.Keeping.{keeps-through}
use Rattle.envy_heap.specs.Vectors.{vec_sheet}
use Rattle.envy_heap.specs.declared.vec_words.VecWords.{VecWords}
use Rattle.envy_range.specs.Ranges.{within}
use Rattle.test_trees.specs.Beside.{HasBoth}
use Rattle.test_trees.proofs.Beside.{both-beside, finished, plain-long}
use Rattle.test_trees.proofs.ranges.put_plain.Goals as goal

pub put-requires-clause-address : goal.put-requires-clause-address
put-requires-clause-address g c =
    let v = c.of-view.result in
    let n = c.start.new.self in
    plain-long v.first v.count n.first n.count c.args.a (vec_sheet v.words) (vec_sheet n.words) v.fits c.of-view.ensures.count c.start.ensures.keeps.long c.requires.plain

pub returns : goal.returns
returns g c =
    let v = c.of-view.result in
    let n = c.finish.new.self in
    let s = vec_sheet v.words in
    let t = vec_sheet n.words in
    let both = subst (λ (w : VecWords). HasBoth (vec_sheet w)) (sym c.of-view.ensures.words) c.requires.both in
    let one = c.start.ensures.keeps in
    let two = c.put.ensures.works.works in
    let three = c.finish.ensures.keeps in
    let m = c.put.new.self in
    let k = c.start.new.self in
    let all = keeps-through 1 (within v.first v.count s) (within k.first k.count (vec_sheet k.words)) (within m.first m.count (vec_sheet m.words)) (within n.first n.count t) one two three in
    let shut = finished c.finish.result (within m.first m.count (vec_sheet m.words)) (within n.first n.count t) refl c.finish.ensures.answer in
    let left = both-beside v.first v.count n.first n.count s t c.of-view.ensures.first c.of-view.ensures.count v.words.sound n.words.sound both (three.room ∙ two.room ∙ one.room) all shut in
    subst (λ (w : VecWords). HasBoth (vec_sheet w)) (sym c.into_words.ensures.same) left
