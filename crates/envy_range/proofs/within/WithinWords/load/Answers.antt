use Rattle.std.proofs.Common.{◌+◌}
use Rattle.envy_range.proofs.Viewing.{address-below, load-outside, loads-view, own-address, sum-fits, works-view}
use Rattle.envy_range.proofs.within.WithinWords.load.Goals as goal

pub overflow_add-self : goal.overflow_add-self
overflow_add-self g c =
    let v = c.args.self.now in
    sum-fits v.first v.count c.args.a (g.W.Words.sheet v.words) v.fits (g.met.W.Words.lawful v.words) c.requires

pub load-requires : goal.load-requires
load-requires g c =
    let v = c.args.self.now in
    address-below v.first v.count c.args.a (g.W.Words.sheet v.words) v.fits c.requires

pub returns-clause-works : goal.returns-clause-works
returns-clause-works g c =
    let v = c.args.self.now in
    let s = g.W.Words.sheet v.words in
    let t = g.W.Words.sheet c.load.new.self in
    works-view 0 v.first v.count s t v.fits (g.met.W.Words.lawful c.load.new.self) (load-outside v.first v.count (v.first + c.args.a) c.load.result s t c.load.ensures.answer) c.load.ensures.works

pub returns-clause-answer : goal.returns-clause-answer
returns-clause-answer g c =
    let v = c.args.self.now in
    let s = g.W.Words.sheet v.words in
    loads-view v.first v.count c.args.a c.load.result s (g.W.Words.sheet c.load.new.self) (own-address v.first v.count c.args.a s v.fits c.requires) c.load.ensures.answer
