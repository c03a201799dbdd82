use Rattle.std.proofs.Common.{◌+◌, ◌%◌, ◌≤◌, arith}
use Rattle.envy_range.proofs.Viewing.{run-below, run-fits, run-own, search-outside, searches-view, works-view}
use Rattle.envy_range.proofs.within.WithinWords.search.Goals as goal

pub overflow_add-self : goal.overflow_add-self
overflow_add-self g c =
    let v = c.args.self.now in
    run-fits v.first v.count c.args.a c.args.n (g.W.Words.sheet v.words) v.fits (g.met.W.Words.lawful v.words) c.requires.within

pub search-requires-clause-within : goal.search-requires-clause-within
search-requires-clause-within g c =
    let v = c.args.self.now in
    run-below v.first v.count c.args.a c.args.n (g.W.Words.sheet v.words) v.fits c.requires.within

pub search-requires-clause-page : goal.search-requires-clause-page
search-requires-clause-page g c =
    let v = c.args.self.now in
    omega (arith, v.starts, c.requires.page)

pub returns-clause-works : goal.returns-clause-works
returns-clause-works g c =
    let v = c.args.self.now in
    let s = g.W.Words.sheet v.words in
    let t = g.W.Words.sheet c.search.new.self in
    works-view 0 v.first v.count s t v.fits (g.met.W.Words.lawful c.search.new.self) (search-outside v.first v.count (v.first + c.args.a) c.args.n c.args.key c.args.low c.args.top c.search.result s t c.search.ensures.answer) c.search.ensures.works

pub returns-clause-answer : goal.returns-clause-answer
returns-clause-answer g c =
    let v = c.args.self.now in
    let s = g.W.Words.sheet v.words in
    searches-view v.first v.count c.args.a c.args.n c.args.key c.args.low c.args.top c.search.result s (g.W.Words.sheet c.search.new.self) (run-own v.first v.count c.args.a c.args.n s v.fits c.requires.within) c.search.ensures.answer
