use Rattle.std.proofs.Common.{◌+◌, arith, length}
use Rattle.envy_range.specs.Lawful.{inside-long}
use Rattle.envy_range.proofs.Viewing.{load-run-outside, loads-run-view, run-below, run-fits, run-own, works-view}
use Rattle.envy_range.proofs.within.WithinWords.load_run.Goals as goal

pub overflow_add-self : goal.overflow_add-self
overflow_add-self g c =
    let v = c.args.self.now in
    run-fits v.first v.count c.args.a (length c.args.into.now) (g.W.Words.sheet v.words) v.fits (g.met.W.Words.lawful v.words) c.requires

pub load_run-requires : goal.load_run-requires
load_run-requires g c =
    let v = c.args.self.now in
    run-below v.first v.count c.args.a (length c.args.into.now) (g.W.Words.sheet v.words) v.fits c.requires

pub returns-clause-works : goal.returns-clause-works
returns-clause-works g c =
    let v = c.args.self.now in
    let s = g.W.Words.sheet v.words in
    let t = g.W.Words.sheet c.load_run.new.self in
    works-view 0 v.first v.count s t v.fits (g.met.W.Words.lawful c.load_run.new.self) (load-run-outside v.first v.count (v.first + c.args.a) c.load_run.new.into c.load_run.result s t c.load_run.ensures.answer) c.load_run.ensures.works

pub returns-clause-answer : goal.returns-clause-answer
returns-clause-answer g c =
    let v = c.args.self.now in
    let s = g.W.Words.sheet v.words in
    loads-run-view v.first v.count c.args.a c.load_run.new.into c.load_run.result s (g.W.Words.sheet c.load_run.new.self) (run-own v.first v.count c.args.a (length c.load_run.new.into) s v.fits (omega (arith, c.requires, c.load_run.ensures.long))) c.load_run.ensures.answer
