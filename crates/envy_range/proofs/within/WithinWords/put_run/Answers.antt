use Rattle.std.proofs.Common.{◌+◌, ◌∙◌, arith, length, sym}
use Rattle.envy_range.proofs.Viewing.{page-view, put-run-outside, puts-run-view, room-view, run-below, run-first, run-fits, run-own, size-below, some-of}
use Rattle.envy_range.proofs.within.WithinWords.put_run.Goals as goal

pub overflow_add-self : goal.overflow_add-self
overflow_add-self g c =
    let v = c.args.self.now in
    run-fits v.first v.count c.args.a (length c.args.list.now) (g.W.Words.sheet v.words) v.fits (g.met.W.Words.lawful v.words) c.requires.within

pub put_run-requires-clause-within : goal.put_run-requires-clause-within
put_run-requires-clause-within g c =
    let v = c.args.self.now in
    run-below v.first v.count c.args.a (length c.args.list.now) (g.W.Words.sheet v.words) v.fits c.requires.within

pub put_run-requires-clause-room : goal.put_run-requires-clause-room
put_run-requires-clause-room g c =
    let v = c.args.self.now in
    let s = g.W.Words.sheet v.words in
    room-view v.first v.count c.args.a s v.starts v.whole (run-first v.first v.count c.args.a (length c.args.list.now) s v.fits c.requires.within (some-of (length c.args.list.now) (sym c.is_empty.ensures ∙ c.if-is_empty.false))) c.requires.room

pub invariant_of-self : goal.invariant_of-self
invariant_of-self g c =
    let v = c.args.self.now in
    record {
      starts = v.starts;
      whole = v.whole;
      fits = size-below v.first v.count (g.W.Words.sheet v.words) (g.W.Words.sheet c.put_run.new.self) v.fits c.put_run.ensures.works.works.long;
    }

pub returns-clause-works : goal.returns-clause-works
returns-clause-works g c =
    let v = c.args.self.now in
    let s = g.W.Words.sheet v.words in
    let t = g.W.Words.sheet c.put_run.new.self in
    let le = run-own v.first v.count c.args.a (length c.args.list.now) s v.fits c.requires.within in
    let lt = run-first v.first v.count c.args.a (length c.args.list.now) s v.fits c.requires.within (some-of (length c.args.list.now) (sym c.is_empty.ensures ∙ c.if-is_empty.false)) in
    page-view v.first v.count c.args.a s t v.starts v.whole v.fits lt (g.met.W.Words.lawful c.put_run.new.self) (put-run-outside v.first v.count c.args.a c.args.list.now c.put_run.result s t v.fits le c.put_run.ensures.answer) c.put_run.ensures.works

pub returns-clause-answer : goal.returns-clause-answer
returns-clause-answer g c =
    let v = c.args.self.now in
    let s = g.W.Words.sheet v.words in
    puts-run-view v.first v.count c.args.a c.args.list.now c.put_run.result s (g.W.Words.sheet c.put_run.new.self) v.fits (run-own v.first v.count c.args.a (length c.args.list.now) s v.fits c.requires.within) c.put_run.ensures.answer
