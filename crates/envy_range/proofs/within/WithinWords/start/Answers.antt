use Rattle.envy_range.proofs.Viewing.{keeps-view, start-outside, starts-view}
use Rattle.envy_range.proofs.within.WithinWords.start.Goals as goal

pub returns-clause-keeps : goal.returns-clause-keeps
returns-clause-keeps g c =
    let v = c.args.self.now in
    let s = g.W.Words.sheet v.words in
    let t = g.W.Words.sheet c.start.new.self in
    keeps-view v.first v.count s t v.fits (g.met.W.Words.lawful v.words) (start-outside v.first v.count c.start.result s t (g.met.W.Words.lawful c.start.new.self) c.start.ensures.answer) c.start.ensures.keeps

pub returns-clause-answer : goal.returns-clause-answer
returns-clause-answer g c =
    let v = c.args.self.now in
    starts-view v.first v.count c.start.result (g.W.Words.sheet v.words) (g.W.Words.sheet c.start.new.self) c.start.ensures.answer
