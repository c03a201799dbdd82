use Rattle.envy_range.proofs.Viewing.{finish-outside, finishes-view, keeps-view}
use Rattle.envy_range.proofs.within.WithinWords.finish.Goals as goal

pub returns-clause-keeps : goal.returns-clause-keeps
returns-clause-keeps g c =
    let v = c.args.self.now in
    let s = g.W.Words.sheet v.words in
    let t = g.W.Words.sheet c.finish.new.self in
    keeps-view v.first v.count s t v.fits (g.met.W.Words.lawful v.words) (finish-outside v.first v.count c.finish.result s t (g.met.W.Words.lawful c.finish.new.self) c.finish.ensures.answer) c.finish.ensures.keeps

pub returns-clause-answer : goal.returns-clause-answer
returns-clause-answer g c =
    let v = c.args.self.now in
    finishes-view v.first v.count c.finish.result (g.W.Words.sheet v.words) (g.W.Words.sheet c.finish.new.self) c.finish.ensures.answer
