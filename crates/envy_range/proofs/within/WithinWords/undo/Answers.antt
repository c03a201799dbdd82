use Rattle.envy_range.proofs.Viewing.{keeps-view, undo-outside, undoes-view}
use Rattle.envy_range.proofs.within.WithinWords.undo.Goals as goal

pub returns-clause-keeps : goal.returns-clause-keeps
returns-clause-keeps g c =
    let v = c.args.self.now in
    let s = g.W.Words.sheet v.words in
    let t = g.W.Words.sheet c.undo.new.self in
    keeps-view v.first v.count s t v.fits (g.met.W.Words.lawful v.words) (undo-outside v.first v.count c.undo.result s t (g.met.W.Words.lawful c.undo.new.self) c.undo.ensures.answer) c.undo.ensures.keeps

pub returns-clause-answer : goal.returns-clause-answer
returns-clause-answer g c =
    let v = c.args.self.now in
    undoes-view v.first v.count c.undo.result (g.W.Words.sheet v.words) (g.W.Words.sheet c.undo.new.self) c.undo.ensures.answer
