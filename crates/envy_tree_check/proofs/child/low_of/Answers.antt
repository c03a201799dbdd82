use Rattle.envy_tree_check.proofs.Noding.{low-first, low-said}
use Rattle.envy_tree_check.proofs.child.low_of.Goals as goal

pub returns-then-j-eq0-clause-low : goal.returns-then-j-eq0-clause-low
returns-then-j-eq0-clause-low g c = low-first (g.W.Words.sheet c.args.words.now).words c.args.spot.low c.args.spot.piece c.args.j c.if-j-eq0.true

pub returns-clause-low : goal.returns-clause-low
returns-clause-low g c = low-said (g.W.Words.sheet c.args.words.now).words c.args.spot.low c.args.spot.piece c.args.j c.in_ok-key.key c.if-j-eq0.false c.in_ok-key.ensures.answer.1
