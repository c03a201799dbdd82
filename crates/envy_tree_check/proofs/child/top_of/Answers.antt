use Rattle.std.proofs.Common.{◌+◌, ap, arith}
use Rattle.envy_tree_check.proofs.Noding.{high-last, high-said}
use Rattle.envy_tree_check.proofs.child.top_of.Goals as goal

pub returns-then-j-count-clause-high : goal.returns-then-j-count-clause-high
returns-then-j-count-clause-high g c = high-last (g.W.Words.sheet c.args.words.now).words (c.args.spot.top + 1) c.args.spot.piece c.args.j c.args.count c.requires.keys c.if-j-count.true

pub returns-clause-high : goal.returns-clause-high
returns-clause-high g c = high-said (g.W.Words.sheet c.args.words.now).words (c.args.spot.top + 1) c.args.spot.piece c.args.j c.args.count c.in_ok-key.key c.requires.keys c.requires.place c.if-j-count.false c.in_ok-key.ensures.answer.1 (c.requires.above c.args.j (omega arith))
