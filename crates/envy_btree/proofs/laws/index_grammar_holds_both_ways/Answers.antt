use Rattle.envy_btree.proofs.Lines.{line-long, long-only}
use Rattle.envy_btree.proofs.Readings.{line-read, line-spelled}
use Rattle.envy_btree.proofs.laws.index_grammar_holds_both_ways.Goals as goal

pub returns-clause-spelled : goal.returns-clause-spelled
returns-clause-spelled c = λ bytes line. (line-read bytes line, line-spelled bytes line)

pub returns-clause-long : goal.returns-clause-long
returns-clause-long c = λ bytes. (long-only bytes, line-long bytes)
