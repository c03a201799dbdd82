use Rattle.envy_trace.proofs.Lines.{line-long, long-only}
use Rattle.envy_trace.proofs.Readings.{line-read, line-spelled}
use Rattle.envy_trace.proofs.Written.{prints, one_line}
use Rattle.envy_trace.specs.Spelling.{line_bytes}
use Rattle.envy_trace.proofs.laws.grammar_holds_both_ways.Goals as goal

pub returns-clause-spelled : goal.returns-clause-spelled
returns-clause-spelled c = λ bytes line. (line-read bytes line, line-spelled bytes line)

pub returns-clause-long : goal.returns-clause-long
returns-clause-long c = λ bytes. (long-only bytes, line-long bytes)

pub returns-clause-reads_back : goal.returns-clause-reads_back
returns-clause-reads_back c = λ line is. line-spelled (line_bytes line) line (prints line is).reads

pub returns-clause-one_line : goal.returns-clause-one_line
returns-clause-one_line c = λ line is. one_line (line_bytes line) (prints line is).above
