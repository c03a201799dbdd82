use Rattle.envy_trace.proofs.Written.{one_line}
use Rattle.envy_trace.specs.Keep.{keep_line_bytes}
use Rattle.envy_trace.proofs.KeepLines.{keep-read, keep-spelled, keep-long, keep-long-only, prints-keep}
use Rattle.envy_trace.proofs.keep_laws.keep_grammar_holds_both_ways.Goals as goal

pub returns-clause-spelled : goal.returns-clause-spelled
returns-clause-spelled c = λ bytes line. (keep-read bytes line, keep-spelled bytes line)

pub returns-clause-long : goal.returns-clause-long
returns-clause-long c = λ bytes. (keep-long-only bytes, keep-long bytes)

pub returns-clause-reads_back : goal.returns-clause-reads_back
returns-clause-reads_back c = λ line is. keep-spelled (keep_line_bytes line) line (prints-keep line is).reads

pub returns-clause-one_line : goal.returns-clause-one_line
returns-clause-one_line c = λ line is. one_line (keep_line_bytes line) (prints-keep line is).above
