use Rattle.envy_trace.proofs.Mirrored.{mirror-read, mirror-spelled, mirror-long, mirror-long-only, prints-mirror}
use Rattle.envy_trace.proofs.Written.{one_line}
use Rattle.envy_trace.specs.Mirror.{mirror_line_bytes}
use Rattle.envy_trace.proofs.laws.mirror_grammar_holds_both_ways.Goals as goal

pub returns-clause-spelled : goal.returns-clause-spelled
returns-clause-spelled c = λ bytes line. (mirror-read bytes line, mirror-spelled bytes line)

pub returns-clause-long : goal.returns-clause-long
returns-clause-long c = λ bytes. (mirror-long-only bytes, mirror-long bytes)

pub returns-clause-reads_back : goal.returns-clause-reads_back
returns-clause-reads_back c = λ line is. mirror-spelled (mirror_line_bytes line) line (prints-mirror line is).reads

pub returns-clause-one_line : goal.returns-clause-one_line
returns-clause-one_line c = λ line is. one_line (mirror_line_bytes line) (prints-mirror line is).above
