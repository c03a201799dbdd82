use Rattle.envy_trace.specs.Spelling.{line_bytes}
use Rattle.envy_trace.proofs.Readings.{line-spelled}
use Rattle.envy_trace.proofs.Written.{prints}
use Rattle.envy_trace.proofs.write.line_text.Goals as goal

pub returns-clause-reads_back : goal.returns-clause-reads_back
returns-clause-reads_back c =
    rw c.write_line.ensures.text
    (line-spelled (line_bytes c.args.line.now) c.args.line.now (prints c.args.line.now (c.write_line.ensures.ranges c.requires.place)).reads)
