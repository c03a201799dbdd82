use Rattle.std.proofs.Common.{◌∙◌, sym, ap}
use Rattle.envy_io.specs.declared.lines.Next.TheVariants.{Line as NextIsLine}
use Rattle.envy_serve.proofs.Reading.{met, read-more, read-refused, read-long, read-ended, read-failed, read-spent}
use Rattle.envy_serve.proofs.next_line.fetch.Goals as goal

pub returns-in-Ok-clause-reads : goal.returns-in-Ok-clause-reads
returns-in-Ok-clause-reads g c skipped from lines read =
    read-more g.V.Service.grammar.reads skipped from (g.S.Source.feed c.next_line.new.source) c.next_line.new.self lines c.next_line.new.line.items c.in-Ok.line (met g.V.Service.grammar.reads skipped from (g.S.Source.feed c.args.source.now) (g.S.Source.feed c.next_line.new.source) c.args.reader.now c.next_line.new.self lines NextIsLine c.next_line.new.line.items read c.in-Line.ensures.next) (ap g.V.Service.grammar.reads (sym c.as_slice.ensures.value) ∙ sym c.in-Ok.ensures)

pub returns-in-Err-clause-reads : goal.returns-in-Err-clause-reads
returns-in-Err-clause-reads g c skipped from lines read =
    read-refused g.V.Service.grammar.reads skipped from (g.S.Source.feed c.next_line.new.source) c.next_line.new.self lines c.next_line.new.line.items c.in-Err.fault (met g.V.Service.grammar.reads skipped from (g.S.Source.feed c.args.source.now) (g.S.Source.feed c.next_line.new.source) c.args.reader.now c.next_line.new.self lines NextIsLine c.next_line.new.line.items read c.in-Line.ensures.next) (ap g.V.Service.grammar.reads (sym c.as_slice.ensures.value) ∙ sym c.in-Err.ensures)

pub returns-in-End-clause-reads : goal.returns-in-End-clause-reads
returns-in-End-clause-reads g c skipped from lines read = read-ended g.V.Service.grammar.reads skipped from (g.S.Source.feed c.args.source.now) (g.S.Source.feed c.next_line.new.source) c.args.reader.now c.next_line.new.self lines c.next_line.new.line.items read c.in-End.ensures.next

pub returns-in-Long-clause-reads : goal.returns-in-Long-clause-reads
returns-in-Long-clause-reads g c skipped from lines read = read-long g.V.Service.grammar.reads skipped from (g.S.Source.feed c.args.source.now) (g.S.Source.feed c.next_line.new.source) c.args.reader.now c.next_line.new.self lines c.next_line.new.line.items g.met.V.Service.long read c.in-Long.ensures.next

pub returns-in-Failed-clause-reads : goal.returns-in-Failed-clause-reads
returns-in-Failed-clause-reads g c skipped from lines read = read-failed g.V.Service.grammar.reads skipped from (g.S.Source.feed c.args.source.now) (g.S.Source.feed c.next_line.new.source) c.args.reader.now c.next_line.new.self lines c.next_line.new.line.items read c.in-Failed.ensures.next

pub returns-in-Spent-clause-reads : goal.returns-in-Spent-clause-reads
returns-in-Spent-clause-reads g c skipped from lines read = read-spent g.V.Service.grammar.reads skipped from (g.S.Source.feed c.args.source.now) (g.S.Source.feed c.next_line.new.source) c.args.reader.now c.next_line.new.self lines c.next_line.new.line.items read c.in-Spent.ensures.next
