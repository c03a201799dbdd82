use Rattle.envy_run.specs.Drives.{report}
use Rattle.envy_run.proofs.Generating.{flushed-out}
use Rattle.envy_run.proofs.report.write_report.Goals as goal

pub returns : goal.returns
returns g c = flushed-out (report c.args.area.now c.args.sums.now) (g.K.Sink.drain c.args.sink.now) (g.K.Sink.drain c.write_lines.new.sink) (g.K.Sink.drain c.flush.new.self) c.flush.result c.in_ok-write_lines.ensures c.flush.ensures
