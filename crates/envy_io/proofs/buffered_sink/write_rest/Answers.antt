use Rattle.envy_io.proofs.Conserving.{conserved_more}
use Rattle.envy_io.proofs.buffered_sink.write_rest.Goals as goal

pub loop-done-preserved : goal.loop-done-preserved
loop-done-preserved g c = conserved_more c.args.bytes.now c.args.done.now _ c.loop-done.done _ c.in_ok-count.count _ c.loop-done.invariant c.in_ok-count.ensures
