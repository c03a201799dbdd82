use Rattle.std.proofs.Common.{◌-◌, length}
use Rattle.envy_io.proofs.Conserving.{Conserved}
use Rattle.envy_io.proofs.buffered_sink.write_rest.Given as goal

abbrev pub invariant-loop-done : goal.invariant-loop-done
invariant-loop-done g l = Conserved l.bytes l.initial.done (g.K.Sink.drain l.initial.sink) l.done (g.K.Sink.drain l.sink)

abbrev pub decreases-loop-done : goal.decreases-loop-done
decreases-loop-done g l = length l.bytes - l.done
