use Rattle.std.proofs.Common.{◌≡◌, [], length}
use Rattle.envy_io.proofs.WritesLemmas.{Written}
use Rattle.envy_io.proofs.sink.write_all.Given as goal

abbrev pub invariant-loop-rest : goal.invariant-loop-rest
invariant-loop-rest g l = record {
  written : Written (g.K.Sink.drain l.initial.sink) l.piece l.rest (g.K.Sink.drain l.sink);
  uncalled : l.piece ≡ [] → l.sink ≡ l.initial.sink;
}

abbrev pub decreases-loop-rest : goal.decreases-loop-rest
decreases-loop-rest g l = length l.rest
