use Rattle.std.proofs.Common.{◌≡◌, ◌-◌}
use Rattle.envy_io.proofs.WritesLemmas.{Written}
use Rattle.envy_gen.specs.Traces.{trace_bytes}
use Rattle.envy_gen.proofs.Pieces.{answers, bytes_left}
use Rattle.envy_gen.proofs.trace.generate.Given as goal

abbrev pub invariant-loop-line : goal.invariant-loop-line
invariant-loop-line g l = record {
  written : Written (g.K.Sink.drain l.initial.sink) (trace_bytes l.start l.lines l.mix) (bytes_left l.mix (l.lines - l._line) (answers l.words)) (g.K.Sink.drain l.sink);
  uncalled : l._line ≡ 0 → l.sink ≡ l.initial.sink;
}
