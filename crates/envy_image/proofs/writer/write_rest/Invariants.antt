use Rattle.std.specs.Prelude.{Ok, take}
use Rattle.envy_io.specs.Streams.{Drain, WritesAll}
use Rattle.envy_image.specs.Image.{words_bytes}
use Rattle.envy_image.proofs.writer.write_rest.Given as goal

abbrev pub invariant-loop-w : goal.invariant-loop-w
invariant-loop-w g l = (from : Drain) → WritesAll from (words_bytes (take l.first (g.B.Board.state l.board).sram)) (Ok tt) (g.K.Sink.drain l.initial.sink) → WritesAll from (words_bytes (take l.w (g.B.Board.state l.board).sram)) (Ok tt) (g.K.Sink.drain l.sink)
