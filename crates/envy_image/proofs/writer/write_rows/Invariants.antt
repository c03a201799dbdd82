use Rattle.std.specs.Prelude.{Ok, take}
use Rattle.envy_io.specs.Streams.{WritesAll}
use Rattle.envy_image.specs.Image.{rows_bytes}
use Rattle.envy_image.proofs.writer.write_rows.Given as goal

abbrev pub invariant-loop-row : goal.invariant-loop-row
invariant-loop-row g l = WritesAll (g.K.Sink.drain l.initial.sink) (rows_bytes (take l.row (g.B.Board.state l.board).flash)) (Ok tt) (g.K.Sink.drain l.sink)
