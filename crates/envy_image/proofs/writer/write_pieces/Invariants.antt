use Rattle.std.specs.Prelude.{Ok, take, ◌*◌}
use Rattle.envy_io.specs.Streams.{WritesAll}
use Rattle.envy_image.specs.Image.{words_bytes}
use Rattle.envy_image.proofs.writer.write_pieces.Given as goal

abbrev pub invariant-loop-piece : goal.invariant-loop-piece
invariant-loop-piece g l = WritesAll (g.K.Sink.drain l.initial.sink) (words_bytes (take (32 * l.piece) (g.B.Board.state l.board).sram)) (Ok tt) (g.K.Sink.drain l.sink)
