use Rattle.envy_image.specs.Image.{words_bytes, rows_bytes}
use Rattle.envy_image.proofs.Joining.{second-out}
use Rattle.envy_image.proofs.writer.write_body.Goals as goal

pub returns : goal.returns
returns g c =
    second-out (g.B.Board.state c.args.board.now).on (rows_bytes (g.B.Board.state c.args.board.now).flash) (words_bytes (g.B.Board.state c.args.board.now).sram) _ (g.K.Sink.drain c.args.sink.now) (g.K.Sink.drain c.write_rows.new.sink) (g.K.Sink.drain c.write_words.new.sink) c.requires c.in_ok-write_rows.ensures.1 c.write_words.ensures
