use Rattle.envy_image.specs.Image.{image_of}
use Rattle.envy_run.proofs.Generating.{flushed-out}
use Rattle.envy_run.proofs.save_run.write_board.Goals as goal

pub returns-in-Ok : goal.returns-in-Ok
returns-in-Ok g c = flushed-out (image_of (g.B.Board.state c.args.board.now)) (g.K.Sink.drain c.args.sink.now) (g.K.Sink.drain c.write_image.new.sink) (g.K.Sink.drain c.flush.new.self) c.flush.result c.in-Ok.ensures.1 c.flush.ensures
