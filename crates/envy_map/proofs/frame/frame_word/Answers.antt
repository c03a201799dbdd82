use Rattle.std.proofs.Common.{arith}
use Rattle.envy_map.proofs.Readings.{Reads-at, frame_word-is}
use Rattle.envy_map.proofs.frame.frame_word.Goals as goal

pub returns : goal.returns
returns g c = Reads-at (g.B.Board.state c.args.board.now) _ _ _ (frame_word-is (g.B.Board.state c.args.board.now) _ c.args.frame c.args.i c.requires.frame c.requires.place (grind arith)) c.get.ensures
