use Rattle.std.proofs.Common.{arith}
use Rattle.envy_map.proofs.OnePut.{Writes-frame_word}
use Rattle.envy_map.proofs.frame.put_frame_word.Goals as goal

pub returns-clause-writes : goal.returns-clause-writes
returns-clause-writes g c = Writes-frame_word _ _ _ _ _ _ _ (g.met.B.Board.lawful c.args.board.now) c.requires.frame c.requires.place (grind arith) c.put.ensures
