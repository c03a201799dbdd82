use Rattle.std.proofs.Common.{arith}
use Rattle.envy_map.proofs.OnePut.{Writes-undo}
use Rattle.envy_map.proofs.page.set_undo.Goals as goal

pub returns-clause-writes : goal.returns-clause-writes
returns-clause-writes g c = Writes-undo _ _ _ _ _ _ _ (g.met.B.Board.lawful c.args.board.now) c.requires.page c.requires.undo (grind arith) c.encode_undo.ensures c.set_half.ensures
