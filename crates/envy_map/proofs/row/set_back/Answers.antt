use Rattle.std.proofs.Common.{arith}
use Rattle.envy_map.proofs.OnePut.{Writes-back}
use Rattle.envy_map.proofs.row.set_back.Goals as goal

pub returns-clause-writes : goal.returns-clause-writes
returns-clause-writes g c = Writes-back _ _ _ _ _ _ (g.met.B.Board.lawful c.args.board.now) c.requires.row (grind arith) c.put.ensures
