use Rattle.std.proofs.Common.{arith}
use Rattle.envy_map.proofs.OnePut.{Writes-origin}
use Rattle.envy_map.proofs.row.set_origin.Goals as goal

pub returns-clause-writes : goal.returns-clause-writes
returns-clause-writes g c = Writes-origin _ _ _ _ _ _ (g.met.B.Board.lawful c.args.board.now) c.requires.place (grind arith) c.put.ensures
