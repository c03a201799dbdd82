use Rattle.std.proofs.Common.{arith}
use Rattle.envy_map.proofs.OnePut.{Writes-sums}
use Rattle.envy_map.proofs.blank_map.set_sums.Goals as goal

pub returns-clause-writes : goal.returns-clause-writes
returns-clause-writes g c = Writes-sums _ _ _ _ _ (g.met.B.Board.lawful c.args.board.now) (grind arith) c.put.ensures
