use Rattle.std.proofs.Common.{arith}
use Rattle.envy_map.proofs.OnePut.{Writes-fill}
use Rattle.envy_map.proofs.segment.set_fill.Goals as goal

pub returns-clause-writes : goal.returns-clause-writes
returns-clause-writes g c = Writes-fill _ _ _ _ _ _ (g.met.B.Board.lawful c.args.board.now) c.requires.segment (grind arith) c.put.ensures
