use Rattle.std.proofs.Common.{arith}
use Rattle.envy_map.proofs.OnePut.{Writes-position}
use Rattle.envy_map.proofs.segment.set_segment_at.Goals as goal

pub returns-clause-writes : goal.returns-clause-writes
returns-clause-writes g c = Writes-position _ _ _ _ _ _ (g.met.B.Board.lawful c.args.board.now) c.requires.position (grind arith) c.put.ensures
