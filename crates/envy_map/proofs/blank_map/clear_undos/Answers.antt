use Rattle.std.proofs.Common.{arith}
use Rattle.envy_map.proofs.OnePut.{Writes-undos_clear}
use Rattle.envy_map.proofs.blank_map.clear_undos.Goals as goal

pub returns-clause-writes : goal.returns-clause-writes
returns-clause-writes g c = Writes-undos_clear _ _ _ _ _ (g.met.B.Board.lawful c.args.board.now) c.requires (grind arith) c.put.ensures
