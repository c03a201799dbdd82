use Rattle.std.proofs.Common.{arith}
use Rattle.envy_map.proofs.OnePut.{Writes-slot}
use Rattle.envy_map.proofs.slots.set_slot.Goals as goal

pub returns-clause-writes : goal.returns-clause-writes
returns-clause-writes g c = Writes-slot _ _ _ _ _ _ _ (g.met.B.Board.lawful c.args.board.now) c.requires (grind arith) c.encode_slot.ensures c.put.ensures
