use Rattle.std.proofs.Common.{arith}
use Rattle.envy_map.proofs.OnePut.{Writes-place}
use Rattle.envy_map.proofs.page.set_place.Goals as goal

pub returns-clause-writes : goal.returns-clause-writes
returns-clause-writes g c = Writes-place _ _ _ _ _ _ _ (g.met.B.Board.lawful c.args.board.now) c.requires.page c.requires.place (grind arith) c.encode_place.ensures c.set_half.ensures
