use Rattle.std.proofs.Common.{arith}
use Rattle.envy_map.proofs.Readings.{Reads-at, origin-is}
use Rattle.envy_map.proofs.probe.origin.Goals as goal

pub returns : goal.returns
returns g c =
    Reads-at (g.B.Board.state c.args.board.now) _ _ _ (origin-is (g.B.Board.state c.args.board.now) _ c.args.i c.requires (grind arith)) c.get.ensures
