use Rattle.std.proofs.Common.{arith}
use Rattle.envy_map.proofs.Readings.{Reads-at, back-is}
use Rattle.envy_map.proofs.probe.back.Goals as goal

pub returns : goal.returns
returns g c =
    Reads-at (g.B.Board.state c.args.board.now) _ _ _ (back-is (g.B.Board.state c.args.board.now) _ c.args.row c.requires (grind arith)) c.get.ensures
