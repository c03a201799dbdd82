use Rattle.std.proofs.Common.{arith}
use Rattle.envy_map.proofs.Readings.{Reads-at, fill-is}
use Rattle.envy_map.proofs.probe.fill.Goals as goal

pub returns : goal.returns
returns g c =
    Reads-at (g.B.Board.state c.args.board.now) _ _ _ (fill-is (g.B.Board.state c.args.board.now) _ c.args.segment c.requires (grind arith)) c.get.ensures
