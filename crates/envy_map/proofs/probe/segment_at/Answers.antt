use Rattle.std.proofs.Common.{arith}
use Rattle.envy_map.proofs.Readings.{Reads-at, position-is}
use Rattle.envy_map.proofs.probe.segment_at.Goals as goal

pub returns : goal.returns
returns g c =
    Reads-at (g.B.Board.state c.args.board.now) _ _ _ (position-is (g.B.Board.state c.args.board.now) _ c.args.position c.requires (grind arith)) c.get.ensures
