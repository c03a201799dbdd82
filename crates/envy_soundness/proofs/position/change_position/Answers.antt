use Rattle.envy_map.specs.Fields.{chart}
use Rattle.envy_soundness.proofs.PositionLaw.{Same-positioned}
use Rattle.envy_soundness.proofs.position.change_position.Goals as goal

pub returns-clause-same : goal.returns-clause-same
returns-clause-same g c = Same-positioned (chart (g.B.Board.state c.args.board.now)) (chart (g.B.Board.state c.set_segment_at.new.board)) c.args.position c.args.segment c.set_segment_at.result c.requires.sound c.requires.fits c.set_segment_at.ensures.writes
