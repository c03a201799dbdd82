use Rattle.envy_map.specs.Fields.{chart}
use Rattle.envy_soundness.proofs.FrameLaw.{Same-framed}
use Rattle.envy_soundness.proofs.frame.write_free_frame.Goals as goal

pub returns-clause-same : goal.returns-clause-same
returns-clause-same g c = Same-framed (chart (g.B.Board.state c.args.board.now)) (chart (g.B.Board.state c.write_frame.new.board)) c.args.frame c.args.page.now c.write_frame.result c.requires.sound c.requires.frame c.told-page c.requires.unnamed c.write_frame.ensures.ok c.write_frame.ensures.on c.write_frame.ensures.off
