use Rattle.envy_map.specs.Fields.{chart}
use Rattle.envy_soundness.proofs.UndoLaw.{Same-shadowed}
use Rattle.envy_soundness.proofs.page_undo.move_undo.Goals as goal

pub returns-clause-same : goal.returns-clause-same
returns-clause-same g c = Same-shadowed (chart (g.B.Board.state c.args.board.now)) (chart (g.B.Board.state c.set_undo.new.board)) c.args.page c.args.slot c.args.row c.set_undo.result c.requires.sound c.requires.page c.requires.owner c.requires.active c.requires.may c.requires.copy c.set_undo.ensures.writes
