use Rattle.envy_map.specs.Fields.{chart}
use Rattle.envy_soundness.proofs.UndoLaw.{SameWords-owned}
use Rattle.envy_soundness.proofs.page_undo.own_page.Goals as goal

pub returns-clause-same : goal.returns-clause-same
returns-clause-same g c = SameWords-owned (chart (g.B.Board.state c.args.board.now)) (chart (g.B.Board.state c.set_undo.new.board)) c.args.page c.args.undo c.set_undo.result c.requires.sound c.requires.page c.requires.few c.requires.may c.set_undo.ensures.writes
