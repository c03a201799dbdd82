use Rattle.envy_map.specs.Fields.{chart}
use Rattle.envy_soundness.proofs.UndoLaw.{SameWords-cleared}
use Rattle.envy_soundness.proofs.page_undo.clear_settled_undo.Goals as goal

pub returns-clause-same : goal.returns-clause-same
returns-clause-same g c = SameWords-cleared (chart (g.B.Board.state c.args.board.now)) (chart (g.B.Board.state c.set_undo.new.board)) c.args.page c.set_undo.result c.requires.sound c.requires.page c.requires.settled c.set_undo.ensures.writes
