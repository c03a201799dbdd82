use Rattle.envy_map.specs.Fields.{chart}
use Rattle.envy_soundness.proofs.ClaimLaw.{Same-noted}
use Rattle.envy_soundness.proofs.claim.note_origin.Goals as goal

pub returns-clause-same : goal.returns-clause-same
returns-clause-same g c = Same-noted (chart (g.B.Board.state c.args.board.now)) (chart (g.B.Board.state c.set_origin.new.board)) c.args.i c.args.row c.set_origin.result c.requires.sound c.requires.row c.requires.copying c.set_origin.ensures.writes
