use Rattle.envy_map.specs.Fields.{chart}
use Rattle.envy_soundness.proofs.ClaimLaw.{Same-backed, fills-backed}
use Rattle.envy_soundness.proofs.claim.claim_back.Goals as goal

pub returns-clause-same : goal.returns-clause-same
returns-clause-same g c = Same-backed (chart (g.B.Board.state c.args.board.now)) (chart (g.B.Board.state c.set_back.new.board)) c.args.row c.args.page c.set_back.result c.requires.sound c.requires.page c.requires.free c.set_back.ensures.writes

pub returns-clause-fills : goal.returns-clause-fills
returns-clause-fills g c = fills-backed (chart (g.B.Board.state c.args.board.now)) (chart (g.B.Board.state c.set_back.new.board)) c.args.row c.args.page c.set_back.result c.set_back.ensures.writes
