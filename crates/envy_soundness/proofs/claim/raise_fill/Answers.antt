use Rattle.envy_map.specs.Fields.{chart}
use Rattle.envy_soundness.proofs.ClaimLaw.{Same-raised, FillsRise-raised}
use Rattle.envy_soundness.proofs.claim.raise_fill.Goals as goal

pub returns-clause-same : goal.returns-clause-same
returns-clause-same g c = Same-raised (chart (g.B.Board.state c.args.board.now)) (chart (g.B.Board.state c.set_fill.new.board)) c.args.segment c.args.fill c.set_fill.result c.requires.sound c.requires.segment c.requires.room c.requires.filled c.requires.usable c.set_fill.ensures.writes

pub returns-clause-rises : goal.returns-clause-rises
returns-clause-rises g c = FillsRise-raised (chart (g.B.Board.state c.args.board.now)) (chart (g.B.Board.state c.set_fill.new.board)) c.args.segment c.args.fill c.set_fill.result c.requires.filled c.set_fill.ensures.writes
