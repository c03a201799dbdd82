use Rattle.envy_map.specs.Fields.{chart}
use Rattle.envy_soundness.proofs.JobLaw.{Same-job}
use Rattle.envy_soundness.proofs.job.change_job.Goals as goal

pub returns-clause-same : goal.returns-clause-same
returns-clause-same g c = Same-job (chart (g.B.Board.state c.args.board.now)) (chart (g.B.Board.state c.set_job.new.board)) c.args.job c.set_job.result c.requires.sound c.requires.fits c.set_job.ensures.writes
