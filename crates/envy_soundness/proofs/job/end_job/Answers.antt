use Rattle.envy_map.specs.Fields.{chart}
use Rattle.envy_soundness.proofs.JobLaw.{FitsJob-idle}
use Rattle.envy_soundness.proofs.job.end_job.Goals as goal

pub change_job-requires-clause-fits : goal.change_job-requires-clause-fits
change_job-requires-clause-fits g c = λ on. FitsJob-idle (g.B.Board.state c.args.board.now).shape (chart (g.B.Board.state c.args.board.now)).fields (g.B.Board.state c.args.board.now).flash (c.requires.blank on).0 c.requires.sound (c.requires.erasing on) (c.requires.blank on).1
