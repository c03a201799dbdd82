use Rattle.envy_map.specs.Fields.{chart}
use Rattle.envy_soundness.proofs.JobLaw.{FitsJob-erase}
use Rattle.envy_soundness.proofs.job.begin_erase.Goals as goal

pub change_job-requires-clause-fits : goal.change_job-requires-clause-fits
change_job-requires-clause-fits g c = λ on. FitsJob-erase (g.B.Board.state c.args.board.now).shape (chart (g.B.Board.state c.args.board.now)).fields (g.B.Board.state c.args.board.now).flash c.requires.sound (c.requires.home on)
