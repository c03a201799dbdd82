use Rattle.envy_map.specs.Fields.{chart}
use Rattle.envy_soundness.proofs.JobLaw.{FitsJob-switch}
use Rattle.envy_soundness.proofs.job.begin_switch.Goals as goal

pub change_job-requires-clause-fits : goal.change_job-requires-clause-fits
change_job-requires-clause-fits g c = λ on. FitsJob-switch (g.B.Board.state c.args.board.now).shape (chart (g.B.Board.state c.args.board.now)).fields (g.B.Board.state c.args.board.now).flash c.args.segment c.requires.sound (c.requires.copying on) (c.requires.copied on)
