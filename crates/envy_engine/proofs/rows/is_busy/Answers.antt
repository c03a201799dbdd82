use Rattle.std.proofs.Common.{sym}
use Rattle.std.proofs.lemmas.Bool.{false≢true}
use Rattle.envy_soundness.specs.Sound.{Sound, Jobs}
use Rattle.envy_reloc.proofs.Exits.{unpowered}
use Rattle.envy_engine.proofs.rows.is_busy.Goals as goal

pub job-requires : goal.job-requires
job-requires g c = record { decodes = Jobs.decodes (Sound.job c.requires.ready.sound) }

pub returns-in_err-job : goal.returns-in_err-job
returns-in_err-job g c = unpowered (g.B.Board.state c.args.board.now).on c.in_err-job.ensures.value c.requires.ready.on

pub returns-then-ne-clause-rest : goal.returns-then-ne-clause-rest
returns-then-ne-clause-rest g c is = absurd (false≢true (sym is))

pub returns-then-ne-clause-power : goal.returns-then-ne-clause-power
returns-then-ne-clause-power g c = c.in_ok-job.ensures.value.0

pub returns-clause-power : goal.returns-clause-power
returns-clause-power g c = c.in_ok-job.ensures.value.0
