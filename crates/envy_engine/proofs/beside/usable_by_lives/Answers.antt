use Rattle.std.proofs.Common.{ap}
use Rattle.envy_base.specs.declared.shape.Shape.{Shape}
use Rattle.envy_map.specs.Fields.{chart}
use Rattle.envy_engine.proofs.AvailLemmas.{beside-free, beside-room, beside-within}
use Rattle.envy_engine.proofs.beside.usable_by_lives.Goals as goal

pub returns-clause-within : goal.returns-clause-within
returns-clause-within g c = beside-within _ _ c.beside_job.result c.requires.ready.fits.pool c.beside_job.ensures.below

pub returns-clause-room : goal.returns-clause-room
returns-clause-room g c = beside-room c.args.parts.now.space _ c.in_ok-emptied.emptied c.beside_job.result (ap (λ (sh : Shape). sh.rows) c.requires.ready.fits.pool) c.beside_job.ensures.below c.beside_job.ensures.room

pub returns-clause-free : goal.returns-clause-free
returns-clause-free g c = beside-free (chart (g.B.Board.state c.args.board.now)) c.args.parts.now.space c.in_ok-emptied.emptied c.beside_job.result c.requires.ready.agrees.pool c.in_ok-emptied.ensures.others c.beside_job.ensures.below c.beside_job.ensures.room

pub returns-clause-goes : goal.returns-clause-goes
returns-clause-goes g c = (c.in_ok-emptied.emptied, c.in_ok-emptied.ensures.emptied, c.beside_job.ensures.position)
