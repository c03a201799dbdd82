use Rattle.envy_victims.proofs.PooledLemmas.{counted}
use Rattle.envy_victims.proofs.pooled.beside_job.Goals as goal

pub beside-requires-clause-rows : goal.beside-requires-clause-rows
beside-requires-clause-rows c = counted c.args.space.now _ c.positions-positions.ensures.pool c.requires.positions
