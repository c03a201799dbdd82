use Rattle.envy_victims.proofs.PooledLemmas.{counted, some-row}
use Rattle.envy_victims.proofs.pooled.choose_by_lives.Goals as goal

pub choose_among-requires-clause-rows : goal.choose_among-requires-clause-rows
choose_among-requires-clause-rows c = counted c.args.space.now _ c.positions-positions.ensures.pool c.requires.positions

pub choose_among-requires-clause-some : goal.choose_among-requires-clause-some
choose_among-requires-clause-some c = some-row c.args.space.now c.requires.some
