use Rattle.envy_victims.proofs.PooledLemmas.{first-free}
use Rattle.envy_victims.proofs.pooled.PooledRows.first_free.Goals as goal

pub returns : goal.returns
returns c = first-free c.args.self.now.space.now c.args.start c.min.result c.positions-end.result c.lowest_free.result c.positions-end.ensures.positions c.min.ensures c.lowest_free.ensures
