use Rattle.std.proofs.Common.{◌-◌, ◌∙◌, sym, ap, arith}
use Rattle.envy_space.specs.Pool.{dead_at, dead_rows}
use Rattle.envy_victims.proofs.PooledLemmas.{at, below-long}
use Rattle.envy_victims.proofs.pooled.PooledRows.dead.Goals as goal
use Rattle.envy_base.specs.Shape.{positions_of}

pub segment_at-requires : goal.segment_at-requires
segment_at-requires c = let pool = c.args.self.now.space.now in let low = below-long (dead_at pool) (positions_of pool.shape) c.args.position c.requires in omega (arith, low)

pub returns : goal.returns
returns c =
    let pool = c.args.self.now.space.now in
    c.dead.ensures ∙ ap (dead_rows pool) c.segment_at.ensures.segment ∙ sym (at (dead_at pool) (positions_of pool.shape) c.args.position c.requires)
