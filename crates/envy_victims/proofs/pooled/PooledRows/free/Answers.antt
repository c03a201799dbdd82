use Rattle.std.proofs.Common.{◌-◌, ◌∙◌, sym, ap, arith}
use Rattle.envy_space.specs.Pool.{free_at, free_rows}
use Rattle.envy_victims.proofs.PooledLemmas.{at, below-long}
use Rattle.envy_victims.proofs.pooled.PooledRows.free.Goals as goal
use Rattle.envy_base.specs.Shape.{positions_of}

pub segment_at-requires : goal.segment_at-requires
segment_at-requires c = let pool = c.args.self.now.space.now in let low = below-long (free_at pool) (positions_of pool.shape) c.args.position c.requires in omega (arith, low)

pub returns : goal.returns
returns c =
    let pool = c.args.self.now.space.now in
    c.free.ensures ∙ ap (free_rows pool) c.segment_at.ensures.segment ∙ sym (at (free_at pool) (positions_of pool.shape) c.args.position c.requires)
