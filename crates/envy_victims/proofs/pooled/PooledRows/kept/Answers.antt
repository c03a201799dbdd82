use Rattle.std.proofs.Common.{◌-◌, ◌∙◌, ℕ, slice_index, sym, ap, arith}
use Rattle.envy_victims.proofs.PooledLemmas.{at, below-long, kept_at}
use Rattle.envy_victims.proofs.pooled.PooledRows.kept.Goals as goal
use Rattle.envy_base.specs.Shape.{positions_of}

pub segment_at-requires : goal.segment_at-requires
segment_at-requires c = let pool = c.args.self.now.space.now in let low = below-long (kept_at pool) (positions_of pool.shape) c.args.position c.requires in omega (arith, low)

pub returns : goal.returns
returns c =
    let pool = c.args.self.now.space.now in
    c.kept.ensures.kept ∙ ap (λ (s : ℕ). slice_index pool.kept s) c.segment_at.ensures.segment ∙ sym (at (kept_at pool) (positions_of pool.shape) c.args.position c.requires)
