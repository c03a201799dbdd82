use Rattle.std.proofs.Common.{ap, arith, subst}
use Rattle.envy_space.specs.Pool.{Pool, free_at}
use Rattle.envy_space.specs.Winners.{Lowest}
use Rattle.envy_space.proofs.FlagLemmas.{Lowest-rows}
use Rattle.envy_space.proofs.SpaceLemmas.{pool_of, free-flags}
use Rattle.envy_space.proofs.space.Space.lowest_free.Goals as goal

pub returns : goal.returns
returns c =
    let s = c.self.inside in
    let segments = ap (λ (p : Pool). p.shape.segments) c.self.view_is in
    subst (λ (p : Pool). Lowest (free_at p) c.args.first c.args.end c.lowest.result) c.self.view_is
    (Lowest-rows s.has_free (free_at (pool_of s.shape s.fills.items s.kept.items s.order)) c.args.first c.args.end c.lowest.result
    (λ k lt. free-flags s.shape s.fills.items s.kept.items s.order s.dead s.has_free s.has_dead c.self.invariant k (omega arith))
    c.lowest.ensures)
