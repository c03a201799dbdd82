use Rattle.std.proofs.Common.{ap, arith, subst}
use Rattle.envy_space.specs.Pool.{Pool, dead_at}
use Rattle.envy_space.specs.Winners.{Highest}
use Rattle.envy_space.proofs.FlagLemmas.{Highest-rows}
use Rattle.envy_space.proofs.SpaceLemmas.{pool_of, dead-flags}
use Rattle.envy_space.proofs.space.Space.highest_dead.Goals as goal

pub returns : goal.returns
returns c =
    let s = c.self.inside in
    let segments = ap (λ (p : Pool). p.shape.segments) c.self.view_is in
    subst (λ (p : Pool). Highest (dead_at p) c.args.first c.args.end c.highest.result) c.self.view_is
    (Highest-rows s.has_dead (dead_at (pool_of s.shape s.fills.items s.kept.items s.order)) c.args.first c.args.end c.highest.result
    (λ k lt. dead-flags s.shape s.fills.items s.kept.items s.order s.dead s.has_free s.has_dead c.self.invariant k (omega arith))
    c.highest.ensures)
