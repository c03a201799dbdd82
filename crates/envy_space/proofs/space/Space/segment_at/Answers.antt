use Rattle.std.proofs.Common.{ℕ, ◌≡◌, ◌∙◌, ◌<◌, ◌-◌, get_or, sym, subst, arith}
use Rattle.std.proofs.lemmas.List.{get_or-take}
use Rattle.envy_space.specs.Pool.{Pool, IsPool}
use Rattle.envy_space.proofs.SpaceLemmas.{IsPool-space}
use Rattle.envy_space.proofs.space.Space.segment_at.Goals as goal
use Rattle.envy_base.specs.Shape.{all_positions_of}

before-last : (k n long : ℕ) → long ≡ n → k < n - 1 → k < long
before-last k n long is lt = omega arith

pub segment_at-requires : goal.segment_at-requires
segment_at-requires c =
    let s = c.self.inside in
    before-last c.args.position s.shape.segments _ c.self.invariant.order_long
    (subst (λ (p : Pool). c.args.position < all_positions_of p.shape) (sym c.self.view_is) c.requires)

pub returns-clause-segment : goal.returns-clause-segment
returns-clause-segment c =
    let s = c.self.inside in
    let low = subst (λ (p : Pool). c.args.position < all_positions_of p.shape) (sym c.self.view_is) c.requires in
    subst (λ (p : Pool). c.segment_at.result ≡ get_or p.positions c.args.position 0) c.self.view_is
    (c.segment_at.ensures.segment ∙ sym (get_or-take (all_positions_of s.shape) s.order c.args.position 0 low))

pub returns-clause-pool : goal.returns-clause-pool
returns-clause-pool c =
    let s = c.self.inside in
    subst IsPool c.self.view_is (IsPool-space s.shape s.fills.items s.kept.items s.order s.dead s.has_free s.has_dead c.self.invariant)
