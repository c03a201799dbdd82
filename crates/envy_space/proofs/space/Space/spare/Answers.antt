use Rattle.std.proofs.Common.{ℕ, ap, get_or, ◌∙◌, ◌≡◌, ◌<◌, ◌≤◌, ◌-◌, subst, arith}
use Rattle.envy_base.specs.Shape.{IsShape}
use Rattle.envy_soundness.specs.Sound.{IsSpare}
use Rattle.envy_space.specs.Pool.{Pool, IsPool}
use Rattle.envy_space.proofs.SpaceLemmas.{IsPool-space, spare-last}
use Rattle.envy_space.proofs.space.Space.spare.Goals as goal

last : (n long : ℕ) → long ≡ n → 4 ≤ n → n - 1 < long
last n long is four = omega arith

pub segment_at-requires : goal.segment_at-requires
segment_at-requires c = rw c.all_positions_of.ensures (last c.self.inside.shape.segments _ c.self.invariant.order_long (IsShape.segments c.self.invariant.shape))

pub returns-clause-spare : goal.returns-clause-spare
returns-clause-spare c =
    let s = c.self.inside in
    subst (λ (p : Pool). IsSpare p.shape p.positions c.segment_at.result) c.self.view_is
    (spare-last s.shape s.fills.items s.kept.items s.order s.dead s.has_free s.has_dead c.segment_at.result c.self.invariant (c.segment_at.ensures.segment ∙ ap (λ (n : ℕ). get_or s.order n 0) c.all_positions_of.ensures))

pub returns-clause-pool : goal.returns-clause-pool
returns-clause-pool c =
    let s = c.self.inside in
    subst IsPool c.self.view_is (IsPool-space s.shape s.fills.items s.kept.items s.order s.dead s.has_free s.has_dead c.self.invariant)
