use Rattle.std.proofs.Common.{◌∙◌, ℕ, replicate, arith, ap}
use Rattle.std.specs.List.{range_with_len}
use Rattle.envy_space.specs.Pool.{Pool, empty_pool}
use Rattle.envy_space.specs.Winners.{flag}
use Rattle.envy_space.proofs.SpaceLemmas.{IsSpace-cleared, pool-cleared}
use Rattle.envy_space.proofs.space.Space.clear.Goals as goal

pub invariant_of-self : goal.invariant_of-self
invariant_of-self c =
    let n = c.self.inside.shape.segments in
    IsSpace-cleared _ _ _ _ _ _ _ c.self.invariant.shape
    (c.fill.ensures.items (λ y e. e) ∙ ap (λ (m : ℕ). replicate m 0) (omega arith))
    (c.fill-2.ensures.items (λ y e. e) ∙ ap (λ (m : ℕ). replicate m 0) (omega arith))
    (c.clear.ensures ∙ ap (range_with_len 0) c.self.invariant.order_long)
    (c.fill-3.ensures ∙ ap (λ (m : ℕ). replicate m 0) c.self.invariant.dead_long)
    (c.fill-4.ensures ∙ ap (λ (m : ℕ). replicate m (flag c.self.inside.shape.rows)) c.self.invariant.has_free_long)
    (c.fill-5.ensures ∙ ap (λ (m : ℕ). replicate m (flag 0)) c.self.invariant.has_dead_long)

pub returns : goal.returns
returns c =
    pool-cleared c.self.inside.shape _ _ _
    (c.fill.ensures.items (λ y e. e) ∙ ap (λ (m : ℕ). replicate m 0) (omega arith))
    (c.fill-2.ensures.items (λ y e. e) ∙ ap (λ (m : ℕ). replicate m 0) (omega arith))
    (c.clear.ensures ∙ ap (range_with_len 0) c.self.invariant.order_long)
    ∙ ap (λ (p : Pool). empty_pool p.shape) c.self.view_is
