use Rattle.std.proofs.Common.{sym, subst}
use Rattle.envy_space.specs.Pool.{Pool, PoolAgrees}
use Rattle.envy_space.proofs.EmptyLemmas.{PoolAgrees-new}
use Rattle.envy_space.proofs.SpaceLemmas.{IsSpace-cleared, pool-cleared}
use Rattle.envy_space.proofs.space.Space.new.Goals as goal

pub invariant_of-result : goal.invariant_of-result
invariant_of-result c =
    IsSpace-cleared _ _ _ _ _ _ _ c.requires (c.in_ok-fills.ensures.items_if_clones_equal (λ y e. e)) (c.in_ok-kept.ensures.items_if_clones_equal (λ y e. e)) c.in_ok-order.ensures c.in_ok-dead.ensures c.in_ok-has_free.ensures c.in_ok-has_dead.ensures

pub returns-clause-empty : goal.returns-clause-empty
returns-clause-empty c = pool-cleared c.args.shape.now _ _ _ (c.in_ok-fills.ensures.items_if_clones_equal (λ y e. e)) (c.in_ok-kept.ensures.items_if_clones_equal (λ y e. e)) c.in_ok-order.ensures

pub returns-clause-agrees : goal.returns-clause-agrees
returns-clause-agrees c = λ version x shape empty plain.
    subst (λ (p : Pool). PoolAgrees x.shape x.fields p)
    (sym (pool-cleared c.args.shape.now _ _ _ (c.in_ok-fills.ensures.items_if_clones_equal (λ y e. e)) (c.in_ok-kept.ensures.items_if_clones_equal (λ y e. e)) c.in_ok-order.ensures))
    (PoolAgrees-new c.args.shape.now version x shape empty plain)
