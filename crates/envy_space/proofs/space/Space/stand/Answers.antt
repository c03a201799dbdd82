use Rattle.std.proofs.Common.{arith, ap, subst}
use Rattle.envy_space.specs.Pool.{Pool, StandsAt}
use Rattle.envy_space.proofs.SpaceLemmas.{IsSpace-swap, StandsAt-swap, pool_of}
use Rattle.envy_space.proofs.space.Space.stand.Goals as goal

pub invariant_of-self : goal.invariant_of-self
invariant_of-self c =
    let segments = ap (λ (p : Pool). p.shape.segments) c.self.view_is in
    let long = c.self.invariant.order_long in
    IsSpace-swap _ _ _ _ _ _ _ _ _ _ _ c.args.position c.place_of-place.result (omega arith) (omega arith) c.self.invariant c.exchange.ensures.swapped c.exchange.ensures.order c.exchange-2.ensures c.exchange-3.ensures c.exchange-4.ensures

pub returns : goal.returns
returns c =
    let segments = ap (λ (p : Pool). p.shape.segments) c.self.view_is in
    let long = c.self.invariant.order_long in
    let sh = c.self.inside.shape in
    subst (λ (p : Pool). StandsAt c.args.position c.args.segment p (pool_of sh c.self.inside.fills.items c.self.inside.kept.items c.exchange.new.self)) c.self.view_is
    (StandsAt-swap sh c.self.inside.fills.items c.self.inside.kept.items c.self.inside.order c.self.inside.dead c.self.inside.has_free c.self.inside.has_dead c.exchange.new.self c.exchange-2.new.self c.exchange-3.new.self c.exchange-4.new.self c.args.position c.place_of-place.result c.args.segment (omega arith) (omega arith) c.place_of-place.ensures.stands c.self.invariant c.exchange.ensures.swapped c.exchange.ensures.order
    (IsSpace-swap _ _ _ _ _ _ _ _ _ _ _ c.args.position c.place_of-place.result (omega arith) (omega arith) c.self.invariant c.exchange.ensures.swapped c.exchange.ensures.order c.exchange-2.ensures c.exchange-3.ensures c.exchange-4.ensures))
