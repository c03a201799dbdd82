use Rattle.envy_space.proofs.OrderLemmas.{IsOrder-places, ArePlaces-exchange}
use Rattle.envy_space.proofs.order.Order.exchange.Goals as goal

pub invariant_of-self : goal.invariant_of-self
invariant_of-self c = ArePlaces-exchange _ _ c.args.i c.args.j _ _ (rw c.self.view_is c.requires.i) (rw c.self.view_is c.requires.j) (rw c.self.view_is c.segment_at-first.ensures.segment) (rw c.self.view_is c.segment_at-second.ensures.segment) c.self.invariant

pub returns-clause-order : goal.returns-clause-order
returns-clause-order c = IsOrder-places _ _ (ArePlaces-exchange _ _ c.args.i c.args.j _ _ (rw c.self.view_is c.requires.i) (rw c.self.view_is c.requires.j) (rw c.self.view_is c.segment_at-first.ensures.segment) (rw c.self.view_is c.segment_at-second.ensures.segment) c.self.invariant)
