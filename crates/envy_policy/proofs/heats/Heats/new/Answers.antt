use Rattle.envy_policy.proofs.Warming.{cold-view, kept-start}
use Rattle.envy_policy.proofs.heats.Heats.new.Goals as goal

pub invariant_of-result : goal.invariant_of-result
invariant_of-result c = kept-start c.in_ok-vec.field-0.items c.args.count (c.in_ok-vec.ensures.items_if_clones_equal (λ y e. e)) c.requires

pub returns : goal.returns
returns c = cold-view c.in_ok-vec.field-0.items c.args.count (c.in_ok-vec.ensures.items_if_clones_equal (λ y e. e))
