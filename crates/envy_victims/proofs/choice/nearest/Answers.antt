use Rattle.std.proofs.Common.{ℕ, Option, subst}
use Rattle.envy_policy.specs.Choice.{IsNearest}
use Rattle.envy_policy.specs.Deciding.{Nearer}
use Rattle.envy_victims.specs.Choosing.{deads, frees}
use Rattle.envy_victims.proofs.ChoosingLemmas.{above-over, below-under, in-count, nearest-own, nearest-beside, nearer-some}
use Rattle.envy_victims.proofs.choice.nearest.Goals as goal

pub returns-then-is_usable-clause-nearest : goal.returns-then-is_usable-clause-nearest
returns-then-is_usable-clause-nearest c = nearest-own c.args.chooser.now c.args.space.now c.args.home c.partition_of-own.result c.partition_of-own.ensures.value (c.is_usable.ensures.usable.0 c.if-is_usable.true)

pub nearer-requires-clause-below : goal.nearer-requires-clause-below
nearer-requires-clause-below c = below-under c.args.chooser.now c.args.space.now c.partition_of-own.result c.below.result c.below.ensures

pub nearer-requires-clause-above : goal.nearer-requires-clause-above
nearer-requires-clause-above c = above-over c.args.chooser.now c.args.space.now c.partition_of-own.result c.above.result c.above.ensures

pub unwrap-requires : goal.unwrap-requires
unwrap-requires c =
    nearer-some c.args.chooser.now c.args.space.now c.partition_of-own.result c.below.result c.above.result c.nearer.result
    (λ usable. let called = c.is_usable.ensures.usable.1 usable in cc) c.below.ensures c.above.ensures c.nearer.ensures c.requires.some

pub returns-clause-nearest : goal.returns-clause-nearest
returns-clause-nearest c =
    nearest-beside c.args.chooser.now c.args.space.now c.args.home c.partition_of-own.result c.unwrap.result c.below.result c.above.result c.partition_of-own.ensures.value
    (λ usable. let called = c.is_usable.ensures.usable.1 usable in cc) c.below.ensures c.above.ensures
    (subst (λ (o : Option ℕ). Nearer c.partition_of-own.result c.below.result c.above.result o) c.unwrap.ensures c.nearer.ensures)

pub returns-clause-counted : goal.returns-clause-counted
returns-clause-counted c =
    let nearest : IsNearest c.args.chooser.now (frees c.args.space.now) (deads c.args.space.now) c.args.home c.unwrap.result =
    nearest-beside c.args.chooser.now c.args.space.now c.args.home c.partition_of-own.result c.unwrap.result c.below.result c.above.result c.partition_of-own.ensures.value
    (λ usable. let called = c.is_usable.ensures.usable.1 usable in cc) c.below.ensures c.above.ensures
    (subst (λ (o : Option ℕ). Nearer c.partition_of-own.result c.below.result c.above.result o) c.unwrap.ensures c.nearer.ensures) in
    in-count c.args.chooser.now c.args.space.now c.unwrap.result c.is_usable.ensures.whole c.requires.positions nearest.holds
