use Rattle.std.proofs.Common.{inl}
use Rattle.envy_victims.specs.Choosing.{frees, deads}
use Rattle.envy_victims.proofs.ChoosingLemmas.{choice-free, nearest-own}
use Rattle.envy_victims.proofs.choice.choose_near.Goals as goal

pub returns-in-Some : goal.returns-in-Some
returns-in-Some c =
    let h = c.args.chooser.now in
    let pool = c.args.space.now in
    let least = c.in-Some.ensures in
    choice-free h (frees pool) (deads pool) c.args.home c.partition_of-own.result c.in-Some.position
    (nearest-own h pool c.args.home c.partition_of-own.result c.partition_of-own.ensures.value (c.in-Some.position, inl least.holds)) least

pub returns-in-None : goal.returns-in-None
returns-in-None c = c.free_or_clean.ensures c.args.home c.nearest.ensures.nearest

pub free_or_clean-requires-clause-usable : goal.free_or_clean-requires-clause-usable
free_or_clean-requires-clause-usable c = let nearest = c.nearest.ensures.nearest in nearest.holds
