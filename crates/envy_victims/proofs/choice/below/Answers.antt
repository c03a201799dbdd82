use Rattle.std.proofs.Common.{arith}
use Rattle.envy_victims.proofs.ChoosingLemmas.{below-none, below-some}
use Rattle.envy_victims.proofs.choice.below.Goals as goal

pub returns-in-Some : goal.returns-in-Some
returns-in-Some c =
    let b = c.bounds-first.ensures in
    below-some c.args.chooser.now c.args.space.now c.args.own c.bounds-first.result.0 c.in-Some.position c.partition_of.result b.whole c.requires.positions b.first (omega arith)
    c.in-Some.ensures c.partition_of.ensures.value

pub returns-in-None : goal.returns-in-None
returns-in-None c =
    let b = c.bounds-first.ensures in
    below-none c.args.chooser.now c.args.space.now c.args.own c.bounds-first.result.0 b.whole b.first c.in-None.ensures
