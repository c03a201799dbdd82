use Rattle.envy_victims.proofs.ChoosingLemmas.{above-none, above-some}
use Rattle.envy_victims.proofs.choice.above.Goals as goal

pub returns-in-Some : goal.returns-in-Some
returns-in-Some c =
    let b = c.bounds-end.ensures in
    above-some c.args.chooser.now c.args.space.now c.args.own c.bounds-end.result.1 c.in-Some.position c.partition_of.result b.whole c.requires.positions b.end
    (rw c.positions.ensures.positions at c.in-Some.ensures) c.partition_of.ensures.value

pub returns-in-None : goal.returns-in-None
returns-in-None c =
    let b = c.bounds-end.ensures in
    above-none c.args.chooser.now c.args.space.now c.args.own c.bounds-end.result.1 b.whole b.end (rw c.positions.ensures.positions at c.in-None.ensures)
