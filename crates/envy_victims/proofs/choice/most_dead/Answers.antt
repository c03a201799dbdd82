use Rattle.envy_victims.proofs.ChoosingLemmas.{most-dead}
use Rattle.envy_victims.proofs.choice.most_dead.Goals as goal

pub returns : goal.returns
returns c =
    let b = c.bounds-first.ensures in
    most-dead c.args.chooser.now c.args.space.now c.args.partition _ _ c.most_dead.result b.whole c.requires.positions b.first b.end b.some c.most_dead.ensures
