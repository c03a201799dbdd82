use Rattle.envy_victims.proofs.ChoosingLemmas.{usable-found}
use Rattle.envy_victims.proofs.choice.is_usable.Goals as goal

pub returns-clause-usable : goal.returns-clause-usable
returns-clause-usable c =
    let b = c.bounds-first.ensures in
    rw c.is_some.ensures (usable-found c.args.chooser.now c.args.space.now c.args.partition _ _ c.lowest_usable.result b.whole c.requires.positions b.first b.end c.lowest_usable.ensures)
