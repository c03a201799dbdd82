use Rattle.envy_policy.proofs.Choosing.{most-in}
use Rattle.envy_policy.proofs.chooser.Chooser.most_dead.Goals as goal

pub returns : goal.returns
returns c =
    most-in c.args.self.now c.args.dead.now c.args.partition c.most.result _ _ c.bounds-first.ensures.whole c.requires.dead c.bounds-first.ensures.first c.bounds-first.ensures.end c.requires.some c.most.ensures
