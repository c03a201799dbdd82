use Rattle.envy_policy.proofs.Choosing.{first-in}
use Rattle.envy_policy.proofs.chooser.Chooser.first_in.Goals as goal

pub returns : goal.returns
returns c =
    first-in c.args.self.now c.args.rows.now c.args.partition _ _ c.first_with.result c.bounds-first.ensures.whole c.requires.rows c.bounds-first.ensures.first c.bounds-first.ensures.end c.first_with.ensures
