use Rattle.envy_policy.proofs.Choosing.{next-in-turn}
use Rattle.envy_policy.proofs.chooser.Chooser.next_in_turn.Goals as goal

pub returns : goal.returns
returns c = rw c.or.ensures (next-in-turn c.args.self.now c.args.dead.now c.args.partition _ _ c.turn-after.result c.first_with.result c.first_with-2.result c.bounds-first.ensures.whole c.turn-after.ensures.counted c.requires.dead c.bounds-first.ensures.first c.bounds-first.ensures.end c.turn-after.ensures.value c.first_with.ensures c.first_with-2.ensures)
