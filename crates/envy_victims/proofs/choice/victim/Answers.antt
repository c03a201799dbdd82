use Rattle.std.proofs.Common.{slice_index}
use Rattle.envy_policy.specs.Choice.{HasRows, IsLeast, IsMost, steps}
use Rattle.envy_victims.specs.Choosing.{deads}
use Rattle.envy_victims.proofs.ChoosingLemmas.{found-some}
use Rattle.envy_victims.proofs.choice.victim.Goals as goal

pub unwrap-requires : goal.unwrap-requires
unwrap-requires c =
    let h = c.args.chooser.now in
    let dead = deads c.args.space.now in
    found-some (HasRows h dead c.args.partition) (IsMost (HasRows h dead c.args.partition) (slice_index dead)) c.most_dead.result c.most_dead.ensures c.requires.some

pub unwrap-requires-in-InTurn : goal.unwrap-requires-in-InTurn
unwrap-requires-in-InTurn c =
    let h = c.args.chooser.now in
    let dead = deads c.args.space.now in
    found-some (HasRows h dead c.args.partition) (IsLeast (HasRows h dead c.args.partition) (steps h c.args.partition)) c.next_in_turn.result c.next_in_turn.ensures c.requires.some
