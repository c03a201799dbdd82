use Rattle.std.proofs.Common.{◌-◌, ◌∙◌, sym, arith}
use Rattle.envy_policy.proofs.Choosing.{next-in-turn}
use Rattle.envy_space.specs.Pool.{dead_at}
use Rattle.envy_victims.specs.Choosing.{deads}
use Rattle.envy_victims.proofs.ChoosingLemmas.{first-with, deads-long, turn-inside}
use Rattle.envy_victims.proofs.choice.next_in_turn.Goals as goal
use Rattle.envy_base.specs.Shape.{positions_of}

pub returns : goal.returns
returns c =
    let pool = c.args.space.now in
    let b = c.bounds-first.ensures in
    rw c.or.ensures (next-in-turn c.args.chooser.now (deads pool) c.args.partition _ _ c.turn-after.result c.lowest_dead.result c.lowest_dead-2.result b.whole c.turn-after.ensures.counted (deads-long pool ∙ sym c.requires.positions) b.first b.end c.turn-after.ensures.value
    (first-with (dead_at pool) (positions_of pool.shape) _ _ c.lowest_dead.result (omega arith) c.lowest_dead.ensures)
    (first-with (dead_at pool) (positions_of pool.shape) _ _ c.lowest_dead-2.result (omega arith) c.lowest_dead-2.ensures))

pub lowest_dead-requires-clause-order : goal.lowest_dead-requires-clause-order
lowest_dead-requires-clause-order c =
    let b = c.bounds-first.ensures in
    let inside = turn-inside c.args.chooser.now c.args.partition c.turn-after.result b.whole c.turn-after.ensures.counted c.turn-after.ensures.value in
    omega (arith, inside.1, b.end)

pub lowest_dead-requires-2-clause-order : goal.lowest_dead-requires-2-clause-order
lowest_dead-requires-2-clause-order c =
    let b = c.bounds-first.ensures in
    let inside = turn-inside c.args.chooser.now c.args.partition c.turn-after.result b.whole c.turn-after.ensures.counted c.turn-after.ensures.value in
    omega (arith, inside.0, b.first)

pub lowest_dead-requires-2-clause-end : goal.lowest_dead-requires-2-clause-end
lowest_dead-requires-2-clause-end c =
    let b = c.bounds-first.ensures in
    let inside = turn-inside c.args.chooser.now c.args.partition c.turn-after.result b.whole c.turn-after.ensures.counted c.turn-after.ensures.value in
    omega (arith, inside.1, b.end, b.within, c.requires.positions)
