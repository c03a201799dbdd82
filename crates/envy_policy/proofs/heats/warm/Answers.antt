use Rattle.std.proofs.Common.{arith}
use Rattle.envy_policy.proofs.Warming.{done-heats, done-halves, left-heats}
use Rattle.envy_policy.proofs.heats.warm.Goals as goal

pub returns-then-partition-halved-clause-heats : goal.returns-then-partition-halved-clause-heats
returns-then-partition-halved-clause-heats c = done-heats c.args.halved c.args.kept.now c.args.partition c.requires.partition c.if-partition-halved.true

pub returns-then-partition-halved-clause-halves : goal.returns-then-partition-halved-clause-halves
returns-then-partition-halved-clause-halves c =
    let is = done-halves c.args.halved c.args.kept.now c.args.partition c.requires.partition c.if-partition-halved.true in
    omega (arith, is)

pub returns-clause-heats : goal.returns-clause-heats
returns-clause-heats c = left-heats c.args.halved c.args.kept.now c.args.partition c.requires.partition (omega arith)
