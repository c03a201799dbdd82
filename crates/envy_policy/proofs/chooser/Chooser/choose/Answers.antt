use Rattle.std.proofs.Common.{◌<◌, slice_index}
use Rattle.envy_policy.proofs.Choosing.{rows-below}
use Rattle.envy_policy.specs.Setup.{victims_of}
use Rattle.envy_policy.proofs.Within.{victim-dead, aside-below, dead-left, chosen-free, chosen-clean}
use Rattle.envy_policy.proofs.chooser.Chooser.choose.Goals as goal

pub returns-in-None-clause-within : goal.returns-in-None-clause-within
returns-in-None-clause-within c =
    let h = c.args.self.now in
    let dead = c.args.dead.now in
    let some : 0 < slice_index dead c.victim.result = victim-dead (victims_of h.policy) h dead c.nearest-partition.result c.victim.result c.victim.ensures in
    (rows-below dead h.positions c.victim.result c.requires.dead some, some, aside-below h c.nearest-partition.result c.aside.result c.aside.ensures)

pub victim-requires-clause-some : goal.victim-requires-clause-some
victim-requires-clause-some c = dead-left c.args.self.now c.args.free.now c.args.dead.now c.nearest-partition.result c.nearest-partition.ensures.nearest.holds c.in-None.ensures

pub returns-in-Some-clause-choice : goal.returns-in-Some-clause-choice
returns-in-Some-clause-choice c = chosen-free c.args.self.now c.args.free.now c.args.dead.now c.args.home c.nearest-partition.result c.in-Some.position c.nearest-partition.ensures.nearest c.in-Some.ensures

pub returns-in-Some-clause-within : goal.returns-in-Some-clause-within
returns-in-Some-clause-within c =
    let some = c.in-Some.ensures.holds.1 in
    (rows-below c.args.free.now c.args.self.now.positions c.in-Some.position c.requires.free some, some)

pub returns-in-None-clause-choice : goal.returns-in-None-clause-choice
returns-in-None-clause-choice c = chosen-clean c.args.self.now c.args.free.now c.args.dead.now c.args.home c.nearest-partition.result c.victim.result c.aside.result c.nearest-partition.ensures.nearest c.in-None.ensures c.victim.ensures c.aside.ensures
