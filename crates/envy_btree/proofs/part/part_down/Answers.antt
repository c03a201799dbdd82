use Rattle.envy_btree.proofs.Rows.{onward-down}
use Rattle.envy_btree.proofs.part.part_down.Goals as goal

pub returns-clause-pairs : goal.returns-clause-pairs
returns-clause-pairs g c es x =
    onward-down _ es c.args.leaf.spot.piece c.args.leaf.count c.args.leaf.spot.low c.args.leaf.spot.top c.args.key c.in_ok-place.place.index c.in_ok-place.place.low c.in_ok-place.place.top c.checked_sub.result x c.requires.above c.requires.below c.in_ok-place.ensures.place c.checked_sub.ensures
