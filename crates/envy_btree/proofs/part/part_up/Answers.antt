use Rattle.envy_btree.proofs.Rows.{onward-up}
use Rattle.envy_btree.proofs.part.part_up.Goals as goal

pub returns-clause-pairs : goal.returns-clause-pairs
returns-clause-pairs g c es x =
    onward-up _ es c.args.leaf.spot.piece c.args.leaf.count c.args.leaf.spot.low c.args.leaf.spot.top c.args.key c.in_ok-place.place c.checked_add.result x c.requires.above c.requires.below c.in_ok-place.ensures.within (c.in_ok-place.ensures.pairs _ _ x.pairs x.rising x.keys) c.checked_add.ensures
