use Rattle.envy_btree.proofs.Ruling.{index-obeys}
use Rattle.envy_btree.proofs.laws.maps_obey_the_rules.Goals as goal

pub returns : goal.returns
returns c words free root es i heap named = index-obeys words free root es i heap named
