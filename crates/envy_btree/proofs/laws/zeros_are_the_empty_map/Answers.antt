use Rattle.envy_btree.proofs.Readiness.{zeros-index}
use Rattle.envy_btree.proofs.laws.zeros_are_the_empty_map.Goals as goal

pub returns : goal.returns
returns c size le = zeros-index size le
