use Rattle.envy_btree.proofs.Examples.{leaf-example, levels-example}
use Rattle.envy_btree.proofs.laws.hand_made_words_are_maps.Goals as goal

pub returns-clause-leaf : goal.returns-clause-leaf
returns-clause-leaf c = leaf-example

pub returns-clause-levels : goal.returns-clause-levels
returns-clause-levels c = levels-example
