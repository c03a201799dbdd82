use Rattle.envy_btree.proofs.Broken.{leaf-of-14, key-too-small, key-too-large, falling, miscounted, twice, deeper, idle, free-root, full-by-one, leaf-of-32, one-child, keys-crossed, inner-of-15}
use Rattle.envy_btree.proofs.laws.broken_words_are_no_map.Goals as goal

pub returns-clause-leaf : goal.returns-clause-leaf
returns-clause-leaf c es = (λ i. leaf-of-14 es i, λ i. leaf-of-32 es i)

pub returns-clause-key : goal.returns-clause-key
returns-clause-key c es = (λ i. key-too-small es i, λ i. key-too-large es i)

pub returns-clause-falling : goal.returns-clause-falling
returns-clause-falling c es i = falling es i

pub returns-clause-miscounted : goal.returns-clause-miscounted
returns-clause-miscounted c es i = miscounted es i

pub returns-clause-twice : goal.returns-clause-twice
returns-clause-twice c es i = twice es i

pub returns-clause-idle : goal.returns-clause-idle
returns-clause-idle c es i = idle es i

pub returns-clause-free : goal.returns-clause-free
returns-clause-free c es i = free-root es i

pub returns-clause-deeper : goal.returns-clause-deeper
returns-clause-deeper c es i = deeper es i

pub returns-clause-too_many : goal.returns-clause-too_many
returns-clause-too_many c es i = full-by-one es i

pub returns-clause-one_child : goal.returns-clause-one_child
returns-clause-one_child c es i = one-child es i

pub returns-clause-falling_above : goal.returns-clause-falling_above
returns-clause-falling_above c es i = keys-crossed es i

pub returns-clause-inner_of_15 : goal.returns-clause-inner_of_15
returns-clause-inner_of_15 c es i = inner-of-15 es i
