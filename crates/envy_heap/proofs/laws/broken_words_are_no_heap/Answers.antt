use Rattle.envy_heap.proofs.Broken.{too-many, too-short, circle, never-out}
use Rattle.envy_heap.proofs.laws.broken_words_are_no_heap.Goals as goal

pub returns-clause-many : goal.returns-clause-many
returns-clause-many c free h = too-many free h

pub returns-clause-short : goal.returns-clause-short
returns-clause-short c free h = too-short free h

pub returns-clause-circle : goal.returns-clause-circle
returns-clause-circle c free h = circle free h

pub returns-clause-never_out : goal.returns-clause-never_out
returns-clause-never_out c free h = never-out free h
