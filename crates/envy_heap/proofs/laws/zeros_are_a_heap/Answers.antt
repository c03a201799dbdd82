use Rattle.envy_heap.proofs.Heaps.{IsHeap-zeros, handed-zeros}
use Rattle.envy_heap.proofs.laws.zeros_are_a_heap.Goals as goal

pub returns-clause-heap : goal.returns-clause-heap
returns-clause-heap c size le = IsHeap-zeros size le

pub returns-clause-none : goal.returns-clause-none
returns-clause-none c size p = handed-zeros size p
