use Rattle.std.proofs.Common.{get_or}
use Rattle.envy_heap.proofs.Heaps.{Chain-one}
use Rattle.envy_heap.proofs.laws.free_pieces_are_known.Goals as goal

pub returns : goal.returns
returns c words free others h k = Chain-one words (get_or words 1 0) free others h.chain k.chain
