use Rattle.std.proofs.Common.{arith}
use Rattle.envy_heap.proofs.laws.pieces_never_overlap.Goals as goal

pub returns-clause-apart : goal.returns-clause-apart
returns-clause-apart c p q i j li lj e = (omega arith, omega arith)

pub returns-clause-within : goal.returns-clause-within
returns-clause-within c words p i lp li = omega arith
