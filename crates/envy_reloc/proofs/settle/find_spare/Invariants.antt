use Rattle.std.proofs.Common.{ℕ, ◌<◌, false}
use Rattle.std.specs.Prelude.{IsTrue, slice_index_or}
use Rattle.envy_reloc.proofs.settle.find_spare.Given as goal

abbrev pub invariant-loop-segment : goal.invariant-loop-segment
invariant-loop-segment g l = (s : ℕ) → s < l.segment → IsTrue (slice_index_or l.placed s false)
