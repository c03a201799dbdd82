use Rattle.std.proofs.Common.{◌≡◌, ◌-◌, length, drop}
use Rattle.envy_journal.specs.Cutting.{has_batch}
use Rattle.envy_journal.proofs.cut_end.has_batch.Given as goal

abbrev pub invariant-loop-at : goal.invariant-loop-at
invariant-loop-at l = has_batch (drop l.at l.bytes) ≡ has_batch l.bytes

abbrev pub decreases-loop-at : goal.decreases-loop-at
decreases-loop-at l = length l.bytes - l.at
