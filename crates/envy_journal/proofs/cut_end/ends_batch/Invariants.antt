use Rattle.std.proofs.Common.{◌≡◌, ◌-◌, length, drop}
use Rattle.envy_journal.specs.Cutting.{ends_batch}
use Rattle.envy_journal.proofs.cut_end.ends_batch.Given as goal

abbrev pub invariant-loop-at : goal.invariant-loop-at
invariant-loop-at l = ends_batch 0 (drop l.at l.bytes) ≡ ends_batch 0 l.bytes

abbrev pub decreases-loop-at : goal.decreases-loop-at
decreases-loop-at l = length l.bytes - l.at
