use Rattle.std.proofs.Common.{◌≡◌, ◌-◌, ◌≤◌, drop, length}
use Rattle.envy_journal.specs.Reading.{whole}
use Rattle.envy_journal.proofs.counted.is_whole.Given as goal

abbrev pub invariant-loop-at : goal.invariant-loop-at
invariant-loop-at l = (whole 0 0 l.bytes ≡ whole l.count 0 (drop l.at l.bytes)) × (l.count ≤ l.at) × (l.at ≤ length l.bytes)

abbrev pub decreases-loop-at : goal.decreases-loop-at
decreases-loop-at l = length l.bytes - l.at
