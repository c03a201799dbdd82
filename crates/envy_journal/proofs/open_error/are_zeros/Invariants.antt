use Rattle.std.proofs.Common.{length, ◌-◌, ◌≡◌, take, replicate}
use Rattle.envy_journal.proofs.open_error.are_zeros.Given as goal

abbrev pub invariant-loop-at : goal.invariant-loop-at
invariant-loop-at l = take l.at l.bytes ≡ replicate l.at 0

abbrev pub decreases-loop-at : goal.decreases-loop-at
decreases-loop-at l = length l.bytes - l.at
