use Rattle.std.proofs.Common.{◌-◌, length}
use Rattle.envy_journal.proofs.Undone.{IsBehind}
use Rattle.envy_journal.proofs.replay.has_operations.Given as goal

abbrev pub invariant-loop-at : goal.invariant-loop-at
invariant-loop-at l = IsBehind l.bytes l.at l.within

abbrev pub decreases-loop-at : goal.decreases-loop-at
decreases-loop-at l = length l.bytes - l.at
