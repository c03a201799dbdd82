use Rattle.std.proofs.Common.{◌≡◌, ◌-◌, false, length, drop}
use Rattle.envy_journal.specs.Cutting.{unread}
use Rattle.envy_journal.proofs.cut_end.unread_at.Given as goal

abbrev pub invariant-loop-at : goal.invariant-loop-at
invariant-loop-at l = unread l.within 0 (drop l.at l.bytes) ≡ unread false 33 l.bytes

abbrev pub decreases-loop-at : goal.decreases-loop-at
decreases-loop-at l = length l.bytes - l.at
