use Rattle.std.proofs.Common.{◌≡◌, ◌+◌, ◌*◌, ◌/◌, length, take, drop}
use Rattle.envy_journal.specs.Reading.{zeros}
use Rattle.envy_journal.proofs.counted.zeros.Given as goal

abbrev pub invariant-loop-piece : goal.invariant-loop-piece
invariant-loop-piece l = l.count ≡ zeros (drop (length l.bytes / 128 * 128) l.bytes) + zeros (take (l.piece-index * 128) l.bytes)
