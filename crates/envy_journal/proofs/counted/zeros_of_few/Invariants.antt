use Rattle.std.proofs.Common.{◌≡◌, ◌≤◌, take}
use Rattle.envy_journal.specs.Reading.{zeros}
use Rattle.envy_journal.proofs.counted.zeros_of_few.Given as goal

abbrev pub invariant-loop-byte : goal.invariant-loop-byte
invariant-loop-byte l = (l.count ≡ zeros (take l.byte-index l.bytes)) × (l.count ≤ l.byte-index)
