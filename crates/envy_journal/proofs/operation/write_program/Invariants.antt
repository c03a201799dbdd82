use Rattle.std.proofs.Common.{◌≡◌, ◌+◌, ◌*◌, ◌∷◌, ◌++◌, length, take, flat_map}
use Rattle.envy_journal.specs.Reading.{number_bytes, word_bytes}
use Rattle.envy_journal.proofs.operation.write_program.Given as goal

abbrev pub invariant-loop-i : goal.invariant-loop-i
invariant-loop-i l = record { long : length l.into ≡ length l.initial.into; written : take (l.at + (5 + 8 * l.i)) l.into ≡ take l.at l.fn.into ++ 2 ∷ number_bytes l.row ++ flat_map word_bytes (take l.i l.page) }
