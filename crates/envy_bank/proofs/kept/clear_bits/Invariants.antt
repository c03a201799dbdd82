use Rattle.std.proofs.Common.{◌≡◌, ◌<◌, ◌≤◌, ◌↔◌, ℕ, IsTrue, length, get_or}
use Rattle.std.specs.Prelude.{bit_and}
use Rattle.envy_bank.proofs.kept.clear_bits.Given as goal

abbrev pub invariant-loop-i : goal.invariant-loop-i
invariant-loop-i l =
    (length l.row ≡ 32)
    × ((k : ℕ) → k < l.i → get_or l.row k 0 ≡ bit_and (get_or l.initial.row k 0) (get_or l.page k 0))
    × ((k : ℕ) → l.i ≤ k → get_or l.row k 0 ≡ get_or l.initial.row k 0)
    × (IsTrue l.held ↔ ((k : ℕ) → k < l.i → get_or l.row k 0 ≡ get_or l.page k 0))
