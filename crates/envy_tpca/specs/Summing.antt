-- Adding up words of a memory by loads.
use Rattle.std.specs.Prelude.{ℕ, zero, suc, ◌+◌, ◌*◌, List, slice_index, ℤ, pos, ◌+ℤ◌, FitsSigned}
use Rattle.std.proofs.Common.{w64}
use Rattle.std.specs.Int.{cast_signed}

-- f 0 + f 1 + .. below n
abbrev pub sum_below : ℕ → (ℕ → ℤ) → ℤ
sum_below zero f = pos 0
sum_below (suc n) f = sum_below n f +ℤ f n

-- the signed number that a word is
abbrev pub signed_at : List ℕ → ℕ → ℤ
signed_at words a = cast_signed w64 (slice_index words a)

-- the sum of n balances from an address on
abbrev pub balances_in : List ℕ → ℕ → ℕ → ℤ
balances_in words from n = sum_below n (λ k. signed_at words (from + k))

-- the sum of the deltas of n rows of history from an address on
abbrev pub history_in : List ℕ → ℕ → ℕ → ℤ
history_in words from n = sum_below n (λ k. signed_at words (from + 4 * k + 3))

abbrev pub Small : ℤ → Type 0
Small x = FitsSigned w64 x
