-- The bits of a row of words, and its sum.
use Rattle.std.specs.Prelude.{◌≡◌, ◌⊎◌, ℕ, ◌+◌, ◌*◌, ◌/◌, ◌%◌, ◌^◌, ◌<◌, ◌≤◌, List, length, slice_index}
use Rattle.std.specs.Int.{bit_at}
use Rattle.envy_sum.specs.Register.{sum_of_bits}

-- bit i of a row: bit i mod 64 of word i div 64, where bit 0 is the lowest
abbrev pub bit_of : List ℕ → ℕ → ℕ
bit_of row i = bit_at (slice_index row (i / 64)) (i % 64)

abbrev pub row_sum : List ℕ → ℕ
row_sum row = sum_of_bits (bit_of row) (64 * length row)

-- the rows have the same bits, except maybe among the n bits from bit k on
abbrev pub AgreeBut : ℕ → ℕ → List ℕ → List ℕ → Type 0
AgreeBut k n x y = (i : ℕ) → (i < k) ⊎ (k + n ≤ i) → bit_of x i ≡ bit_of y i

-- the bytes of a row: its words in order, the lowest byte of each first
pub record AreBytesOf (row bytes : List ℕ) : Type 0 where
  pub long : length bytes ≡ 8 * length row
  pub each : (j : ℕ) → j < length bytes → slice_index bytes j ≡ slice_index row (j / 8) / 2 ^ (8 * (j % 8)) % 256
