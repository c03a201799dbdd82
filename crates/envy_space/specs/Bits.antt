-- Flags of places as bits, 64 to a word.
use Rattle.std.specs.Prelude.{◌≡◌, ◌≢◌, ℕ, ◌-◌, ◌/◌, ◌%◌, ◌^◌, ◌<◌, ◌≤◌, List, length, map, slice_index}
use Rattle.std.specs.Int.{bit_at}
use Rattle.std.specs.List.{range_with_len}
use Rattle.envy_space.specs.Winners.{flag}

-- the words differ in bit i, and in no other
pub record IsTurned (old i new : ℕ) : Type 0 where
  pub here : bit_at new i ≡ 1 - bit_at old i
  pub others : (j : ℕ) → j ≢ i → bit_at new j ≡ bit_at old j

-- bit k of a list of words
abbrev pub bit_of : List ℕ → ℕ → ℕ
bit_of words k = bit_at (slice_index words (k / 64)) (k % 64)

abbrev pub bits_of : ℕ → List ℕ → List ℕ
bits_of n words = map (bit_of words) (range_with_len 0 n)

-- Words of which no bit but the first n is set. Bit b of top tells whether word b has a bit.
pub record AreBits (n top : ℕ) (words : List ℕ) : Type 0 where
  pub few : n ≤ 4096
  pub long : length words ≡ 64
  pub fit : (b : ℕ) → slice_index words b < 2 ^ 64
  pub none : (k : ℕ) → n ≤ k → bit_of words k ≡ 0
  pub tops : (b : ℕ) → b < 64 → bit_at top b ≡ flag (slice_index words b)
