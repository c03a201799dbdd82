-- Counts of 64 bits, which stop at the top.
use Rattle.std.specs.Prelude.{◌≡◌, ℕ, ◌+◌, ◌-◌, ◌^◌, ◌<◌, ◌≤◌, min, max}

-- a count after one more
unfoldable pub up : ℕ → ℕ
up n = max n (min (n + 1) (2 ^ 64 - 1))

-- from a and b to c and d: one rose by as much as the other did, where neither has stopped
pub record Tally (a b c d : ℕ) : Type 0 where
  pub first : a ≤ c
  pub second : b ≤ d
  pub same : c < 2 ^ 64 - 1 → d < 2 ^ 64 - 1 → c + b ≡ a + d

-- a count that stops at the top rose
abbrev pub Rose : ℕ → ℕ → Type 0
Rose a b = a < 2 ^ 64 - 1 → a < b
