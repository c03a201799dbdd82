-- By how much a count rose. Counts stop at 2^64 - 1.
use Rattle.std.specs.Prelude.{◌≡◌, ℕ, ◌+◌, ◌-◌, ◌^◌, ◌<◌, ◌≤◌}

-- a count rose by n exactly, where that is no more than it can be
abbrev pub RoseBy : ℕ → ℕ → ℕ → Type 0
RoseBy n old new = old + n < 2 ^ 64 → new ≡ old + n

-- a count rose by n at least, or stands at the top
pub record RoseOver (n old new : ℕ) : Type 0 where
  pub kept : old ≤ new
  pub rise : new < 2 ^ 64 - 1 → old + n ≤ new
