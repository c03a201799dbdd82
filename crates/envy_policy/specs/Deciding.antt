-- A choice that is made of answers to questions.
use Rattle.std.specs.Prelude.{◌≡◌, ◌⊎◌, ℕ, Option, None, Some, MatchOption}
use Rattle.envy_policy.specs.Choice.{IsLeast, distance}

-- of a partition below the own one and one above it, the nearer; the lower where both are as near
abbrev pub Nearer : ℕ → Option ℕ → Option ℕ → Option ℕ → Type 0
Nearer own below above found = MatchOption found
    ((below ≡ None) × (above ≡ None))
    (IsLeast (λ g. (below ≡ Some g) ⊎ (above ≡ Some g)) (distance own))
