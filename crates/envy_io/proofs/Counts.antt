-- A count after one more, and after several steps.
use Rattle.std.proofs.Common.{◌≡◌, ℕ, ◌-◌, ◌^◌, ◌<◌, ◌≤◌, arith}
use Rattle.envy_io.specs.Streams.{up, Rises}

pub Rises-up : (n : ℕ) → Rises n (up n)
unfolding up
Rises-up n = record { kept = omega arith; more = λ below. omega arith }

-- from what a call says of the count, and what was counted before
pub Rises-by : (old now new : ℕ) → old ≡ now → new ≡ up now → Rises old new
Rises-by old now new same is = rw (is, same) (Rises-up now)

rises : (old mid new : ℕ) → old ≤ mid → mid ≤ new → (mid < 2 ^ 64 - 1 → mid < new) → old < 2 ^ 64 - 1 → old < new
rises old mid new kept more step below = grind arith

pub Rises-after : (old mid new : ℕ) → old ≤ mid → Rises mid new → Rises old new
Rises-after old mid new kept r = record { kept = omega (arith, r.kept); more = rises old mid new kept r.kept r.more }
