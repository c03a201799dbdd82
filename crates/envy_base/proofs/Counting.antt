-- Counts that stop at the top.
use Rattle.std.proofs.Common.{◌≡◌, ℕ, ◌+◌, ◌-◌, ◌^◌, ◌<◌, ◌≤◌, refl, arith}
use Rattle.envy_base.specs.Counting.{up, Tally}

pub up-least : (n : ℕ) → n ≤ up n
unfolding up
up-least n = omega arith

pub up-most : (n : ℕ) → up n ≤ n + 1
unfolding up
up-most n = omega arith

pub up-below : (n : ℕ) → up n < 2 ^ 64 - 1 → up n ≡ n + 1
unfolding up
up-below n lt = omega arith

pub up-rises : (n : ℕ) → n < 2 ^ 64 - 1 → n < up n
unfolding up
up-rises n lt = omega arith

pub Tally-refl : (a b : ℕ) → Tally a b a b
Tally-refl a b = record { first = omega arith; second = omega arith; same = λ l m. refl }

pub Tally-both : (a b : ℕ) → Tally a b (up a) (up b)
Tally-both a b = record { first = up-least a; second = up-least b; same = λ l m. let x = up-below a l in let y = up-below b m in omega arith }

pub Tally-trans : (a b c d e f : ℕ) → Tally a b c d → Tally c d e f → Tally a b e f
Tally-trans a b c d e f t u = let p = t.first in let q = t.second in let r = u.first in let s = u.second in record { first = omega arith; second = omega arith; same = λ l m. let x = t.same (omega arith) (omega arith) in let y = u.same l m in omega arith }
