-- How many digits a number has, and the last of them at 128 bits.
use Rattle.std.proofs.Common.{◌≡◌, ℕ, ◌+◌, ◌/◌, ◌%◌, ◌^◌, ◌<◌, ◌≤◌, [], ◌∷◌, ◌++◌, length, decimal, arith}
use Rattle.std.proofs.lemmas.Fmt.{decimal_step_wide, length-decimal-le, length-decimal-le_wide}

pub few : (n : ℕ) → n < 2 ^ 64 → length (decimal n) ≤ 20
few n fits = length-decimal-le 20 n (omega arith) (omega arith) fits

-- at 128 bits
pub few_wide : (n : ℕ) → n < 2 ^ 128 → length (decimal n) ≤ 39
few_wide n fits = length-decimal-le_wide 39 n (omega arith) (omega (arith, fits)) (omega (arith, fits))

pub wide_step : (n : ℕ) → 10 ≤ n → n < 2 ^ 128 → decimal n ≡ decimal (n / 10) ++ ((48 + n % 10) ∷ [])
wide_step n ten fits = decimal_step_wide n ten (omega (arith, fits))
