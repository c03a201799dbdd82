-- The value of decimal digits, read from the left.
use Rattle.std.proofs.Common.{◌≡◌, ℕ, zero, suc, ◌+◌, ◌-◌, ◌*◌, ◌^◌, ◌<◌, ◌≤◌, true, false, not, IsTrue, List, [], ◌∷◌, length, take, drop, get_or, sym, ap, ◌∙◌, add_assoc, length-take, length-drop, arith}
use Rattle.std.specs.List.{position_or_len}
use Rattle.std.specs.Char.{digit_value, is_ascii_digit}
use Rattle.std.specs.Str.{all_ascii_digits}
use Rattle.std.specs.Str.Parse.{AllDigits, digits_value}
use Rattle.std.proofs.lemmas.Bool.Decides.{nat_tests}
use Rattle.std.proofs.lemmas.Int.Digits.{digits_value_more, digits_more}
use Rattle.std.proofs.lemmas.Str.Parse.{IsNumeralModel, numerals_by_value, tells_all_ascii_digits, digit_at, digits_value-take-le, digits_value_short}
use Rattle.std.proofs.lemmas.Bool.{cond-true, cond-false}
use Rattle.std.proofs.lemmas.List.{take_all, get_or-drop}
use Rattle.envy_trace.specs.Grammar.{is_blank}

pub own : IsNumeralModel (λ ds. all_ascii_digits ds ≡ true) (digits_value 10)
own = numerals_by_value (λ ds. all_ascii_digits ds ≡ true) tells_all_ascii_digits

digit_from : (b : ℕ) → is_ascii_digit b ≡ true → (48 ≤ b) × (b ≤ 57) × (digit_value b ≡ b - 48)
digit_from b e = (grind (arith, nat_tests), grind (arith, nat_tests), grind (arith, nat_tests))

in_range : (b : ℕ) → 48 ≤ b → b ≤ 57 → is_ascii_digit b ≡ true
in_range b low high = grind (arith, nat_tests)

-- a byte that is no digit
pub digits_none : (bs : List ℕ) (i : ℕ) → i < length bs → is_ascii_digit (get_or bs i 0) ≡ false → IsTrue (all_ascii_digits bs) → ⊥
digits_none bs i lt e all =
    let d = digit_at bs i (own.to bs all) lt in
    let yes = in_range (get_or bs i 0) d.0 d.1 in cc

-- one digit more
pub digits_step : (bs : List ℕ) (i : ℕ) → i < length bs → is_ascii_digit (get_or bs i 0) ≡ true → AllDigits 10 (take i bs) → AllDigits 10 (take (i + 1) bs) × (digits_value 10 (take (i + 1) bs) ≡ digits_value 10 (take i bs) * 10 + (get_or bs i 0 - 48))
digits_step bs i lt e all =
    let d = digit_from (get_or bs i 0) e in
    (digits_more 10 bs i lt all (omega arith), omega (arith, digits_value_more 10 bs i lt))

pub digits_all : (bs : List ℕ) (i : ℕ) → length bs ≤ i → AllDigits 10 (take i bs) → IsTrue (all_ascii_digits bs) × (digits_value 10 (take i bs) ≡ digits_value 10 bs)
digits_all bs i le all = let e = take_all i bs le in (own.from bs (rw e at all), ap (λ ds. digits_value 10 ds) e)

-- at most 19 digits fit 64 bits
pub digits_fit : (bs : List ℕ) (i : ℕ) → i < length bs → length bs ≤ 19 → is_ascii_digit (get_or bs i 0) ≡ true → AllDigits 10 (take i bs) → 10 * digits_value 10 (take i bs) + (get_or bs i 0 - 48) < 2 ^ 64
digits_fit bs i lt few e all =
    let step = digits_step bs i lt e all in
    let short : length (take (i + 1) bs) ≤ 19 = omega (arith, length-take (i + 1) bs) in
    let below = digits_value_short own (take (i + 1) bs) 19 (own.from (take (i + 1) bs) step.0) short in
    omega (arith, below, step.1)

-- one digit more of the first 19
pub digits_fit_front : (bs : List ℕ) (i : ℕ) → i < length bs → i < 19 → is_ascii_digit (get_or bs i 0) ≡ true → AllDigits 10 (take i bs) → 10 * digits_value 10 (take i bs) + (get_or bs i 0 - 48) < 2 ^ 64
digits_fit_front bs i lt few e all =
    let step = digits_step bs i lt e all in
    let short : length (take (i + 1) bs) ≤ 19 = omega (arith, few, length-take (i + 1) bs) in
    let below = digits_value_short own (take (i + 1) bs) 19 (own.from (take (i + 1) bs) step.0) short in
    omega (arith, below, step.1)

digits_take : (n : ℕ) (bs : List ℕ) → AllDigits 10 bs → AllDigits 10 (take n bs)
digits_take zero bs all = tt
digits_take (suc n) [] all = tt
digits_take (suc n) (b ∷ bs) all = (all.0, digits_take n bs all.1)

-- a front that has another byte than digits
pub digits_none_front : (bs : List ℕ) (n : ℕ) → (IsTrue (all_ascii_digits (take n bs)) → ⊥) → IsTrue (all_ascii_digits bs) → ⊥
digits_none_front bs n other all = other (own.from (take n bs) (digits_take n bs (own.to bs all)))

-- a loop over the digits behind the first n
module _ (bs back : List ℕ) (n i : ℕ) (is : back ≡ drop n bs) (lt : i < length back) where
  here : get_or back i 0 ≡ get_or bs (n + i) 0
  here = ap (λ (ds : List ℕ). get_or ds i 0) is ∙ get_or-drop n bs i 0

  within : n + i < length bs
  within = omega (arith, lt, ap length is, length-drop n bs)

  pub behind_none : is_ascii_digit (get_or back i 0) ≡ false → IsTrue (all_ascii_digits bs) → ⊥
  behind_none e all = digits_none bs (n + i) within (sym (ap is_ascii_digit here) ∙ e) all

  pub behind_step : is_ascii_digit (get_or back i 0) ≡ true → AllDigits 10 (take (n + i) bs) → AllDigits 10 (take (n + (i + 1)) bs) × (digits_value 10 (take (n + (i + 1)) bs) ≡ digits_value 10 (take (n + i) bs) * 10 + (get_or back i 0 - 48))
  behind_step e all =
      let step = digits_step bs (n + i) within (sym (ap is_ascii_digit here) ∙ e) all in
      rw (← add_assoc n i 1, here) step

  pub behind_over : 2 ^ 64 ≤ digits_value 10 (take (n + (i + 1)) bs) → digits_value 10 bs < 2 ^ 64 → ⊥
  behind_over over fits = let more = digits_value-take-le 10 bs (n + (i + 1)) (omega arith) in omega arith

-- before that loop
pub front_begins : (bs front : List ℕ) (n value : ℕ) → front ≡ take n bs → length front ≤ 19 → IsTrue (all_ascii_digits front) → value ≡ digits_value 10 front → AllDigits 10 (take (n + 0) bs) × (value ≡ digits_value 10 (take (n + 0) bs)) × (value < 2 ^ 64)
front_begins bs front n value is few all v =
    let e : n + 0 ≡ n = omega arith in
    let below = digits_value_short own front 19 all few in
    rw (e, ← is) (own.to front all, v, omega (arith, below, v))

-- digits that end at a blank, or with the list
no_digit_is_blank : (b : ℕ) → 48 ≤ b → is_blank b ≡ false
no_digit_is_blank b low = grind (arith, nat_tests)

pub run-ends : (bs : List ℕ) (k : ℕ) → AllDigits 10 (take k bs) → k ≤ length bs → (k < length bs → is_blank (get_or bs k 0) ≡ true) → position_or_len is_blank bs ≡ k
run-ends [] k all le ends = let none : k ≡ 0 = omega (arith, le) in sym none
run-ends (b ∷ bs) zero all le ends = cond-false _ _ _ (ap not (ends (omega arith)))
run-ends (b ∷ bs) (suc k) all le ends =
    let digit = digit_at (b ∷ take k bs) 0 all (omega arith) in
    let full : is_blank b ≡ false = no_digit_is_blank b digit.0 in
    let rest : position_or_len is_blank bs ≡ k = run-ends bs k all.1 (omega (arith, le)) (λ lt. ends (omega (arith, lt))) in
    let one : position_or_len is_blank (b ∷ bs) ≡ 1 + position_or_len is_blank bs = cond-true _ _ _ (ap not full) in
    omega (arith, one, rest)
