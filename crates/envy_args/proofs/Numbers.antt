-- Numbers that are read from text.
use Rattle.std.proofs.Common.{◌≡◌, ℕ, ◌^◌, ◌<◌, true, IsTrue, ◌&&◌, List, [], ◌∷◌, length, Result, Ok, Err, SomeIff, OkIff, ap, refl, lt-ltb, ltb-true, nat_lt}
use Rattle.std.specs.List.{list_all}
use Rattle.std.specs.Result.{result_ok}
use Rattle.std.specs.Char.{is_ascii_digit}
use Rattle.std.specs.Str.{all_ascii_digits}
use Rattle.std.specs.Str.Parse.{ParsesUnsigned, digits_value}
use Rattle.std.proofs.lemmas.Bool.{and_from, and_parts}
use Rattle.std.proofs.lemmas.Str.Parse.{IsNumeralModel, numerals_by_value, tells_all_ascii_digits, parse_digits}
use Rattle.envy_args.specs.Words.{is_number}

own : IsNumeralModel (λ ds. all_ascii_digits ds ≡ true) (digits_value 10)
own = numerals_by_value (λ ds. all_ascii_digits ds ≡ true) tells_all_ascii_digits

pub digits-all : (bs : List ℕ) → list_all is_ascii_digit bs ≡ all_ascii_digits bs
digits-all [] = refl
digits-all (b ∷ bs) = ap (λ t. is_ascii_digit b && t) (digits-all bs)

-- what makes a number of a text
pub number-from : (bits : ℕ) (bs : List ℕ) → 0 < length bs → all_ascii_digits bs ≡ true → digits_value 10 bs < 2 ^ bits → is_number bits bs ≡ true
number-from bits bs some digits fits = and_from (nat_lt 0 (length bs)) _ (lt-ltb 0 (length bs) some) (and_from (all_ascii_digits bs) _ digits (lt-ltb _ _ fits))

pub record Number (bits : ℕ) (bs : List ℕ) : Type 0 where
  pub some : 0 < length bs
  pub digits : all_ascii_digits bs ≡ true
  pub fits : digits_value 10 bs < 2 ^ bits

pub number-parts : (bits : ℕ) (bs : List ℕ) → is_number bits bs ≡ true → Number bits bs
number-parts bits bs e =
    let p = and_parts (nat_lt 0 (length bs)) _ e in
    let q = and_parts (all_ascii_digits bs) _ p.1 in
    record { some = ltb-true 0 (length bs) p.0; digits = q.0; fits = ltb-true (digits_value 10 bs) (2 ^ bits) q.1 }

-- digits alone are parsed as what they write
pub parsed-digits : {E : Type 0} (bs : List ℕ) (r : Result ℕ E) → all_ascii_digits bs ≡ true → ParsesUnsigned 64 10 bs r → SomeIff (result_ok r) (IsTrue (is_number 64 bs)) (digits_value 10 bs)
parsed-digits bs r digits parses = go r (parse_digits own 64 bs r parses digits)
  where
    go : {E : Type 0} (r : Result ℕ E) → OkIff r ((0 < length bs) × (digits_value 10 bs < 2 ^ 64)) (digits_value 10 bs) → SomeIff (result_ok r) (IsTrue (is_number 64 bs)) (digits_value 10 bs)
    go (Ok n) h = (number-from 64 bs h.0.0 digits h.0.1, h.1)
    go (Err e) h = λ number. let p = number-parts 64 bs number in h (p.some, p.fits)
