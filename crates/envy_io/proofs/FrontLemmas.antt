-- A search for a newline, and what it tells of the front of the bytes.
use Rattle.std.proofs.Common.{◌≡◌, ◌≢◌, ℕ, ◌+◌, ◌<◌, ◌≤◌, min, false, ◌==◌, List, ◌∷◌, ◌++◌, length, take, drop, get_or, Option, Some, None, inl, inr, refl, ap, sym, ◌∙◌, arith, subst}
use Rattle.memchr.specs.Find.{IsFirstByte, is_byte}
use Rattle.std.proofs.lemmas.Bool.{false≢true, cases_lt}
use Rattle.std.proofs.lemmas.Bool.Decides.{nat_tests}
use Rattle.std.proofs.lemmas.List.{take-append-drop, drop_more, get_or-take, take-take, take_all, length-take}
use Rattle.std.proofs.lemmas.List.Elements.{recursion_from_All, All-from_get_or}
use Rattle.std.proofs.lemmas.List.Quantifiers.{position-Some}
use Rattle.std.proofs.lemmas.List.Sums.{fails_before_first}
use Rattle.std.specs.List.{position, position_or_len}
use Rattle.envy_io.specs.declared.lines.Front.TheVariants.{Line, Long, Open}
use Rattle.envy_io.specs.Lines.{NoNewline, newline}
use Rattle.envy_io.specs.Asking.{BeginsWith}

other : (b : ℕ) → (b == newline) ≡ false → b ≢ newline
other b is = grind (arith, nat_tests)

NoNewline-tested : (bytes : List ℕ) → ((k : ℕ) → k < length bytes → (get_or bytes k 0 == newline) ≡ false) → NoNewline bytes
NoNewline-tested bytes each =
    recursion_from_All (λ b. b ≢ newline) bytes (All-from_get_or (λ b. b ≢ newline) bytes 0 (λ k within. other (get_or bytes k 0) (each k within)))

module _ (bytes : List ℕ) where
  first-within : (n : ℕ) → position (λ b. b == newline) bytes ≡ Some n → n < length bytes
  first-within n is = (position-Some (λ b. b == newline) bytes n 0 is).0

  first-newline : (n : ℕ) → position (λ b. b == newline) bytes ≡ Some n → get_or bytes n 0 ≡ newline
  first-newline n is =
      let test = (position-Some (λ b. b == newline) bytes n 0 is).1 in
      grind (arith, nat_tests)

  none-before : (n : ℕ) → position (λ b. b == newline) bytes ≡ Some n → NoNewline (take n bytes)
  none-before n is = NoNewline-tested (take n bytes) before
    where
      before : (k : ℕ) → k < length (take n bytes) → (get_or (take n bytes) k 0 == newline) ≡ false
      before k within =
          let low : k < n = omega (arith, length-take n bytes) in
          rw (get_or-take n bytes k 0 low) ((position-Some (λ b. b == newline) bytes n 0 is).2 k low)

  past-all : position (λ b. b == newline) bytes ≡ None → length bytes ≤ position_or_len (λ b. b == newline) bytes
  past-all is = grind (arith, nat_tests)

  none-at-all : position (λ b. b == newline) bytes ≡ None → NoNewline bytes
  none-at-all is =
      let far = past-all is in
      NoNewline-tested bytes (λ k within. fails_before_first (λ b. b == newline) bytes k 0 (omega arith))

-- a first place is where the position is
first-position : (bytes : List ℕ) (r p : Option ℕ) → position (λ b. b == newline) bytes ≡ p → IsFirstByte (is_byte newline) bytes r → r ≡ p
first-position bytes None None is nowhere = refl
first-position bytes None (Some n) is nowhere =
    absurd (nowhere n (omega arith) (first-within bytes n is) ((position-Some (λ b. b == newline) bytes n 0 is).1))
first-position bytes (Some k) None is (first, passes) =
    let far = past-all bytes is in
    let high = first.high in
    absurd (false≢true (sym (fails_before_first (λ b. b == newline) bytes k 0 (omega arith)) ∙ passes))
first-position bytes (Some k) (Some n) is (first, passes) =
    elim (cases_lt k n) [
      | inl lt ↦ absurd (false≢true (sym ((position-Some (λ b. b == newline) bytes n 0 is).2 k lt) ∙ passes))
      | inr ge ↦ elim (cases_lt n k) [
        | inl less ↦ absurd (first.before n (omega arith) less ((position-Some (λ b. b == newline) bytes n 0 is).1))
        | inr le ↦ ap Some (omega arith)
      ]
    ]

pub found-position : (bytes : List ℕ) (r : Option ℕ) → IsFirstByte (is_byte newline) bytes r → r ≡ position (λ b. b == newline) bytes
found-position bytes r first = first-position bytes r (position (λ b. b == newline) bytes) refl first

-- the part before an element, the element, and the part behind it
split-at : (xs : List ℕ) (n x : ℕ) → n < length xs → get_or xs n 0 ≡ x → xs ≡ take n xs ++ x ∷ drop (n + 1) xs
split-at xs n x within is =
    sym (take-append-drop n xs) ∙ ap (λ (ys : List ℕ). take n xs ++ ys) (drop_more xs n 0 within ∙ ap (λ (y : ℕ). y ∷ drop (n + 1) xs) is)

module _ (held : List ℕ) (m : ℕ) (cut : m ≡ min (length held) 121) where
  pub front-line : (n : ℕ) → position (λ b. b == newline) (take m held) ≡ Some n → BeginsWith held (Line n)
  front-line n is =
      let within : n < length (take m held) = first-within (take m held) n is in
      let low : n < m = omega (arith, length-take m held) in
      let same : take n (take m held) ≡ take n held = take-take n m held (omega arith) in
      let byte : get_or held n 0 ≡ newline = sym (get_or-take m held n 0 low) ∙ first-newline (take m held) n is in
      (omega arith, subst NoNewline same (none-before (take m held) n is), split-at held n newline (omega arith) byte)

  pub front-open : length (take m held) ≤ 120 → position (λ b. b == newline) (take m held) ≡ None → BeginsWith held Open
  front-open short is =
      let few : length held ≤ 120 = omega (arith, length-take m held) in
      let whole : take m held ≡ held = take_all m held (omega arith) in
      record { unbroken = subst NoNewline whole (none-at-all (take m held) is); short = few }

  pub front-long : 120 < length (take m held) → position (λ b. b == newline) (take m held) ≡ None → BeginsWith held Long
  front-long long is =
      let full : m ≡ 121 = omega (arith, length-take m held) in
      (omega arith, subst (λ (k : ℕ). NoNewline (take k held)) full (none-at-all (take m held) is))
