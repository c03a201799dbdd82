-- The pages of a range.
use Rattle.std.proofs.Common.{◌≡◌, ◌⊎◌, ℕ, ◌+◌, ◌/◌, ◌%◌, ◌<◌, ◌||◌, Bool, true, false, IsTrue, eqb, List, [], ◌∷◌, map, refl, ap, sym, subst, inl, inr, arith}
use Rattle.std.proofs.lemmas.Bool.{cases_lt, eq-eqb, eqb-true}
use Rattle.envy_array.specs.Words.{has}
use Rattle.envy_range.specs.Ranges.{page_in}

either : (a b : Bool) → IsTrue (a || b) → IsTrue a ⊎ IsTrue b
either true b t = inl refl
either false b t = inr t

first-of : (a b : Bool) → IsTrue a → IsTrue (a || b)
first-of true b t = refl
first-of false b t = absurd (let e : true ≡ false = sym t in cc)

rest-of : (a b : Bool) → IsTrue b → IsTrue (a || b)
rest-of true b t = refl
rest-of false b t = t

-- a page that is there has its number among the numbers, and each number is that of one that is there
pub numbered : (number : ℕ → ℕ) (ps : List ℕ) (p : ℕ) → IsTrue (has ps p) → IsTrue (has (map number ps) (number p))
numbered number [] p h = h
numbered number (x ∷ xs) p h = elim (either (eqb x p) (has xs p) h) [
  | inl here ↦ first-of (eqb (number x) (number p)) _ (eq-eqb (number x) (number p) (ap number (eqb-true x p here)))
  | inr later ↦ rest-of (eqb (number x) (number p)) _ (numbered number xs p later)
]

pub of-number : (number : ℕ → ℕ) (ps : List ℕ) (q : ℕ) → IsTrue (has (map number ps) q) → (p : ℕ) × IsTrue (has ps p) × (number p ≡ q)
of-number number [] q h = absurd (let e : true ≡ false = sym h in cc)
of-number number (x ∷ xs) q h = elim (either (eqb (number x) q) (has (map number xs) q) h) [
  | inl here ↦ (x, first-of (eqb x x) _ (eq-eqb x x refl), eqb-true (number x) q here)
  | inr later ↦ (let found = of-number number xs q later in (found.0, rest-of (eqb x found.0) _ found.1, found.2))
]

pub still-there : (number : ℕ → ℕ) (old new : List ℕ) → ((p : ℕ) → IsTrue (has old p) → IsTrue (has new p)) → (q : ℕ) → IsTrue (has (map number old) q) → IsTrue (has (map number new) q)
still-there number old new seen q h =
    let found = of-number number old q h in
    subst (λ (n : ℕ). IsTrue (has (map number new) n)) found.2 (numbered number new found.0 (seen found.0 found.1))

-- the pages of the range are numbered from its first
pub page_in-own : (first count q : ℕ) → page_in first count (first / 32 + q) ≡ q
unfolding page_in
page_in-own first count q = elim (cases_lt (first / 32 + q) (first / 32)) [ inl lt ↦ absurd (omega (arith, lt)) | inr le ↦ grind (arith, le) ]

pub own-page : (first count p q : ℕ) → page_in first count p ≡ q → q < count / 32 → p ≡ first / 32 + q
unfolding page_in
own-page first count p q is lt = elim (cases_lt p (first / 32)) [ inl less ↦ grind (arith, less, is, lt) | inr le ↦ grind (arith, le, is, lt) ]

pub put-own : (first count q : ℕ) (ps : List ℕ) → IsTrue (has ps (first / 32 + q)) → IsTrue (has (map (page_in first count) ps) q)
put-own first count q ps h = subst (λ (n : ℕ). IsTrue (has (map (page_in first count) ps) n)) (page_in-own first count q) (numbered (page_in first count) ps (first / 32 + q) h)

pub own-put : (first count q : ℕ) (ps : List ℕ) → q < count / 32 → IsTrue (has (map (page_in first count) ps) q) → IsTrue (has ps (first / 32 + q))
own-put first count q ps lt h =
    let found = of-number (page_in first count) ps q h in
    subst (λ (n : ℕ). IsTrue (has ps n)) (own-page first count found.0 q found.2 lt) found.1

-- the page of an address
pub page-of : (first a : ℕ) → first % 32 ≡ 0 → (first + a) / 32 ≡ first / 32 + a / 32
page-of first a whole = omega (arith, whole)

pub page-fits : (count a : ℕ) → count % 32 ≡ 0 → a < count → a / 32 < count / 32
page-fits count a whole lt = omega (arith, whole, lt)
