-- A table of marks: which numbers were named so far.
use Rattle.std.proofs.Common.{◌≡◌, ◌≢◌, ◌⊎◌, ◌↔◌, ℕ, ◌+◌, ◌<◌, ◌≤◌, Bool, true, false, IsTrue, List, length, get_or, set, sym, ◌∙◌, ap, subst, inl, inr, arith, get_or-set_same, get_or-set_other}
use Rattle.std.proofs.lemmas.Bool.{false≢true, cases_lt, cases_eq}
use Rattle.std.specs.Prelude.{slice_index_or}

-- the number q was named by one of the first k
abbrev pub Named : (ℕ → ℕ → Type 0) → ℕ → ℕ → Type 0
Named R k q = (i : ℕ) × (i < k) × R i q

abbrev pub IsMarked : (ℕ → ℕ → Type 0) → ℕ → List Bool → Type 0
IsMarked R k table = (q : ℕ) → q < length table → IsTrue (slice_index_or table q false) ↔ Named R k q

-- no two of the first k name one number
abbrev pub IsApart : (ℕ → ℕ → Type 0) → ℕ → Type 0
IsApart R k = (i j q : ℕ) → i < k → j < k → R i q → R j q → i ≡ j

module _ (R : ℕ → ℕ → Type 0) (k : ℕ) (table : List Bool) (marked : IsMarked R k table) where
  wider : (q : ℕ) → Named R k q → Named R (k + 1) q
  wider q (i, below, named) = (i, omega (arith, below), named)

  -- among one more it is the last that names the number, or one of the first
  last-or : (q : ℕ) → Named R (k + 1) q → Named R k q ⊎ R k q
  last-or q (i, below, named) = either (cases_lt i k)
    where
      either : (i < k) ⊎ (k ≤ i) → Named R k q ⊎ R k q
      either (inl less) = inl (i, less, named)
      either (inr more) = let is : i ≡ k = omega (arith, below) in inr (subst (λ (j : ℕ). R j q) is named)

  -- one that marks nothing
  pub more-none : ((q : ℕ) → R k q → ⊥) → IsMarked R (k + 1) table
  more-none nothing q within = (λ yes. wider q ((marked q within).0 yes), λ named. by_last (last-or q named))
    where
      by_last : Named R k q ⊎ R k q → IsTrue (slice_index_or table q false)
      by_last (inl named) = (marked q within).1 named
      by_last (inr last) = absurd (nothing q last)

  module _ (at : ℕ) (room : at < length table) (names : R k at) (only : (q : ℕ) → R k q → q ≡ at) where
    -- one that marks one
    pub more-one : (after : List Bool) → after ≡ set table at true → length after ≡ length table → IsMarked R (k + 1) after
    more-one after is long q within = by_place (cases_eq q at)
      where
        by_last : q ≢ at → Named R k q ⊎ R k q → IsTrue (slice_index_or after q false)
        by_last other (inl named) = rw (is, get_or-set_other table at q true false other) ((marked q (omega (arith, within))).1 named)
        by_last other (inr last) = absurd (other (only q last))

        by_place : (q ≡ at) ⊎ (q ≢ at) → IsTrue (slice_index_or after q false) ↔ Named R (k + 1) q
        by_place (inl same) = (λ yes. (k, omega arith, subst (λ (r : ℕ). R k r) (sym same) names), λ named. rw (is, same) (get_or-set_same table at true false room))
        by_place (inr other) = (λ yes. wider q ((marked q (omega (arith, within))).0 (sym (get_or-set_other table at q true false other) ∙ (ap (λ (t : List Bool). get_or t q false) (sym is) ∙ yes))), λ named. by_last other (last-or q named))

    -- which wasn't marked before
    pub apart-one : slice_index_or table at false ≡ false → IsApart R k → IsApart R (k + 1)
    apart-one unseen apart i j q bi bj ri rj = both (cases_lt i k) (cases_lt j k)
      where
        fresh : {P : Type 0} → Named R k q → R k q → P
        fresh named last = absurd (false≢true (sym unseen ∙ (marked at room).1 (subst (λ (r : ℕ). Named R k r) (only q last) named)))

        both : (i < k) ⊎ (k ≤ i) → (j < k) ⊎ (k ≤ j) → i ≡ j
        both (inl a) (inl b) = apart i j q a b ri rj
        both (inl a) (inr b) = let is : j ≡ k = omega (arith, bj) in fresh (i, a, ri) (subst (λ (h : ℕ). R h q) is rj)
        both (inr a) (inl b) = let is : i ≡ k = omega (arith, bi) in fresh (j, b, rj) (subst (λ (h : ℕ). R h q) is ri)
        both (inr a) (inr b) = omega (arith, bi, bj)

    -- a number that is marked already is named twice
    pub clash : slice_index_or table at false ≡ true → (n : ℕ) → k < n → IsApart R n → ⊥
    clash seen n more apart =
        let (i, below, named) = (marked at room).0 seen in
        omega (arith, below, apart i k at (omega (arith, below)) more named names)
