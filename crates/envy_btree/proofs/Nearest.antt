-- The nearest pair in a list of pairs by rising key.
use Rattle.std.proofs.Common.{◌≡◌, ℕ, ◌+◌, ◌<◌, ◌≤◌, false, List, [], ◌∷◌, Option, Some, None, refl, sym, subst, inl, inr, eqb, arith}
use Rattle.std.proofs.lemmas.Bool.{cases_lt}
use Rattle.std.proofs.lemmas.List.Elements.{All-cons, All-nil, All-weaker}
use Rattle.envy_btree.specs.Pairs.{assoc}
use Rattle.envy_btree.specs.Tree.{Rising}
use Rattle.envy_btree.specs.Nearest.{IsLeastFrom, IsGreatestTo, first_from, last_to, or_pair}
use Rattle.envy_btree.proofs.Maps.{assoc-none, eqb-lt, eqb-same, ltb-lt, ltb-ge}
use Rattle.envy_btree.proofs.Trees.{Within, Rising-within, Above-from}

-- what is first or last in the list is least or greatest

-- one pair more before the rest
least-more : (key : ℕ) (e : ℕ × ℕ) (es : List (ℕ × ℕ)) (o : Option (ℕ × ℕ)) → e.0 < key → IsLeastFrom key es o → IsLeastFrom key (e ∷ es) o
least-more key e es None lt h = All-cons (λ (x : ℕ × ℕ). x.0 < key) e es lt h
least-more key e es (Some f) lt h =
    let other : eqb e.0 f.0 ≡ false = eqb-lt e.0 f.0 (omega (arith, lt, h.1)) in
    (rw other h.0, h.1, All-cons (λ (x : ℕ × ℕ). key ≤ x.0 → f.0 ≤ x.0) e es (λ k. absurd (omega (arith, lt, k))) h.2)

pub first-is : (key low high : ℕ) (es : List (ℕ × ℕ)) → Rising low high es → IsLeastFrom key es (first_from key es)
first-is key low high [] r = All-nil (λ (x : ℕ × ℕ). x.0 < key)
first-is key low high (e ∷ es) r = elim (cases_lt e.0 key) [
  | inl lt ↦ subst (λ o. IsLeastFrom key (e ∷ es) o) (sym (skip lt)) (least-more key e es (first_from key es) lt (first-is key (e.0 + 1) high es r.2))
  | inr ge ↦ subst (λ o. IsLeastFrom key (e ∷ es) o) (sym (take_it ge)) (
    here,
    ge,
    All-cons (λ (x : ℕ × ℕ). key ≤ x.0 → e.0 ≤ x.0) e es (λ h. omega arith)
        (All-weaker (λ (x : ℕ × ℕ). (e.0 + 1 ≤ x.0) × (x.0 < high)) (λ (x : ℕ × ℕ). key ≤ x.0 → e.0 ≤ x.0) (λ x h k. omega (arith, h.0)) es (Rising-within (e.0 + 1) high es r.2)),
  )
]
  where
    skip : e.0 < key → first_from key (e ∷ es) ≡ first_from key es
    skip lt = rw (ltb-lt e.0 key lt) refl

    take_it : key ≤ e.0 → first_from key (e ∷ es) ≡ Some e
    take_it ge = rw (ltb-ge e.0 key ge) refl

    here : assoc e.0 (e ∷ es) ≡ Some e.1
    here = rw (eqb-same e.0) refl

-- a key of the rest is greater
later-key : (l high k v : ℕ) (es : List (ℕ × ℕ)) → assoc k es ≡ Some v → Within l high es → l ≤ k
later-key l high k v es is w = elim (cases_lt k l) [
  | inr ge ↦ ge
  | inl lt ↦ absurd (let none : assoc k es ≡ None = assoc-none k es (Above-from l high k es lt w) in cc)
]

greatest-more : (key high : ℕ) (e : ℕ × ℕ) (es : List (ℕ × ℕ)) (o : Option (ℕ × ℕ)) → e.0 ≤ key → Within (e.0 + 1) high es → IsGreatestTo key es o → IsGreatestTo key (e ∷ es) (or_pair e o)
greatest-more key high e es None le w h = (
  rw (eqb-same e.0) refl,
  le,
  All-cons (λ (x : ℕ × ℕ). x.0 ≤ key → x.0 ≤ e.0) e es (λ k. omega arith)
      (All-weaker (λ (x : ℕ × ℕ). key < x.0) (λ (x : ℕ × ℕ). x.0 ≤ key → x.0 ≤ e.0) (λ x m k. absurd (omega (arith, m, k))) es h),
)
greatest-more key high e es (Some f) le w h =
    let later : e.0 + 1 ≤ f.0 = later-key (e.0 + 1) high f.0 f.1 es h.0 w in
    let other : eqb e.0 f.0 ≡ false = eqb-lt e.0 f.0 (omega arith) in
    (rw other h.0, h.1, All-cons (λ (x : ℕ × ℕ). x.0 ≤ key → x.0 ≤ f.0) e es (λ k. omega arith) h.2)

pub last-is : (key low high : ℕ) (es : List (ℕ × ℕ)) → Rising low high es → IsGreatestTo key es (last_to key es)
last-is key low high [] r = All-nil (λ (x : ℕ × ℕ). key < x.0)
last-is key low high (e ∷ es) r = elim (cases_lt key e.0) [
  | inl lt ↦ subst (λ o. IsGreatestTo key (e ∷ es) o) (sym (none lt)) (All-cons (λ (x : ℕ × ℕ). key < x.0) e es lt (Above-from (e.0 + 1) high key es (omega (arith, lt)) (Rising-within (e.0 + 1) high es r.2)))
  | inr ge ↦ subst (λ o. IsGreatestTo key (e ∷ es) o) (sym (goes ge)) (greatest-more key high e es (last_to key es) ge (Rising-within (e.0 + 1) high es r.2) (last-is key (e.0 + 1) high es r.2))
]
  where
    none : key < e.0 → last_to key (e ∷ es) ≡ None
    none lt = rw (ltb-lt key e.0 lt) refl

    goes : e.0 ≤ key → last_to key (e ∷ es) ≡ or_pair e (last_to key es)
    goes ge = rw (ltb-ge key e.0 ge) refl
