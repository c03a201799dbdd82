-- A scan sees the pairs from its key on.
use Rattle.std.proofs.Common.{◌≡◌, ℕ, ◌+◌, ◌^◌, ◌<◌, ◌≤◌, List, [], ◌∷◌, Option, Some, None, refl, ap, sym, subst, ◌∙◌, inl, inr, arith}
use Rattle.std.proofs.lemmas.Bool.{cases_lt}
use Rattle.std.proofs.lemmas.List.Elements.{All-head, All-tail}
use Rattle.envy_btree.specs.Pairs.{assoc}
use Rattle.envy_btree.specs.Tree.{Rising}
use Rattle.envy_btree.specs.Nearest.{IsLeastFrom, Scans, pairs_from}
use Rattle.envy_btree.specs.Index.{IsIndex}
use Rattle.envy_btree.proofs.Maps.{assoc-none, eqb-lt, eqb-gt, eqb-same, ltb-lt, ltb-ge}
use Rattle.envy_btree.proofs.Trees.{Rising-within, Above-from}
use Rattle.envy_btree.proofs.Calls.{planted-rising}

-- a pair whose key is less goes unseen
least-tail : (key : ℕ) (e : ℕ × ℕ) (es : List (ℕ × ℕ)) (r : Option (ℕ × ℕ)) → e.0 < key → IsLeastFrom key (e ∷ es) r → IsLeastFrom key es r
least-tail key e es None lt h = All-tail (λ (x : ℕ × ℕ). x.0 < key) e es h
least-tail key e es (Some f) lt h =
    let same : assoc f.0 es ≡ Some f.1 = (rw (eqb-lt e.0 f.0 (omega (arith, lt, h.1))) at h.0) in
    (same, h.1, All-tail (λ (x : ℕ × ℕ). key ≤ x.0 → f.0 ≤ x.0) e es h.2)

scan-tail : (key : ℕ) (e : ℕ × ℕ) (es seen : List (ℕ × ℕ)) → e.0 < key → Scans key (e ∷ es) seen → Scans key es seen
scan-tail key e es [] lt s = least-tail key e es None lt s
scan-tail key e es (f ∷ seen) lt s = (least-tail key e es (Some f) lt s.0, scan-tail (f.0 + 1) e es seen (omega (arith, lt, s.0.1)) s.1)

pair-same : (e f : ℕ × ℕ) → f.0 ≡ e.0 → f.1 ≡ e.1 → f ≡ e
pair-same e f a b = ap (λ x. (x, f.1)) a ∙ ap (λ y. (e.0, y)) b

-- the first of a rising list is what is seen first
least-first : (key low high : ℕ) (e f : ℕ × ℕ) (es : List (ℕ × ℕ)) → key ≤ low → Rising low high (e ∷ es) → IsLeastFrom key (e ∷ es) (Some f) → f ≡ e
least-first key low high e f es le r s =
    let most : f.0 ≤ e.0 = All-head (λ (x : ℕ × ℕ). key ≤ x.0 → f.0 ≤ x.0) e es s.2 (omega (arith, r.0)) in
    elim (cases_lt f.0 e.0) [
      | inl lt ↦ absurd (
          let none : assoc f.0 (e ∷ es) ≡ None = missing lt in
          let found : assoc f.0 (e ∷ es) ≡ Some f.1 = s.0 in
          cc)
      | inr ge ↦ same (omega (arith, ge, most))
    ]
  where
    missing : f.0 < e.0 → assoc f.0 (e ∷ es) ≡ None
    missing lt = rw (eqb-gt e.0 f.0 lt) (assoc-none f.0 es (Above-from (e.0 + 1) high f.0 es (omega (arith, lt)) (Rising-within (e.0 + 1) high es r.2)))

    same : f.0 ≡ e.0 → f ≡ e
    same at =
        let here : assoc e.0 (e ∷ es) ≡ Some e.1 = rw (eqb-same e.0) refl in
        let there : assoc e.0 (e ∷ es) ≡ Some f.1 = subst (λ k. assoc k (e ∷ es) ≡ Some f.1) at s.0 in
        let value : f.1 ≡ e.1 = cc in
        pair-same e f at value

scan-all : (key low high : ℕ) (es seen : List (ℕ × ℕ)) → key ≤ low → Rising low high es → Scans key es seen → seen ≡ es
scan-all key low high [] [] le r s = refl
scan-all key low high [] (f ∷ seen) le r s = absurd (let no : None ≡ Some f.1 = s.0.0 in cc)
scan-all key low high (e ∷ es) [] le r s = absurd (omega (arith, le, r.0, All-head (λ (x : ℕ × ℕ). x.0 < key) e es s))
scan-all key low high (e ∷ es) (f ∷ seen) le r s =
    let same : f ≡ e = least-first key low high e f es le r s.0 in
    let at : f.0 ≡ e.0 = ap (λ x. x.0) same in
    let rest = scan-tail (f.0 + 1) e es seen (omega (arith, at)) s.1 in
    ap (λ x. x ∷ seen) same ∙ ap (λ x. e ∷ x) (scan-all (f.0 + 1) (e.0 + 1) high es seen (omega (arith, at)) r.2 rest)

scan-from : (key low high : ℕ) (es seen : List (ℕ × ℕ)) → Rising low high es → Scans key es seen → seen ≡ pairs_from key es
scan-from key low high [] [] r s = refl
scan-from key low high [] (f ∷ seen) r s = absurd (let no : None ≡ Some f.1 = s.0.0 in cc)
scan-from key low high (e ∷ es) seen r s = elim (cases_lt e.0 key) [
  | inl lt ↦ scan-from key (e.0 + 1) high es seen r.2 (scan-tail key e es seen lt s) ∙ sym (skip lt)
  | inr ge ↦ scan-all key e.0 high (e ∷ es) seen ge (omega arith, r.1, r.2) s ∙ sym (keep ge)
]
  where
    skip : e.0 < key → pairs_from key (e ∷ es) ≡ pairs_from key es
    skip lt = rw (ltb-lt e.0 key lt) refl

    keep : key ≤ e.0 → pairs_from key (e ∷ es) ≡ e ∷ es
    keep ge = rw (ltb-ge e.0 key ge) refl

pub scanned-from : (ws : List ℕ) (es seen : List (ℕ × ℕ)) (key : ℕ) → IsIndex ws es → Scans key es seen → seen ≡ pairs_from key es
scanned-from ws es seen key x s = scan-from key 0 (2 ^ 64) es seen (planted-rising ws es x.planted) s

pub scanned-all : (ws : List ℕ) (es seen : List (ℕ × ℕ)) → IsIndex ws es → Scans 0 es seen → seen ≡ es
scanned-all ws es seen x s = scan-all 0 0 (2 ^ 64) es seen (omega arith) (planted-rising ws es x.planted) s
