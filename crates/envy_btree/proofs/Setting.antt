-- A pair set in a leaf.
use Rattle.std.proofs.Common.{◌≡◌, ◌≢◌, ◌⊎◌, ℕ, zero, suc, ◌+◌, ◌-◌, ◌<◌, ◌≤◌, List, [], ◌∷◌, ◌++◌, length, take, drop, get_or, set, refl, ap, sym, subst, ◌∙◌, inl, inr, ltb, arith}
use Rattle.std.specs.List.{insert, remove}
use Rattle.std.proofs.lemmas.Bool.{cases_eq, cases_lt}
use Rattle.envy_heap.specs.Pieces.{Chain, IsHeap, handed, spare, head, one, times}
use Rattle.envy_heap.proofs.Heaps.{Chain-same, one-le}
use Rattle.envy_btree.specs.Pairs.{with_pair, without, Below}
use Rattle.envy_btree.specs.Tree.{Rising, keys_of, values_of}
use Rattle.envy_btree.specs.Nodes.{Ranks, IsSet, IsDropped, OnlyPiece}
use Rattle.envy_btree.proofs.Maps.{with_pair-here, with_pair-new, without-below, without-none, ltb-lt, ltb-ge, eqb-same, eqb-gt}
use Rattle.envy_btree.proofs.Descent.{Rising-below, Rising-above, Below-rank, pairs-split, take-drop}

keys-insert : (es : List (ℕ × ℕ)) (i k v : ℕ) → keys_of (take i es ++ (k, v) ∷ drop i es) ≡ insert (keys_of es) i k
keys-insert [] zero k v = refl
keys-insert [] (suc i) k v = refl
keys-insert (e ∷ es) zero k v = refl
keys-insert (e ∷ es) (suc i) k v = ap (λ x. e.0 ∷ x) (keys-insert es i k v)

values-insert : (es : List (ℕ × ℕ)) (i k v : ℕ) → values_of (take i es ++ (k, v) ∷ drop i es) ≡ insert (values_of es) i v
values-insert [] zero k v = refl
values-insert [] (suc i) k v = refl
values-insert (e ∷ es) zero k v = refl
values-insert (e ∷ es) (suc i) k v = ap (λ x. e.1 ∷ x) (values-insert es i k v)

keys-set : (es : List (ℕ × ℕ)) (j k v : ℕ) → j < length es → get_or (keys_of es) j 0 ≡ k → keys_of (take j es ++ (k, v) ∷ drop (suc j) es) ≡ keys_of es
keys-set [] j k v lt e = absurd (omega arith)
keys-set (x ∷ es) zero k v lt e = ap (λ y. y ∷ keys_of es) (sym e)
keys-set (x ∷ es) (suc j) k v lt e = ap (λ y. x.0 ∷ y) (keys-set es j k v (omega arith) e)

values-set : (es : List (ℕ × ℕ)) (j k v : ℕ) → j < length es → values_of (take j es ++ (k, v) ∷ drop (suc j) es) ≡ set (values_of es) j v
values-set [] j k v lt = absurd (omega arith)
values-set (x ∷ es) zero k v lt = refl
values-set (x ∷ es) (suc j) k v lt = ap (λ y. x.1 ∷ y) (values-set es j k v (omega arith))

pub Set-found : (low high key value j : ℕ) (es : List (ℕ × ℕ)) → j < length es → Rising low high es → get_or (keys_of es) j 0 ≡ key → IsSet key value es (keys_of es) (set (values_of es) j value)
Set-found low high key value j es lt r is =
    let old : ℕ = get_or (values_of es) j 0 in
    let split : es ≡ take j es ++ (key, old) ∷ drop (suc j) es = pairs-split es j lt ∙ ap (λ x. take j es ++ (x, old) ∷ drop (suc j) es) is in
    let whole : with_pair key value es ≡ take j es ++ (key, value) ∷ drop (suc j) es = ap (with_pair key value) split ∙ with_pair-here key value old (take j es) (drop (suc j) es) (subst (λ x. Below x (take j es)) is (Rising-below low high es j lt r)) in
    record {
      front = sym (ap keys_of whole ∙ keys-set es j key value lt is);
      back = sym (ap values_of whole ∙ values-set es j key value lt);
    }

pub Set-missing : (low high key value i : ℕ) (es : List (ℕ × ℕ)) → Rising low high es → Ranks key (keys_of es) i → (i ≡ 0) ⊎ (get_or (keys_of es) (i - 1) 0 ≢ key) → IsSet key value es (insert (keys_of es) i key) (insert (values_of es) i value)
Set-missing low high key value i es r k h =
    let whole : with_pair key value es ≡ take i es ++ (key, value) ∷ drop i es = ap (with_pair key value) (take-drop es i) ∙ with_pair-new key value (take i es) (drop i es) (Below-rank low high key es i r k h) (Rising-above low high key es i r k) in
    record {
      front = sym (ap keys_of whole ∙ keys-insert es i key value);
      back = sym (ap values_of whole ∙ values-insert es i key value);
    }

pub Rising-with_pair : (low high key value : ℕ) (es : List (ℕ × ℕ)) → low ≤ key → key < high → Rising low high es → Rising low high (with_pair key value es)
Rising-with_pair low high key value [] le lt r = (le, lt, omega arith)
Rising-with_pair low high key value (e ∷ es) le lt r = elim (cases_lt e.0 key) [
  | inl l ↦ rw (ltb-lt e.0 key l) (r.0, r.1, Rising-with_pair (e.0 + 1) high key value es (omega arith) lt r.2)
  | inr ge ↦ elim (cases_eq e.0 key) [
    | inl same ↦ rw (ltb-ge e.0 key ge, same, eqb-same key) (le, lt, subst (λ x. Rising (x + 1) high es) same r.2)
    | inr ne ↦ (let gt : key < e.0 = omega arith in rw (ltb-ge e.0 key ge, eqb-gt e.0 key gt) (le, lt, (omega arith, r.1, r.2)))
  ]
]

pub with_pair-long : (key value : ℕ) (es : List (ℕ × ℕ)) → length es ≤ length (with_pair key value es)
with_pair-long key value [] = omega arith
with_pair-long key value (e ∷ es) = elim (cases_lt e.0 key) [
  | inl l ↦ rw (ltb-lt e.0 key l) (let h = with_pair-long key value es in omega arith)
  | inr ge ↦ elim (cases_eq e.0 key) [
    | inl same ↦ rw (ltb-ge e.0 key ge, same, eqb-same key) (omega arith)
    | inr ne ↦ (let gt : key < e.0 = omega arith in rw (ltb-ge e.0 key ge, eqb-gt e.0 key gt) (omega arith))
  ]
]

-- a change within a piece that is handed out leaves the heap
pub heap-kept : (old new free : List ℕ) (p : ℕ) → IsHeap old free → 1 ≤ handed old free p → OnlyPiece p old new → IsHeap new free × ((q : ℕ) → handed new free q ≡ handed old free q) × (spare new free ≡ spare old free)
heap-kept old new free p h out o =
    let used : get_or new 2 0 ≡ get_or old 2 0 = o.before 2 (omega arith) in
    let unfree : times free p ≡ 0 = omega (arith, one-le (ltb p (get_or old 2 0))) in (
      record {
        size = omega (arith, h.size, o.long);
        used = omega (arith, h.used, o.long);
        chain = subst (λ x. Chain new x free) (sym (o.before 1 (omega arith))) (Chain-same old new (get_or old 1 0) free (λ q some. apart q some unfree) h.chain);
        once = λ q. subst (λ u. times free q ≤ one (ltb q u)) (sym used) (h.once q);
      },
      λ q. ap (λ u. one (ltb q u) - times free q) used,
      omega (arith, used, o.long),
    )
  where
    apart : (q : ℕ) → 1 ≤ times free q → times free p ≡ 0 → get_or new (head q) 0 ≡ get_or old (head q) 0
    apart q some none = elim (cases_lt q p) [
      | inl lt ↦ o.before (head q) (omega arith)
      | inr ge ↦ elim (cases_eq q p) [
        | inl same ↦ absurd (let z : times free q ≡ 0 = subst (λ x. times free x ≡ 0) (sym same) none in omega arith)
        | inr ne ↦ o.after (head q) (omega arith)
      ]
    ]

pub with_pair-few : (key value : ℕ) (es : List (ℕ × ℕ)) → length (with_pair key value es) ≤ length es + 1
with_pair-few key value [] = omega arith
with_pair-few key value (e ∷ es) = elim (cases_lt e.0 key) [
  | inl l ↦ rw (ltb-lt e.0 key l) (let h = with_pair-few key value es in omega arith)
  | inr ge ↦ elim (cases_eq e.0 key) [
    | inl same ↦ rw (ltb-ge e.0 key ge, same, eqb-same key) (omega arith)
    | inr ne ↦ (let gt : key < e.0 = omega arith in rw (ltb-ge e.0 key ge, eqb-gt e.0 key gt) (omega arith))
  ]
]

-- a key less
keys-remove : (es : List (ℕ × ℕ)) (j : ℕ) → keys_of (take j es ++ drop (suc j) es) ≡ remove (keys_of es) j
keys-remove [] zero = refl
keys-remove [] (suc j) = refl
keys-remove (e ∷ es) zero = refl
keys-remove (e ∷ es) (suc j) = ap (λ x. e.0 ∷ x) (keys-remove es j)

values-remove : (es : List (ℕ × ℕ)) (j : ℕ) → values_of (take j es ++ drop (suc j) es) ≡ remove (values_of es) j
values-remove [] zero = refl
values-remove [] (suc j) = refl
values-remove (e ∷ es) zero = refl
values-remove (e ∷ es) (suc j) = ap (λ x. e.1 ∷ x) (values-remove es j)

pub Dropped-found : (low high key j : ℕ) (es : List (ℕ × ℕ)) → j < length es → Rising low high es → get_or (keys_of es) j 0 ≡ key → IsDropped key es (remove (keys_of es) j) (remove (values_of es) j)
Dropped-found low high key j es lt r is =
    let old : ℕ = get_or (values_of es) j 0 in
    let split : es ≡ take j es ++ (key, old) ∷ drop (suc j) es = pairs-split es j lt ∙ ap (λ x. take j es ++ (x, old) ∷ drop (suc j) es) is in
    let whole : without key es ≡ take j es ++ drop (suc j) es = ap (without key) split ∙ without-below key (take j es) ((key, old) ∷ drop (suc j) es) (subst (λ x. Below x (take j es)) is (Rising-below low high es j lt r)) ∙ ap (λ x. take j es ++ x) (rw (eqb-same key) refl) in
    record { front = sym (ap keys_of whole ∙ keys-remove es j); back = sym (ap values_of whole ∙ values-remove es j) }

pub Dropped-missing : (low high key i : ℕ) (es : List (ℕ × ℕ)) → Rising low high es → Ranks key (keys_of es) i → (i ≡ 0) ⊎ (get_or (keys_of es) (i - 1) 0 ≢ key) → IsDropped key es (keys_of es) (values_of es)
Dropped-missing low high key i es r k h =
    let whole : without key es ≡ es = ap (without key) (take-drop es i) ∙ without-below key (take i es) (drop i es) (Below-rank low high key es i r k h) ∙ ap (λ x. take i es ++ x) (without-none key (drop i es) (Rising-above low high key es i r k)) ∙ sym (take-drop es i) in
    record { front = sym (ap keys_of whole); back = sym (ap values_of whole) }
