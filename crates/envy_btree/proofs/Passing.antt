-- The pairs of a map beside a key, and those that a scan writes.
use Rattle.std.proofs.Common.{◌≡◌, ◌≢◌, ◌⊎◌, ℕ, zero, suc, ◌+◌, ◌-◌, ◌^◌, ◌<◌, ◌≤◌, List, [], ◌∷◌, ◌++◌, length, take, drop, get_or, None, Some, refl, ap, sym, subst, ◌∙◌, inl, inr, arith}
use Rattle.std.specs.List.{All}
use Rattle.std.proofs.lemmas.Bool.{cases_eq, cases_lt}
use Rattle.std.proofs.lemmas.List.{append_assoc, append-nil, length-drop, length-map, length-take}
use Rattle.std.proofs.lemmas.List.Elements.{All-append, All-cons, All-head, All-nil, All-tail, All-weaker}
use Rattle.envy_array.specs.Words.{IsPlace}
use Rattle.envy_heap.specs.Pieces.{at}
use Rattle.envy_btree.specs.Looking.{IsLeaf, pair_at}
use Rattle.envy_btree.specs.Nearest.{From, pairs_from, pairs_to}
use Rattle.envy_btree.specs.Nodes.{Ranks}
use Rattle.envy_btree.specs.Pairs.{assoc, Below, Above}
use Rattle.envy_btree.specs.Tree.{Rising, keys_of, values_of, window}
use Rattle.envy_btree.proofs.Descent.{Below-rank, Rising-above, Rising-below, assoc-found, assoc-mid, assoc-missing, take-drop}
use Rattle.envy_btree.proofs.Maps.{ltb-ge, ltb-lt}
use Rattle.envy_btree.proofs.Trees.{Rising-within}
use Rattle.envy_btree.proofs.Walking.{Rising-keys}
use Rattle.envy_btree.proofs.Writing.{window-at}

-- The place of a key among a leaf's keys

-- keys that rise one after another rise
mono : (ks : List ℕ) → ((i : ℕ) → suc i < length ks → get_or ks i 0 < get_or ks (suc i) 0) → (j k : ℕ) → j ≤ k → k < length ks → get_or ks j 0 ≤ get_or ks k 0
mono ks up j zero le lt = let e : j ≡ 0 = omega arith in subst (λ n. get_or ks n 0 ≤ get_or ks 0 0) (sym e) (omega arith)
mono ks up j (suc k) le lt = elim (cases_lt j (suc k)) [
  | inl less ↦ (let h = mono ks up j k (omega arith) (omega arith) in let s = up k lt in omega arith)
  | inr ge ↦ (let e : j ≡ suc k = omega arith in subst (λ n. get_or ks n 0 ≤ get_or ks (suc k) 0) (sym e) (omega arith))
]

pub place-ranks : (ws : List ℕ) (a count key low top index new_low new_top l h : ℕ) (es : List (ℕ × ℕ)) → Rising l h es → keys_of es ≡ window ws a count → count ≡ length es → IsPlace ws a count key low top index new_low new_top → Ranks key (keys_of es) index
place-ranks ws a count key low top index new_low new_top l h es r keys long x =
    let n = length-map es (λ (e : ℕ × ℕ). e.0) in
    record {
      within = omega (arith, x.within, n, long);
      below = λ j lt. below j lt index refl;
      above = λ lt. above (omega (arith, lt, n, long));
    }
  where
    same : (j : ℕ) → j < count → get_or ws (a + j) 0 ≡ get_or (keys_of es) j 0
    same j lt = window-at ws a count j (keys_of es) (sym keys) lt

    below : (j : ℕ) → j < index → (i : ℕ) → i ≡ index → get_or (keys_of es) j 0 ≤ key
    below j lt zero e = absurd (omega arith)
    below j lt (suc i) e =
        let n = length-map es (λ (e : ℕ × ℕ). e.0) in
        let less : i < count = omega (arith, x.within) in
        let m = mono (keys_of es) (λ k more. Rising-keys l h es k r (omega (arith, more, n))) j i (omega arith) (omega (arith, n, less, long)) in
        let low_is = x.bottom i (let f : index ≡ i + 1 = omega arith in f) in
        omega (arith, m, low_is, same i less, x.above)

    above : index < count → key < get_or (keys_of es) index 0
    above lt = omega (arith, same index lt, x.ceiling lt, x.below)

-- The value of a key

around : (ws : List ℕ) (es : List (ℕ × ℕ)) (p count low top key : ℕ) (x : IsLeaf ws es p count low top) → low ≤ key → key ≤ top → assoc key es ≡ assoc key x.pairs
around ws es p count low top key x le ge =
    ap (assoc key) x.split
    ∙ assoc-mid key x.before x.pairs x.after
    (All-weaker (λ (e : ℕ × ℕ). e.0 < low) (λ (e : ℕ × ℕ). e.0 < key) (λ e h. omega (arith, h)) x.before x.smaller)
    (All-weaker (λ (e : ℕ × ℕ). top < e.0) (λ (e : ℕ × ℕ). key < e.0) (λ e h. omega (arith, h)) x.after x.greater)

key-at : (ws : List ℕ) (es : List (ℕ × ℕ)) (p count low top : ℕ) (x : IsLeaf ws es p count low top) (j : ℕ) → j < count → get_or ws (at p 1 + j) 0 ≡ get_or (keys_of x.pairs) j 0
key-at ws es p count low top x j lt = window-at ws (at p 1) count j (keys_of x.pairs) (sym x.keys) lt

value-at : (ws : List ℕ) (es : List (ℕ × ℕ)) (p count low top : ℕ) (x : IsLeaf ws es p count low top) (j : ℕ) → j < count → get_or ws (at p 32 + j) 0 ≡ get_or (values_of x.pairs) j 0
value-at ws es p count low top x j lt = window-at ws (at p 32) count j (values_of x.pairs) (sym x.values) lt

-- the key at the place, or another
beside : (ws : List ℕ) (es : List (ℕ × ℕ)) (p count low top key index new_low new_top : ℕ) (x : IsLeaf ws es p count low top) → IsPlace ws (at p 1) count key low top index new_low new_top → index ≢ 0 → new_low ≡ get_or (keys_of x.pairs) (index - 1) 0
beside ws es p count low top key index new_low new_top x place some =
    place.bottom (index - 1) (omega (arith, some)) ∙ key-at ws es p count low top x (index - 1) (omega (arith, some, place.within))

pub leaf-missing : (ws : List ℕ) (es : List (ℕ × ℕ)) (p count low top key index new_low new_top : ℕ) (x : IsLeaf ws es p count low top) → low ≤ key → key ≤ top → IsPlace ws (at p 1) count key low top index new_low new_top → (index ≡ 0) ⊎ (new_low ≢ key) → assoc key es ≡ None
leaf-missing ws es p count low top key index new_low new_top x le ge place other =
    let ranks = place-ranks ws (at p 1) count key low top index new_low new_top low (top + 1) x.pairs x.rising x.keys x.long place in
    around ws es p count low top key x le ge ∙ assoc-missing low (top + 1) key x.pairs index x.rising ranks (elim other [
      | inl none ↦ inl none
      | inr ne ↦ elim (cases_eq index 0) [
        | inl none ↦ inl none
        | inr some ↦ inr (λ e. ne (beside ws es p count low top key index new_low new_top x place some ∙ e))
      ]
    ])

pub leaf-found : (ws : List ℕ) (es : List (ℕ × ℕ)) (p count low top key index new_low new_top : ℕ) (x : IsLeaf ws es p count low top) → low ≤ key → key ≤ top → IsPlace ws (at p 1) count key low top index new_low new_top → index ≢ 0 → new_low ≡ key → assoc key es ≡ Some (get_or ws (at p 32 + (index - 1)) 0)
leaf-found ws es p count low top key index new_low new_top x le ge place some is =
    around ws es p count low top key x le ge
    ∙ assoc-found low (top + 1) key x.pairs (index - 1) (omega (arith, some, place.within, x.long)) x.rising (sym (beside ws es p count low top key index new_low new_top x place some) ∙ is)
    ∙ ap (λ v. Some v) (sym (value-at ws es p count low top x (index - 1) (omega (arith, some, place.within))))

-- How many keys of a leaf are below a key

pub Rising-from : (low high : ℕ) (es : List (ℕ × ℕ)) (i : ℕ) → Rising low high es → From (get_or (keys_of es) i 0) (drop i es)
Rising-from low high [] zero r = All-nil (λ (x : ℕ × ℕ). 0 ≤ x.0)
Rising-from low high [] (suc i) r = All-nil (λ (x : ℕ × ℕ). 0 ≤ x.0)
Rising-from low high (e ∷ es) zero r = All-cons (λ (x : ℕ × ℕ). e.0 ≤ x.0) e es (omega arith) (All-weaker (λ (x : ℕ × ℕ). (e.0 + 1 ≤ x.0) × (x.0 < high)) (λ (x : ℕ × ℕ). e.0 ≤ x.0) (λ x h. omega (arith, h.0)) es (Rising-within (e.0 + 1) high es r.2))
Rising-from low high (e ∷ es) (suc i) r = Rising-from (e.0 + 1) high es i r.2

From-less : (key least : ℕ) (es : List (ℕ × ℕ)) → key ≤ least → From least es → From key es
From-less key least es le f = All-weaker (λ (x : ℕ × ℕ). least ≤ x.0) (λ (x : ℕ × ℕ). key ≤ x.0) (λ x h. omega (arith, h)) es f

From-above : (key : ℕ) (es : List (ℕ × ℕ)) → Above key es → From key es
From-above key es a = All-weaker (λ (x : ℕ × ℕ). key < x.0) (λ (x : ℕ × ℕ). key ≤ x.0) (λ x h. omega (arith, h)) es a

take-none : (key : ℕ) (es : List (ℕ × ℕ)) → Below key (take 0 es)
take-none key [] = All-nil (λ (x : ℕ × ℕ). x.0 < key)
take-none key (e ∷ es) = All-nil (λ (x : ℕ × ℕ). x.0 < key)

-- the pairs parted at a place: all before it are below the key, and all from it on aren't
abbrev pub Parts : ℕ → List (ℕ × ℕ) → ℕ → Type 0
Parts key es i = Below key (take i es) × From key (drop i es)

pub parts-first : (ws : List ℕ) (a count key low high : ℕ) (es : List (ℕ × ℕ)) → Rising low high es → keys_of es ≡ window ws a count → 0 < count → key ≤ get_or ws a 0 → Parts key es 0
parts-first ws a count key low high es r keys some le = (
  take-none key es,
  From-less key (get_or (keys_of es) 0 0) (drop 0 es) (let first = window-at ws a count 0 (keys_of es) (sym keys) some in let here : a + 0 ≡ a = omega arith in let same = ap (λ i. get_or ws i 0) here in omega (arith, first, same, le)) (Rising-from low high es 0 r),
)

pub parts-here : (ws : List ℕ) (a count key low top index new_low new_top l h : ℕ) (es : List (ℕ × ℕ)) → Rising l h es → keys_of es ≡ window ws a count → count ≡ length es → IsPlace ws a count key low top index new_low new_top → 0 < index → new_low ≡ key → Parts key es (index - 1)
parts-here ws a count key low top index new_low new_top l h es r keys long x some is =
    let lt : index - 1 < count = omega (arith, x.within, some) in
    let here : get_or (keys_of es) (index - 1) 0 ≡ key = sym (window-at ws a count (index - 1) (keys_of es) (sym keys) lt) ∙ sym (x.bottom (index - 1) (omega (arith, some))) ∙ is in
    (subst (λ k. Below k (take (index - 1) es)) here (Rising-below l h es (index - 1) (omega (arith, lt, long)) r), subst (λ k. From k (drop (index - 1) es)) here (Rising-from l h es (index - 1) r))

pub parts-between : (ws : List ℕ) (a count key low top index new_low new_top l h : ℕ) (es : List (ℕ × ℕ)) → Rising l h es → keys_of es ≡ window ws a count → count ≡ length es → IsPlace ws a count key low top index new_low new_top → (index ≡ 0) ⊎ (new_low ≢ key) → Parts key es index
parts-between ws a count key low top index new_low new_top l h es r keys long x other =
    let ranks = place-ranks ws a count key low top index new_low new_top l h es r keys long x in (
      Below-rank l h key es index r ranks (elim other [
        | inl none ↦ inl none
        | inr ne ↦ elim (cases_eq index 0) [
          | inl none ↦ inl none
          | inr some ↦ inr (λ e. ne (x.bottom (index - 1) (omega (arith, some)) ∙ window-at ws a count (index - 1) (keys_of es) (sym keys) (omega (arith, some, x.within)) ∙ e))
        ]
      ]),
      From-above key (drop index es) (Rising-above l h key es index r ranks),
    )

-- The pairs from a key on, and up to it

from-skip : (key : ℕ) (xs ys : List (ℕ × ℕ)) → Below key xs → pairs_from key (xs ++ ys) ≡ pairs_from key ys
from-skip key [] ys b = refl
from-skip key (x ∷ xs) ys b = rw (ltb-lt x.0 key (All-head (λ (x : ℕ × ℕ). x.0 < key) x xs b)) (from-skip key xs ys (All-tail (λ (x : ℕ × ℕ). x.0 < key) x xs b))

from-all : (key : ℕ) (ys : List (ℕ × ℕ)) → From key ys → pairs_from key ys ≡ ys
from-all key [] f = refl
from-all key (y ∷ ys) f = rw (ltb-ge y.0 key (All-head (λ (x : ℕ × ℕ). key ≤ x.0) y ys f)) refl

pub from-parts : (key : ℕ) (xs ys : List (ℕ × ℕ)) → Below key xs → From key ys → pairs_from key (xs ++ ys) ≡ ys
from-parts key xs ys b f = from-skip key xs ys b ∙ from-all key ys f

-- a list, the last pair first
abbrev pub backward : List (ℕ × ℕ) → List (ℕ × ℕ)
backward [] = []
backward (e ∷ es) = backward es ++ e ∷ []

pub backward-append : (xs ys : List (ℕ × ℕ)) → backward (xs ++ ys) ≡ backward ys ++ backward xs
backward-append [] ys = sym (append-nil (backward ys))
backward-append (x ∷ xs) ys = ap (λ z. z ++ x ∷ []) (backward-append xs ys) ∙ append_assoc (backward ys) (backward xs) (x ∷ [])

to-none : (key : ℕ) (ys : List (ℕ × ℕ)) → Above key ys → pairs_to key ys ≡ []
to-none key [] a = refl
to-none key (y ∷ ys) a = rw (ltb-lt key y.0 (All-head (λ (x : ℕ × ℕ). key < x.0) y ys a)) refl

pub to-parts : (key : ℕ) (xs ys : List (ℕ × ℕ)) → Below (key + 1) xs → Above key ys → pairs_to key (xs ++ ys) ≡ backward xs
to-parts key [] ys b a = to-none key ys a
to-parts key (x ∷ xs) ys b a =
    let less : x.0 < key + 1 = All-head (λ (x : ℕ × ℕ). x.0 < key + 1) x xs b in
    rw (ltb-ge key x.0 (omega arith)) (ap (λ z. z ++ x ∷ []) (to-parts key xs ys (All-tail (λ (x : ℕ × ℕ). x.0 < key + 1) x xs b) a))

pub long-of : (ws : List ℕ) (p count : ℕ) (es : List (ℕ × ℕ)) → at p 63 < length ws → count ≤ 31 → keys_of es ≡ window ws (at p 1) count → count ≡ length es
long-of ws p count es within few keys = omega (arith, ap length keys, length-map es (λ (e : ℕ × ℕ). e.0), length-take count (drop (at p 1) ws), length-drop (at p 1) ws)

pub parts-none : (key : ℕ) (es : List (ℕ × ℕ)) → length es ≡ 0 → Parts key es 0
parts-none key [] e = (All-nil (λ (x : ℕ × ℕ). x.0 < key), All-nil (λ (x : ℕ × ℕ). key ≤ x.0))
parts-none key (x ∷ es) e = absurd (omega arith)

-- The pairs of a map beside those of a leaf

pub pair-here : (es : List (ℕ × ℕ)) (j : ℕ) → j < length es → (get_or (keys_of es) j 0, get_or (values_of es) j 0) ≡ get_or es j (0, 0)
pair-here [] j lt = absurd (omega arith)
pair-here (e ∷ es) zero lt = refl
pair-here (e ∷ es) (suc j) lt = pair-here es j (omega arith)

pub leaf-pair : (ws : List ℕ) (es : List (ℕ × ℕ)) (p count low top : ℕ) (x : IsLeaf ws es p count low top) (j : ℕ) → j < count → pair_at ws p j ≡ get_or x.pairs j (0, 0)
leaf-pair ws es p count low top x j lt =
    ap (λ k. (k, get_or ws (at p 32 + j) 0)) (key-at ws es p count low top x j lt)
    ∙ ap (λ v. (get_or (keys_of x.pairs) j 0, v)) (value-at ws es p count low top x j lt)
    ∙ pair-here x.pairs j (omega (arith, x.long))

All-right : (P : ℕ × ℕ → Type 0) (es fs : List (ℕ × ℕ)) → All P (es ++ fs) → All P fs
All-right P [] fs a = a
All-right P (e ∷ es) fs a = All-right P es fs (All-tail P e (es ++ fs) a)

none-within : (P : ℕ × ℕ → Type 0) (es : List (ℕ × ℕ)) → ((e : ℕ × ℕ) → P e → ⊥) → All P es → es ≡ []
none-within P [] bad a = refl
none-within P (e ∷ es) bad a = absurd (bad e (All-head P e es a))

pub up-from : (ws : List ℕ) (es : List (ℕ × ℕ)) (p count low top key place : ℕ) (x : IsLeaf ws es p count low top) → low ≤ key → key ≤ top → Parts key x.pairs place → pairs_from key es ≡ drop place x.pairs ++ x.after
up-from ws es p count low top key place x le ge parts =
    ap (pairs_from key) (x.split ∙ ap (λ m. x.before ++ (m ++ x.after)) (take-drop x.pairs place) ∙ regroup x.before (take place x.pairs) (drop place x.pairs) x.after)
    ∙ from-parts key (x.before ++ take place x.pairs) (drop place x.pairs ++ x.after)
    (All-append (λ (e : ℕ × ℕ). e.0 < key) x.before (take place x.pairs) (All-weaker (λ (e : ℕ × ℕ). e.0 < low) (λ (e : ℕ × ℕ). e.0 < key) (λ e h. omega (arith, h)) x.before x.smaller) parts.0)
    (All-append (λ (e : ℕ × ℕ). key ≤ e.0) (drop place x.pairs) x.after parts.1 (All-weaker (λ (e : ℕ × ℕ). top < e.0) (λ (e : ℕ × ℕ). key ≤ e.0) (λ e h. omega (arith, h)) x.after x.greater))
  where
    regroup : (a b c d : List (ℕ × ℕ)) → a ++ ((b ++ c) ++ d) ≡ (a ++ b) ++ (c ++ d)
    regroup a b c d = simp append_assoc

pub up-next : (ws : List ℕ) (es : List (ℕ × ℕ)) (p count low top : ℕ) (x : IsLeaf ws es p count low top) → low ≤ top → pairs_from (top + 1) es ≡ x.after
up-next ws es p count low top x le =
    ap (pairs_from (top + 1)) (x.split ∙ sym (append_assoc x.before x.pairs x.after))
    ∙ from-parts (top + 1) (x.before ++ x.pairs) x.after
    (All-append (λ (e : ℕ × ℕ). e.0 < top + 1) x.before x.pairs
    (All-weaker (λ (e : ℕ × ℕ). e.0 < low) (λ (e : ℕ × ℕ). e.0 < top + 1) (λ e h. omega (arith, h)) x.before x.smaller)
    (All-weaker (λ (e : ℕ × ℕ). (low ≤ e.0) × (e.0 < top + 1)) (λ (e : ℕ × ℕ). e.0 < top + 1) (λ e h. h.1) x.pairs (Rising-within low (top + 1) x.pairs x.rising)))
    (All-weaker (λ (e : ℕ × ℕ). top < e.0) (λ (e : ℕ × ℕ). top + 1 ≤ e.0) (λ e h. omega (arith, h)) x.after x.greater)

pub up-end : (ws : List ℕ) (es : List (ℕ × ℕ)) (p count low top : ℕ) (x : IsLeaf ws es p count low top) → 2 ^ 64 ≤ top + 1 → x.after ≡ []
up-end ws es p count low top x end =
    let whole = subst (λ z. All (λ (e : ℕ × ℕ). (0 ≤ e.0) × (e.0 < 2 ^ 64)) z) x.split (Rising-within 0 (2 ^ 64) es x.rises) in
    let last = All-right (λ (e : ℕ × ℕ). (0 ≤ e.0) × (e.0 < 2 ^ 64)) x.pairs x.after (All-right (λ (e : ℕ × ℕ). (0 ≤ e.0) × (e.0 < 2 ^ 64)) x.before (x.pairs ++ x.after) whole) in
    none-within (λ (e : ℕ × ℕ). e.0 < 2 ^ 64 × (top < e.0)) x.after (λ e h. omega (arith, h.0, h.1, end)) (both x.after (All-weaker (λ (e : ℕ × ℕ). (0 ≤ e.0) × (e.0 < 2 ^ 64)) (λ (e : ℕ × ℕ). e.0 < 2 ^ 64) (λ e h. h.1) x.after last) x.greater)
  where
    both : (fs : List (ℕ × ℕ)) → All (λ (e : ℕ × ℕ). e.0 < 2 ^ 64) fs → Above top fs → All (λ (e : ℕ × ℕ). e.0 < 2 ^ 64 × (top < e.0)) fs
    both [] a b = All-nil (λ (e : ℕ × ℕ). e.0 < 2 ^ 64 × (top < e.0))
    both (f ∷ fs) a b = All-cons (λ (e : ℕ × ℕ). e.0 < 2 ^ 64 × (top < e.0)) f fs (All-head (λ (e : ℕ × ℕ). e.0 < 2 ^ 64) f fs a, All-head (λ (e : ℕ × ℕ). top < e.0) f fs b) (both fs (All-tail (λ (e : ℕ × ℕ). e.0 < 2 ^ 64) f fs a) (All-tail (λ (e : ℕ × ℕ). top < e.0) f fs b))

at-most : (key : ℕ) (es : List (ℕ × ℕ)) (i : ℕ) → ((j : ℕ) → j < i → get_or (keys_of es) j 0 ≤ key) → i ≤ length es → Below (key + 1) (take i es)
at-most key [] zero h le = All-nil (λ (e : ℕ × ℕ). e.0 < key + 1)
at-most key (e ∷ es) zero h le = All-nil (λ (e : ℕ × ℕ). e.0 < key + 1)
at-most key [] (suc i) h le = absurd (omega arith)
at-most key (e ∷ es) (suc i) h le = All-cons (λ (e : ℕ × ℕ). e.0 < key + 1) e (take i es) (omega (arith, h 0 (omega arith))) (at-most key es i (λ j lt. h (suc j) (omega arith)) (omega arith))

pub down-to : (ws : List ℕ) (es : List (ℕ × ℕ)) (p count low top key index new_low new_top : ℕ) (x : IsLeaf ws es p count low top) → low ≤ key → key ≤ top → IsPlace ws (at p 1) count key low top index new_low new_top → pairs_to key es ≡ backward (take index x.pairs) ++ backward x.before
down-to ws es p count low top key index new_low new_top x le ge place =
    let ranks = place-ranks ws (at p 1) count key low top index new_low new_top low (top + 1) x.pairs x.rising x.keys x.long place in
    ap (pairs_to key) (x.split ∙ ap (λ m. x.before ++ (m ++ x.after)) (take-drop x.pairs index) ∙ regroup x.before (take index x.pairs) (drop index x.pairs) x.after)
    ∙ to-parts key (x.before ++ take index x.pairs) (drop index x.pairs ++ x.after)
    (All-append (λ (e : ℕ × ℕ). e.0 < key + 1) x.before (take index x.pairs) (All-weaker (λ (e : ℕ × ℕ). e.0 < low) (λ (e : ℕ × ℕ). e.0 < key + 1) (λ e h. omega (arith, h)) x.before x.smaller) (at-most key x.pairs index ranks.below (omega (arith, place.within, x.long))))
    (All-append (λ (e : ℕ × ℕ). key < e.0) (drop index x.pairs) x.after (Rising-above low (top + 1) key x.pairs index x.rising ranks) (All-weaker (λ (e : ℕ × ℕ). top < e.0) (λ (e : ℕ × ℕ). key < e.0) (λ e h. omega (arith, h)) x.after x.greater))
    ∙ backward-append x.before (take index x.pairs)
  where
    regroup : (a b c d : List (ℕ × ℕ)) → a ++ ((b ++ c) ++ d) ≡ (a ++ b) ++ (c ++ d)
    regroup a b c d = simp append_assoc

pub down-next : (ws : List ℕ) (es : List (ℕ × ℕ)) (p count low top k : ℕ) (x : IsLeaf ws es p count low top) → low ≤ top → low ≡ k + 1 → pairs_to k es ≡ backward x.before
down-next ws es p count low top k x le is =
    ap (pairs_to k) x.split
    ∙ to-parts k x.before (x.pairs ++ x.after)
    (All-weaker (λ (e : ℕ × ℕ). e.0 < low) (λ (e : ℕ × ℕ). e.0 < k + 1) (λ e h. omega (arith, h)) x.before x.smaller)
    (All-append (λ (e : ℕ × ℕ). k < e.0) x.pairs x.after
    (All-weaker (λ (e : ℕ × ℕ). (low ≤ e.0) × (e.0 < top + 1)) (λ (e : ℕ × ℕ). k < e.0) (λ e h. omega (arith, h.0)) x.pairs (Rising-within low (top + 1) x.pairs x.rising))
    (All-weaker (λ (e : ℕ × ℕ). top < e.0) (λ (e : ℕ × ℕ). k < e.0) (λ e h. omega (arith, h)) x.after x.greater))

pub down-end : (ws : List ℕ) (es : List (ℕ × ℕ)) (p count low top : ℕ) (x : IsLeaf ws es p count low top) → low ≡ 0 → x.before ≡ []
down-end ws es p count low top x none = none-within (λ (e : ℕ × ℕ). e.0 < low) x.before (λ e h. omega (arith, h)) x.smaller
