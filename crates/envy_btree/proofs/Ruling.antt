-- Words that stand for a map obey the rules of the tree.
use Rattle.std.proofs.Common.{◌≡◌, ◌≢◌, ◌⊎◌, ℕ, zero, suc, ◌+◌, ◌^◌, ◌<◌, ◌≤◌, Bool, true, false, List, [], ◌∷◌, length, map, get_or, Some, refl, ap, sym, subst, ◌∙◌, inl, inr, eqb, arith}
use Rattle.std.specs.List.{All, sum_by}
use Rattle.std.proofs.lemmas.List.{get_or-map, length-map}
use Rattle.std.proofs.lemmas.List.Concat.{length-flat_map}
use Rattle.std.proofs.lemmas.List.Sums.{get_or-le-sum_by, sum_by-cons}
use Rattle.std.proofs.lemmas.List.Elements.{All-get_or, All-head, All-tail}
use Rattle.std.proofs.lemmas.Bool.{cases_lt, cases_eq, cond-true, cond-false}
use Rattle.std.proofs.lemmas.Bool.Decides.{nat_tests}
use Rattle.envy_heap.specs.Pieces.{IsHeap, at, one}
use Rattle.envy_heap.proofs.Heaps.{Chain-one, one-same, one-apart}
use Rattle.envy_btree.specs.Pairs.{assoc}
use Rattle.envy_btree.specs.Tree.{Tree, Fans, Ordered, Holds, pairs_of, piece_of, uses, window, keys_of, values_of}
use Rattle.envy_btree.specs.Index.{Stands, IsTree, IsIndex, Rooted}
use Rattle.envy_btree.specs.Rules.{key_count, kind_at, key_at, slot_at, Leads, pairs_under, InLeaf, ObeysRules}
use Rattle.envy_btree.proofs.Trees.{Rising-within, Ordered-within, low_of, high_of, low-next}
use Rattle.envy_btree.proofs.Descent.{bare, uses-root, assoc-found}
use Rattle.envy_btree.proofs.Framing.{handed-le, sum-two}
use Rattle.envy_btree.proofs.Merging.{get_or-any}
use Rattle.envy_btree.proofs.Walking.{leaf-at, inner-at, child-stands, child-assoc, Rising-keys, Fans-keys, Fans-key, reach, still_root}

-- One node

-- a node has at most 31 keys, and at least so many
count-most : (ws free : List ℕ) (root : Bool) (low high d : ℕ) (t : Tree d) → Stands ws free root low high d t → key_count ws (piece_of d t) ≤ 31
count-most ws free root low high zero t s = omega (arith, (leaf-at ws t s.holds).count, s.sized.1)
count-most ws free root low high (suc d) t s = let n = inner-at ws low high d t s.holds s.ordered in omega (arith, n.count, n.long, s.sized.1)

count-least : (ws free : List ℕ) (low high d : ℕ) (t : Tree d) → Stands ws free false low high d t → 15 ≤ key_count ws (piece_of d t)
count-least ws free low high zero t s = omega (arith, (leaf-at ws t s.holds).count, s.sized.0)
count-least ws free low high (suc d) t s = let n = inner-at ws low high d t s.holds s.ordered in omega (arith, n.count, n.long, s.sized.0)

root-least : (ws free : List ℕ) (low high d : ℕ) (t : Tree d) → Stands ws free true low high d t → kind_at ws (piece_of d t) ≡ 1 → 1 ≤ key_count ws (piece_of d t)
root-least ws free low high zero t s e = absurd (omega (arith, (leaf-at ws t s.holds).kind))
root-least ws free low high (suc d) t s e = let n = inner-at ws low high d t s.holds s.ordered in omega (arith, n.count, n.long, s.sized.0)

keys-rise : (ws free : List ℕ) (root : Bool) (low high d : ℕ) (t : Tree d) (i : ℕ) → Stands ws free root low high d t → i + 1 < key_count ws (piece_of d t) → key_at ws (piece_of d t) i < key_at ws (piece_of d t) (i + 1)
keys-rise ws free root low high zero t i s lt =
    let n = leaf-at ws t s.holds in
    let some : suc i < length t.pairs = omega (arith, n.count) in
    let up : get_or (keys_of t.pairs) i 0 < get_or (keys_of t.pairs) (suc i) 0 = Rising-keys low high t.pairs i s.ordered some in
    let next : i + 1 ≡ suc i = omega arith in
    subst (λ x. key_at ws t.piece i < key_at ws t.piece x) (sym next) (omega (arith, n.keys i (omega arith), n.keys (suc i) some))
keys-rise ws free root low high (suc d) t i s lt =
    let n = inner-at ws low high d t s.holds s.ordered in
    let some : suc i < length t.keys = omega (arith, n.count) in
    let up : get_or t.keys i 0 < get_or t.keys (suc i) 0 = Fans-keys (Ordered d) low high t.keys t.kids i s.ordered some in
    let next : i + 1 ≡ suc i = omega arith in
    subst (λ x. key_at ws t.piece i < key_at ws t.piece x) (sym next) (omega (arith, n.keys i (omega arith), n.keys (suc i) some))

-- a leaf has no level under it
leaf-depth : (ws free : List ℕ) (root : Bool) (low high d : ℕ) (t : Tree d) → Stands ws free root low high d t → kind_at ws (piece_of d t) ≡ 0 → d ≡ 0
leaf-depth ws free root low high zero t s e = refl
leaf-depth ws free root low high (suc d) t s e = absurd (omega (arith, (inner-at ws low high d t s.holds s.ordered).kind))

-- the keys of a node lie within its bounds
keys-within : (ws free : List ℕ) (root : Bool) (low high d : ℕ) (t : Tree d) (i : ℕ) → Stands ws free root low high d t → i < key_count ws (piece_of d t) → (low ≤ key_at ws (piece_of d t) i) × (key_at ws (piece_of d t) i < high)
keys-within ws free root low high zero t i s lt =
    let n = leaf-at ws t s.holds in
    let some : i < length t.pairs = omega (arith, n.count) in
    let w = All-get_or (λ (e : ℕ × ℕ). (low ≤ e.0) × (e.0 < high)) t.pairs i (0, 0) some (Rising-within low high t.pairs s.ordered) in
    let m = get_or-map (λ (e : ℕ × ℕ). e.0) t.pairs i (0, 0) 0 some in
    let k = n.keys i some in
    (omega (arith, w.0), omega (arith, w.1))
keys-within ws free root low high (suc d) t i s lt =
    let n = inner-at ws low high d t s.holds s.ordered in
    let some : i < length t.keys = omega (arith, n.count) in
    let w = Fans-key (Ordered d) low high t.keys t.kids i s.ordered some in
    let k = n.keys i some in
    (omega (arith, w.0), omega (arith, w.1))

-- the keys under a child, and its bounds
under-child : (ws free : List ℕ) (root : Bool) (low high d : ℕ) (t : Tree d) (j i : ℕ) (ks : List ℕ) (q : ℕ) → IsHeap ws free → Stands ws free root low high d t → Leads ws (piece_of d t) (j ∷ ks) q → i < key_count ws q
    → (j < key_count ws (piece_of d t) → key_at ws q i < key_at ws (piece_of d t) j) × ((m : ℕ) → j ≡ suc m → key_at ws (piece_of d t) m ≤ key_at ws q i)
under-child ws free root low high zero t j i ks q heap s w lt = absurd (omega (arith, (leaf-at ws t s.holds).kind, w.0))
under-child ws free root low high (suc d) t j i ks q heap s w lt =
    let n = inner-at ws low high d t s.holds s.ordered in
    let le : j ≤ length t.keys = omega (arith, w.1, n.count) in
    let c = get_or t.kids j (bare d) in
    let k = child-stands ws free root low high d t j s le in
    let r = reach ws free false (low_of low t.keys j) (high_of high t.keys j) d c ks q heap k (subst (λ x. Leads ws x ks q) (n.kids j le) w.2) in
    let b : (r.bottom ≤ key_at ws q i) × (key_at ws q i < r.top) = subst (λ x. (r.bottom ≤ key_at ws x i) × (key_at ws x i < r.top)) r.is (keys-within ws free (still_root false ks) r.bottom r.top r.depth r.tree i r.stands (subst (λ x. i < key_count ws x) (sym r.is) lt)) in (
      λ some. let place : j < length t.keys = omega (arith, n.count) in
          let e : high_of high t.keys j ≡ get_or t.keys j 0 = get_or-any t.keys j high 0 place in
          omega (arith, b.1, r.upper, n.keys j place),
      λ m is.
          let place : m < length t.keys = omega arith in
          let e : low_of low t.keys (suc m) ≡ get_or t.keys m 0 = low-next low t.keys m place in
          let f : low_of low t.keys j ≡ low_of low t.keys (suc m) = ap (λ x. low_of low t.keys x) is in
          omega (arith, b.0, r.lower, n.keys m place),
    )

-- Each piece once

leaf-is : (p q : ℕ) → 1 ≤ one (eqb q p) → p ≡ q
leaf-is p q some = go (cases_eq q p)
  where
    go : (q ≡ p) ⊎ (q ≢ p) → p ≡ q
    go (inl e) = sym e
    go (inr ne) = absurd (omega (arith, one-apart q p ne))

-- a piece that two children use, but is used once, is that of one child
same-place : (d : ℕ) (cs : List (Tree d)) (j k q : ℕ) → j < length cs → k < length cs → 1 ≤ uses d (get_or cs j (bare d)) q → 1 ≤ uses d (get_or cs k (bare d)) q → sum_by (λ c. uses d c q) cs ≤ 1 → j ≡ k
same-place d cs j k q lj lk a b few = go (cases_eq j k)
  where
    go : (j ≡ k) ⊎ (j ≢ k) → j ≡ k
    go (inl e) = e
    go (inr ne) = absurd (omega (arith, sum-two (λ c. uses d c q) cs j k (bare d) lj lk (λ e. ne (sym e))))

-- what a way leads to is used by the tree
used-by : (ws free : List ℕ) (root : Bool) (low high d : ℕ) (t : Tree d) (js : List ℕ) (q : ℕ) → IsHeap ws free → Stands ws free root low high d t → Leads ws (piece_of d t) js q → 1 ≤ uses d t q
used-by ws free root low high d t js q heap s w =
    let r = reach ws free root low high d t js q heap s w in
    omega (arith, r.used q, subst (λ x. 1 ≤ uses r.depth r.tree x) r.is (uses-root r.depth r.tree))

-- a node is not found under itself
not-under : (ws free : List ℕ) (root : Bool) (low high d : ℕ) (t : Tree d) (j : ℕ) (js : List ℕ) → IsHeap ws free → Stands ws free root low high d t → Leads ws (piece_of d t) (j ∷ js) (piece_of d t) → ⊥
not-under ws free root low high zero t j js heap s w = absurd (omega (arith, (leaf-at ws t s.holds).kind, w.0))
not-under ws free root low high (suc d) t j js heap s w =
    let n = inner-at ws low high d t s.holds s.ordered in
    let le : j ≤ length t.keys = omega (arith, w.1, n.count) in
    let k = child-stands ws free root low high d t j s le in
    let u = used-by ws free false (low_of low t.keys j) (high_of high t.keys j) d (get_or t.kids j (bare d)) js t.piece heap k (subst (λ x. Leads ws x js t.piece) (n.kids j le) w.2) in
    omega (arith, s.owned t.piece, handed-le ws free t.piece, one-same t.piece, get_or-le-sum_by (λ x. uses d x t.piece) t.kids j (bare d) (omega (arith, n.long)))

-- two ways to one piece are the same
pub one-way : (ws free : List ℕ) (root : Bool) (low high d : ℕ) (t : Tree d) (js ks : List ℕ) (q : ℕ) → IsHeap ws free → Stands ws free root low high d t → Leads ws (piece_of d t) js q → Leads ws (piece_of d t) ks q → js ≡ ks
one-way ws free root low high d t [] [] q heap s v w = refl
one-way ws free root low high d t [] (k ∷ ks) q heap s v w = absurd (not-under ws free root low high d t k ks heap s (subst (λ x. Leads ws (piece_of d t) (k ∷ ks) x) (sym v) w))
one-way ws free root low high d t (j ∷ js) [] q heap s v w = absurd (not-under ws free root low high d t j js heap s (subst (λ x. Leads ws (piece_of d t) (j ∷ js) x) (sym w) v))
one-way ws free root low high zero t (j ∷ js) (k ∷ ks) q heap s v w = absurd (omega (arith, (leaf-at ws t s.holds).kind, w.0))
one-way ws free root low high (suc d) t (j ∷ js) (k ∷ ks) q heap s v w =
    let n = inner-at ws low high d t s.holds s.ordered in
    let lj : j ≤ length t.keys = omega (arith, v.1, n.count) in
    let lk : k ≤ length t.keys = omega (arith, w.1, n.count) in
    let a = get_or t.kids j (bare d) in
    let b = get_or t.kids k (bare d) in
    let va : Leads ws (piece_of d a) js q = subst (λ x. Leads ws x js q) (n.kids j lj) v.2 in
    let wb : Leads ws (piece_of d b) ks q = subst (λ x. Leads ws x ks q) (n.kids k lk) w.2 in
    let sa = child-stands ws free root low high d t j s lj in
    let sb = child-stands ws free root low high d t k s lk in
    let ua = used-by ws free false (low_of low t.keys j) (high_of high t.keys j) d a js q heap sa va in
    let ub = used-by ws free false (low_of low t.keys k) (high_of high t.keys k) d b ks q heap sb wb in
    let same : j ≡ k = same-place d t.kids j k q (omega (arith, n.long)) (omega (arith, n.long)) ua ub (omega (arith, s.owned q, handed-le ws free q)) in
    let wa : Leads ws (piece_of d a) ks q = subst (λ x. Leads ws (piece_of d (get_or t.kids x (bare d))) ks q) (sym same) wb in
    let rest : js ≡ ks = one-way ws free false (low_of low t.keys j) (high_of high t.keys j) d a js ks q heap sa va wa in
    ap (λ x. x ∷ js) same ∙ ap (λ x. k ∷ x) rest

-- Every piece that is used

find-sum : {X : Type 0} (f : X → ℕ) (xs : List X) (e : X) → 1 ≤ sum_by f xs → (j : ℕ) × (j < length xs) × (1 ≤ f (get_or xs j e))
find-sum f [] e some = absurd (omega arith)
find-sum f (x ∷ xs) e some = go (cases_lt 0 (f x)) (find-sum f xs e)
  where
    go : (0 < f x) ⊎ (f x ≤ 0) → (1 ≤ sum_by f xs → (j : ℕ) × (j < length xs) × (1 ≤ f (get_or xs j e))) → (j : ℕ) × (j < length (x ∷ xs)) × (1 ≤ f (get_or (x ∷ xs) j e))
    go (inl here) more = (0, omega arith, here)
    go (inr none) more = let r = more (omega (arith, sum_by-cons f x xs)) in (suc r.0, omega (arith, r.1), r.2)

way-to : (ws free : List ℕ) (root : Bool) (low high d : ℕ) (t : Tree d) (q : ℕ) → Stands ws free root low high d t → 1 ≤ uses d t q → (js : List ℕ) × Leads ws (piece_of d t) js q
way-to ws free root low high zero t q s some = ([], leaf-is t.piece q some)
way-to ws free root low high (suc d) t q s some = go (cases_lt 0 (one (eqb q t.piece))) (λ l h c. way-to ws free false l h d c q)
  where
    go : (0 < one (eqb q t.piece)) ⊎ (one (eqb q t.piece) ≤ 0) → ((l h : ℕ) (c : Tree d) → Stands ws free false l h d c → 1 ≤ uses d c q → (js : List ℕ) × Leads ws (piece_of d c) js q) → (js : List ℕ) × Leads ws t.piece js q
    go (inl here) more = ([], leaf-is t.piece q here)
    go (inr none) more =
        let n = inner-at ws low high d t s.holds s.ordered in
        let f = find-sum (λ x. uses d x q) t.kids (bare d) (omega arith) in
        let le : f.0 ≤ length t.keys = omega (arith, f.1, n.long) in
        let r = more (low_of low t.keys f.0) (high_of high t.keys f.0) (get_or t.kids f.0 (bare d)) (child-stands ws free root low high d t f.0 s le) f.2 in
        (f.0 ∷ r.0, (n.kind, omega (arith, n.count, le), subst (λ x. Leads ws x r.0 q) (sym (n.kids f.0 le)) r.1))

-- The pairs of the leaves

sum-map-by : {X Y : Type 0} (f : Y → ℕ) (g : X → Y) (xs : List X) → sum_by f (map g xs) ≡ sum_by (λ x. f (g x)) xs
sum-map-by f g [] = refl
sum-map-by f g (x ∷ xs) = omega (arith, sum_by-cons f (g x) (map g xs), sum_by-cons (λ y. f (g y)) x xs, sum-map-by f g xs)

sums-same : {C : Type 0} (P : ℕ → ℕ → C → Type 0) (H : C → Type 0) (f g : C → ℕ) → ((l h : ℕ) (c : C) → H c → P l h c → f c ≡ g c) → (low high : ℕ) (ks : List ℕ) (cs : List C) → All H cs → Fans P low high ks cs → sum_by f cs ≡ sum_by g cs
sums-same P H f g same low high [] [] all w = absurd w
sums-same P H f g same low high [] (c ∷ []) all w = omega (arith, same low high c (All-head H c [] all) w)
sums-same P H f g same low high [] (c ∷ e ∷ cs) all w = absurd w
sums-same P H f g same low high (k ∷ ks) [] all w = absurd w
sums-same P H f g same low high (k ∷ ks) (c ∷ cs) all w = omega (arith, sum_by-cons f c cs, sum_by-cons g c cs, same low k c (All-head H c cs all) w.2, sums-same P H f g same k high ks cs (All-tail H c cs all) w.3)

-- the leaves of a tree have as many pairs as the tree
leaf-pairs : (ws : List ℕ) (low high d : ℕ) (t : Tree d) → Holds ws d t → Ordered d low high t → pairs_under d ws (piece_of d t) ≡ length (pairs_of d t)
leaf-pairs ws low high zero t h o = (leaf-at ws t h).count
leaf-pairs ws low high (suc d) t h o =
    let n = inner-at ws low high d t h o in
    let m = length-map t.kids (piece_of d) in
    let w : window ws (at t.piece 32) (key_count ws t.piece + 1) ≡ map (piece_of d) t.kids = ap (window ws (at t.piece 32)) (omega (arith, n.count, n.long)) ∙ h.0.back in
    let same : sum_by (λ c. pairs_under d ws (piece_of d c)) t.kids ≡ sum_by (λ c. length (pairs_of d c)) t.kids = sums-same (Ordered d) (Holds ws d) (λ c. pairs_under d ws (piece_of d c)) (λ c. length (pairs_of d c)) (λ l k c x y. leaf-pairs ws l k d c x y) low high t.keys t.kids h.1 o in
    ap (sum_by (pairs_under d ws)) w ∙ sum-map-by (pairs_under d ws) (piece_of d) t.kids ∙ same ∙ sym (length-flat_map (pairs_of d) t.kids)

-- a pair of a leaf is in the map
leaf-assoc : (ws free : List ℕ) (root : Bool) (low high d : ℕ) (t : Tree d) (i : ℕ) → Stands ws free root low high d t → kind_at ws (piece_of d t) ≡ 0 → i < key_count ws (piece_of d t) → assoc (key_at ws (piece_of d t) i) (pairs_of d t) ≡ Some (slot_at ws (piece_of d t) i)
leaf-assoc ws free root low high zero t i s e lt =
    let n = leaf-at ws t s.holds in
    let some : i < length t.pairs = omega (arith, n.count) in
    assoc-found low high (key_at ws t.piece i) t.pairs i some s.ordered (sym (n.keys i some)) ∙ ap Some (sym (n.values i some))
leaf-assoc ws free root low high (suc d) t i s e lt = absurd (omega (arith, (inner-at ws low high d t s.holds s.ordered).kind))

pair-in : (ws free : List ℕ) (root : Bool) (low high d : ℕ) (t : Tree d) (js : List ℕ) (q i : ℕ) → IsHeap ws free → Stands ws free root low high d t → Leads ws (piece_of d t) js q → kind_at ws q ≡ 0 → i < key_count ws q → assoc (key_at ws q i) (pairs_of d t) ≡ Some (slot_at ws q i)
pair-in ws free root low high d t js q i heap s w e lt =
    let r = reach ws free root low high d t js q heap s w in
    let kind : kind_at ws (piece_of r.depth r.tree) ≡ 0 = subst (λ x. kind_at ws x ≡ 0) (sym r.is) e in
    let within : i < key_count ws (piece_of r.depth r.tree) = subst (λ x. i < key_count ws x) (sym r.is) lt in
    let b = keys-within ws free (still_root root js) r.bottom r.top r.depth r.tree i r.stands within in
    subst (λ x. assoc (key_at ws x i) (pairs_of d t) ≡ Some (slot_at ws x i)) r.is (r.same (key_at ws (piece_of r.depth r.tree) i) b.0 b.1 ∙ leaf-assoc ws free (still_root root js) r.bottom r.top r.depth r.tree i r.stands kind within)

-- and what is in the map is a pair of a leaf

assoc-place : (key value : ℕ) (es : List (ℕ × ℕ)) → assoc key es ≡ Some value → (i : ℕ) × (i < length es) × (get_or (keys_of es) i 0 ≡ key) × (get_or (values_of es) i 0 ≡ value)
assoc-place key value [] e = absurd (let never : ⊥ = cc in never)
assoc-place key value (x ∷ xs) e = go (cases_eq x.0 key) (assoc-place key value xs)
  where
    go : (x.0 ≡ key) ⊎ (x.0 ≡ key → ⊥) → (assoc key xs ≡ Some value → (i : ℕ) × (i < length xs) × (get_or (keys_of xs) i 0 ≡ key) × (get_or (values_of xs) i 0 ≡ value)) → (i : ℕ) × (i < length (x ∷ xs)) × (get_or (keys_of (x ∷ xs)) i 0 ≡ key) × (get_or (values_of (x ∷ xs)) i 0 ≡ value)
    go (inl same) more =
        let h : eqb x.0 key ≡ true = grind (arith, nat_tests) in
        let f : Some x.1 ≡ Some value = sym (cond-true _ _ _ h) ∙ e in
        (0, omega arith, same, cc)
    go (inr other) more =
        let h : eqb x.0 key ≡ false = grind (arith, nat_tests) in
        let r = more (sym (cond-false _ _ _ h) ∙ e) in
        (suc r.0, omega (arith, r.1), r.2, r.3)

-- the child where a key belongs
child-of : {C : Type 0} (P : ℕ → ℕ → C → Type 0) (low high : ℕ) (ks : List ℕ) (cs : List C) (key : ℕ) → Fans P low high ks cs → low ≤ key → key < high → (j : ℕ) × (j ≤ length ks) × (low_of low ks j ≤ key) × (key < high_of high ks j)
child-of P low high [] cs key f a b = (0, omega arith, a, b)
child-of P low high (k ∷ ks) [] key f a b = absurd f
child-of P low high (k ∷ ks) (c ∷ cs) key f a b = go (cases_lt key k) (λ ge. child-of P k high ks cs key f.3 ge b)
  where
    go : (key < k) ⊎ (k ≤ key) → (k ≤ key → (j : ℕ) × (j ≤ length ks) × (low_of k ks j ≤ key) × (key < high_of high ks j)) → (j : ℕ) × (j ≤ length (k ∷ ks)) × (low_of low (k ∷ ks) j ≤ key) × (key < high_of high (k ∷ ks) j)
    go (inl lt) more = (0, omega arith, a, lt)
    go (inr ge) more = let r = more ge in (suc r.0, omega (arith, r.1), r.2, r.3)

pair-out : (ws free : List ℕ) (root : Bool) (low high d : ℕ) (t : Tree d) (key value : ℕ) → Stands ws free root low high d t → low ≤ key → key < high → assoc key (pairs_of d t) ≡ Some value → InLeaf ws (piece_of d t) key value
pair-out ws free root low high zero t key value s a b e =
    let n = leaf-at ws t s.holds in
    let r = assoc-place key value t.pairs e in
    record {
      way = [];
      leaf = t.piece;
      place = r.0;
      leads = refl;
      kind = n.kind;
      within = omega (arith, n.count, r.1);
      key_is = n.keys r.0 r.1 ∙ r.2;
      value_is = n.values r.0 r.1 ∙ r.3;
    }
pair-out ws free root low high (suc d) t key value s a b e =
    let n = inner-at ws low high d t s.holds s.ordered in
    let j = child-of (Ordered d) low high t.keys t.kids key s.ordered a b in
    let c = get_or t.kids j.0 (bare d) in
    let r = pair-out ws free false (low_of low t.keys j.0) (high_of high t.keys j.0) d c key value (child-stands ws free root low high d t j.0 s j.1) j.2 j.3 (sym (child-assoc ws free root low high d t j.0 s j.1 key j.2 j.3) ∙ e) in
    record {
      way = j.0 ∷ r.way;
      leaf = r.leaf;
      place = r.place;
      leads = (n.kind, omega (arith, n.count, j.1), subst (λ x. Leads ws x r.way r.leaf) (sym (n.kids j.0 j.1)) r.leads);
      kind = r.kind;
      within = r.within;
      key_is = r.key_is;
      value_is = r.value_is;
    }

key-below : (d : ℕ) (t : Tree d) (key value : ℕ) → Ordered d 0 (2 ^ 64) t → assoc key (pairs_of d t) ≡ Some value → key < 2 ^ 64
key-below d t key value o a =
    let r = assoc-place key value (pairs_of d t) a in
    let w = All-get_or (λ (e : ℕ × ℕ). (0 ≤ e.0) × (e.0 < 2 ^ 64)) (pairs_of d t) r.0 (0, 0) r.1 (Ordered-within d 0 (2 ^ 64) t o) in
    let m = get_or-map (λ (e : ℕ × ℕ). e.0) (pairs_of d t) r.0 (0, 0) 0 r.1 in
    omega (arith, w.1, r.2)

-- All rules

obeys : (ws free : List ℕ) (d : ℕ) (t : Tree d) (es : List (ℕ × ℕ)) → IsHeap ws free → IsTree ws free d t → es ≡ pairs_of d t → get_or ws 3 0 ≡ length es → ObeysRules ws free (piece_of d t) es
obeys ws free d t es heap tree e count =
    let s : Stands ws free true 0 (2 ^ 64) d t = tree.stands in
    record {
      most = λ js q w. let r = reach ws free true 0 (2 ^ 64) d t js q heap s w in subst (λ x. key_count ws x ≤ 31) r.is (count-most ws free (still_root true js) r.bottom r.top r.depth r.tree r.stands);
      least = λ j js q w. let r = reach ws free true 0 (2 ^ 64) d t (j ∷ js) q heap s w in subst (λ x. 15 ≤ key_count ws x) r.is (count-least ws free r.bottom r.top r.depth r.tree r.stands);
      root_least = root-least ws free 0 (2 ^ 64) d t s;
      rising = λ js q i w lt. let r = reach ws free true 0 (2 ^ 64) d t js q heap s w in subst (λ x. key_at ws x i < key_at ws x (i + 1)) r.is (keys-rise ws free (still_root true js) r.bottom r.top r.depth r.tree i r.stands (subst (λ x. i + 1 < key_count ws x) (sym r.is) lt));
      deep = λ js ks p q v w ep eq.
          let a = reach ws free true 0 (2 ^ 64) d t js p heap s v in
          let b = reach ws free true 0 (2 ^ 64) d t ks q heap s w in
          omega (arith, a.deep, b.deep, leaf-depth ws free (still_root true js) a.bottom a.top a.depth a.tree a.stands (subst (λ x. kind_at ws x ≡ 0) (sym a.is) ep), leaf-depth ws free (still_root true ks) b.bottom b.top b.depth b.tree b.stands (subst (λ x. kind_at ws x ≡ 0) (sym b.is) eq));
      above = λ js ks p q j i v w place lt.
          let r = reach ws free true 0 (2 ^ 64) d t js p heap s v in
          subst (λ x. key_at ws q i < key_at ws x j) r.is ((under-child ws free (still_root true js) r.bottom r.top r.depth r.tree j i ks q heap r.stands (subst (λ x. Leads ws x (j ∷ ks) q) (sym r.is) w) lt).0 (subst (λ x. j < key_count ws x) (sym r.is) place));
      at_most = λ js ks p q j i v w lt.
          let r = reach ws free true 0 (2 ^ 64) d t js p heap s v in
          subst (λ x. key_at ws x j ≤ key_at ws q i) r.is ((under-child ws free (still_root true js) r.bottom r.top r.depth r.tree (suc j) i ks q heap r.stands (subst (λ x. Leads ws x (suc j ∷ ks) q) (sym r.is) w) lt).1 j refl);
      named = λ js q w. omega (arith, used-by ws free true 0 (2 ^ 64) d t js q heap s w, s.owned q, handed-le ws free q);
      all = λ q out. way-to ws free true 0 (2 ^ 64) d t q s (omega (arith, tree.all q));
      once = λ js ks q v w. one-way ws free true 0 (2 ^ 64) d t js ks q heap s v w;
      pairs_in = λ key value l. subst (λ x. assoc key x ≡ Some value) (sym e) (subst (λ x. assoc key (pairs_of d t) ≡ Some x) l.value_is (subst (λ x. assoc x (pairs_of d t) ≡ Some (slot_at ws l.leaf l.place)) l.key_is (pair-in ws free true 0 (2 ^ 64) d t l.way l.leaf l.place heap s l.leads l.kind l.within)));
      pairs_out = λ key value a. let f : assoc key (pairs_of d t) ≡ Some value = subst (λ x. assoc key x ≡ Some value) e a in let b = key-below d t key value s.ordered f in pair-out ws free true 0 (2 ^ 64) d t key value s (omega arith) b f;
      count = λ js q w k.
          let r = reach ws free true 0 (2 ^ 64) d t js q heap s w in
          let z = leaf-depth ws free (still_root true js) r.bottom r.top r.depth r.tree r.stands (subst (λ x. kind_at ws x ≡ 0) (sym r.is) k) in
          let l : length js ≡ d = omega (arith, r.deep) in
          count ∙ ap length e ∙ sym (leaf-pairs ws 0 (2 ^ 64) d t s.holds s.ordered) ∙ ap (λ x. pairs_under x ws (piece_of d t)) (sym l);
    }

pub index-obeys : (ws free : List ℕ) (root : ℕ) (es : List (ℕ × ℕ)) → IsIndex ws es → IsHeap ws free → get_or ws 0 0 ≡ root + 1 → ObeysRules ws free root es
index-obeys ws free root es i heap named = go i.planted.tree
  where
    go : Rooted ws i.planted.free es → ObeysRules ws free root es
    go (inl none) = absurd (omega (arith, none.0))
    go (inr (d, t, tree, e)) =
        let same : i.planted.free ≡ free = Chain-one ws (get_or ws 1 0) i.planted.free free i.planted.heap.chain heap.chain in
        let r : piece_of d t ≡ root = omega (arith, tree.root) in
        subst (λ x. ObeysRules ws x root es) same (subst (λ x. ObeysRules ws i.planted.free x es) r (obeys ws i.planted.free d t es i.planted.heap tree e i.count))
