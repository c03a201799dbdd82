-- What writing a node as two makes of a tree.
use Rattle.std.proofs.Common.{◌≡◌, ◌≢◌, ℕ, zero, suc, ◌+◌, ◌-◌, ◌<◌, ◌≤◌, Bool, true, false, List, [], ◌∷◌, ◌++◌, length, take, drop, get_or, refl, ap, sym, subst, ◌∙◌, eqb, arith}
use Rattle.std.proofs.lemmas.List.{length-take, length-drop, length-map, take-map, drop-map}
use Rattle.std.specs.List.{All, flat_map, sum_by}
use Rattle.std.proofs.lemmas.List.Concat.{flat_map-append}
use Rattle.std.proofs.lemmas.List.Sums.{get_or-le-sum_by, sum_by-take-drop}
use Rattle.std.proofs.lemmas.List.Elements.{All-get_or, All-take, All-drop, All-from_get_or}
use Rattle.envy_heap.specs.Pieces.{IsHeap, handed, at, one}
use Rattle.envy_heap.proofs.Heaps.{one-same}
use Rattle.envy_btree.specs.Tree.{Tree, pairs_of, Rising, Fans, Ordered, Sized, Holds, uses, piece_of, Shows, keys_of, values_of, fewest}
use Rattle.envy_btree.specs.Nodes.{kind_of, is_inner, keys_in, slots_in, width, Loose, KidsSized}
use Rattle.envy_btree.proofs.Descent.{bare, take-drop}
use Rattle.envy_btree.proofs.Trees.{Rising-split, Fans-split, Fans-at, Fans-long, low_of, high_of}
use Rattle.envy_btree.proofs.Framing.{Holds-same, handed-le, handed-within}

drop-here : (es : List (ℕ × ℕ)) (j : ℕ) → j < length es → drop j es ≡ (get_or (keys_of es) j 0, get_or (values_of es) j 0) ∷ drop (suc j) es
drop-here [] j lt = absurd (omega arith)
drop-here (e ∷ es) zero lt = refl
drop-here (e ∷ es) (suc j) lt = drop-here es j (omega arith)

Rising-room : (low high : ℕ) (es : List (ℕ × ℕ)) → 0 < length es → Rising low high es → low < high
Rising-room low high [] lt r = absurd (omega arith)
Rising-room low high (e ∷ es) lt r = omega (arith, r.0, r.1)

-- what leaves the other pieces leaves the children
kids-carried : (mid new next : List ℕ) (p low high d : ℕ) (ks : List ℕ) (cs : List (Tree d)) → IsHeap mid next → length new ≡ length mid → All (Holds mid d) cs → Fans (Ordered d) low high ks cs → All (Sized false d) cs → ((q : ℕ) → one (eqb q p) + sum_by (λ c. uses d c q) cs ≤ handed mid next q)
    → ((x i : ℕ) → i < 64 → 1 ≤ sum_by (λ c. uses d c x) cs → x ≢ p → get_or new (at x i) 0 ≡ get_or mid (at x i) 0) → All (Holds new d) cs
kids-carried mid new next p low high d ks cs heap long hold fans sized owned others = All-from_get_or (Holds new d) cs (bare d) child
  where
    child : (j : ℕ) → j < length cs → Holds new d (get_or cs j (bare d))
    child j lj =
        let c = get_or cs j (bare d) in
        let out : (q : ℕ) → 1 ≤ uses d c q → 1 ≤ handed mid next q = λ q some. omega (arith, owned q, get_or-le-sum_by (λ x. uses d x q) cs j (bare d) lj) in
        let apart : (q : ℕ) → 1 ≤ uses d c q → q ≢ p = λ q some same. absurd (let h : one (eqb q p) ≡ 1 = subst (λ x. one (eqb q x) ≡ 1) same (one-same q) in omega (arith, owned q, handed-le mid next q, get_or-le-sum_by (λ x. uses d x q) cs j (bare d) lj)) in
        Holds-same mid new false (low_of low ks j) (high_of high ks j) d c (λ q some. handed-within mid new next q heap long (out q some)) (λ q i lt some. others q i lt (omega (arith, get_or-le-sum_by (λ x. uses d x q) cs j (bare d) lj)) (apart q some)) (Fans-at (Ordered d) low high ks cs j (bare d) (omega (arith, lj, Fans-long (Ordered d) low high ks cs fans)) fans) (All-get_or (Sized false d) cs j (bare d) lj sized) (All-get_or (Holds mid d) cs j (bare d) lj hold)

-- what leaves the pieces but the root's leaves the trees under it
pub loose-kept : (mid new next : List ℕ) (low high d : ℕ) (t : Tree d) → IsHeap mid next → length new ≡ length mid → Loose mid d t → Ordered d low high t → KidsSized d t → ((q : ℕ) → uses d t q ≤ handed mid next q)
    → ((x i : ℕ) → i < 64 → 1 ≤ uses d t x → x ≢ piece_of d t → get_or new (at x i) 0 ≡ get_or mid (at x i) 0) → Loose new d t
loose-kept mid new next low high zero t heap long hold o sized owned others = tt
loose-kept mid new next low high (suc d) t heap long hold o sized owned others = kids-carried mid new next t.piece low high d t.keys t.kids heap long hold o sized owned (λ x i lt some ne. others x i lt (omega arith) ne)

pub keys-long : (low high d : ℕ) (t : Tree d) → Ordered d low high t → length (keys_in d t) + kind_of d ≡ width d t
keys-long low high zero t o = omega (arith, length-map t.pairs (λ (e : ℕ × ℕ). e.0))
keys-long low high (suc d) t o = omega (arith, Fans-long (Ordered d) low high t.keys t.kids o)

pub slots-long : (d : ℕ) (t : Tree d) → length (slots_in d t) ≡ width d t
slots-long zero t = length-map t.pairs (λ (e : ℕ × ℕ). e.1)
slots-long (suc d) t = length-map t.kids (piece_of d)

pub kind-le : (d : ℕ) → kind_of d ≤ 1
kind-le zero = omega arith
kind-le (suc d) = omega arith

pub one-kind : (d : ℕ) → one (is_inner d) ≡ kind_of d
one-kind zero = refl
one-kind (suc d) = refl

pub fewest-le : (root : Bool) (d : ℕ) → fewest root d ≤ 16
fewest-le true zero = omega arith
fewest-le false zero = omega arith
fewest-le true (suc d) = omega arith
fewest-le false (suc d) = omega arith

pub Sized-of : (root : Bool) (d : ℕ) (t : Tree d) → fewest root d ≤ width d t → width d t ≤ 31 + kind_of d → KidsSized d t → Sized root d t
Sized-of root zero t low high k = (low, omega arith)
Sized-of root (suc d) t low high k = (low, omega arith, k)

pub Holds-of : (ws : List ℕ) (d : ℕ) (t : Tree d) → Shows ws (piece_of d t) (kind_of d) (keys_in d t) (slots_in d t) → Loose ws d t → Holds ws d t
Holds-of ws zero t s l = s
Holds-of ws (suc d) t s l = (s, l)

keys-split : (ks : List ℕ) (j k : ℕ) → j < length ks → k ≡ get_or ks j 0 → ks ≡ take j ks ++ k ∷ drop (suc j) ks
keys-split [] j k lt e = absurd (omega arith)
keys-split (x ∷ ks) zero k lt e = ap (λ y. y ∷ ks) (sym e)
keys-split (x ∷ ks) (suc j) k lt e = ap (λ y. x ∷ y) (keys-split ks j k (omega arith) e)

-- the two halves of a tree's root, m pairs or children in the first
abbrev pub fore : (d m : ℕ) → Tree d → Tree d
fore zero m t = record { piece = t.piece; pairs = take m t.pairs }
fore (suc d) m t = record { piece = t.piece; keys = take (m - 1) t.keys; kids = take m t.kids }

abbrev pub hind : (d m q : ℕ) → Tree d → Tree d
hind zero m q t = record { piece = q; pairs = drop m t.pairs }
hind (suc d) m q t = record { piece = q; keys = drop m t.keys; kids = drop m t.kids }

pub fore-piece : (d m : ℕ) (t : Tree d) → piece_of d (fore d m t) ≡ piece_of d t
fore-piece zero m t = refl
fore-piece (suc d) m t = refl

pub hind-piece : (d m q : ℕ) (t : Tree d) → piece_of d (hind d m q t) ≡ q
hind-piece zero m q t = refl
hind-piece (suc d) m q t = refl

pub halves-pairs : (d m q : ℕ) (t : Tree d) → pairs_of d (fore d m t) ++ pairs_of d (hind d m q t) ≡ pairs_of d t
halves-pairs zero m q t = sym (take-drop t.pairs m)
halves-pairs (suc d) m q t = sym (flat_map-append (pairs_of d) (take m t.kids) (drop m t.kids)) ∙ ap (flat_map (pairs_of d)) (sym (take-drop t.kids m))

pub halves-uses : (d m q x : ℕ) (t : Tree d) → uses d (fore d m t) x + uses d (hind d m q t) x ≡ uses d t x + one (eqb x q)
halves-uses zero m q x t = refl
halves-uses (suc d) m q x t = omega (arith, sum_by-take-drop (λ c. uses d c x) t.kids m)

-- the halves are trees, parted by the key
pub record Twins (new : List ℕ) (low high key d : ℕ) (l r : Tree d) : Type 0 where
  pub above : low < key
  pub below : key < high
  pub front : Holds new d l
  pub rear : Holds new d r
  pub front_ordered : Ordered d low key l
  pub rear_ordered : Ordered d key high r
  pub front_sized : Sized false d l
  pub rear_sized : Sized false d r

pub twins : (new : List ℕ) (low high key d m q : ℕ) (t : Tree d) → Shows new (piece_of d t) (kind_of d) (take (m - kind_of d) (keys_in d t)) (take m (slots_in d t)) → Shows new q (kind_of d) (drop m (keys_in d t)) (drop m (slots_in d t))
    → Loose new d t → Ordered d low high t → KidsSized d t → 16 ≤ m → m ≤ 31 → m + 16 ≤ width d t → width d t ≤ m + 31 → key ≡ get_or (keys_in d t) (m - kind_of d) 0 → Twins new low high key d (fore d m t) (hind d m q t)
twins new low high key zero m q t front rear loose o k least most enough few parts =
    let es = t.pairs in
    let same : m - 0 ≡ m = omega arith in
    let value : ℕ = get_or (values_of es) m 0 in
    let rest : drop m es ≡ (key, value) ∷ drop (suc m) es = drop-here es m (omega arith) ∙ ap (λ k. (k, value) ∷ drop (suc m) es) (sym (parts ∙ ap (λ x. get_or (keys_of es) x 0) same)) in
    let split = Rising-split low high (take m es) (key, value) (drop (suc m) es) (subst (λ x. Rising low high x) (take-drop es m ∙ ap (λ x. take m es ++ x) rest) o) in
    let left_long : length (take m es) ≡ m = omega (arith, length-take m es) in
    let right_long : length (drop m es) ≡ length es - m = length-drop m es in
    record {
      above = Rising-room low key (take m es) (omega arith) split.0;
      below = split.1.1;
      front = subst (λ x. Shows new t.piece 0 x (values_of (take m es))) (take-map (λ (e : ℕ × ℕ). e.0) m es) (subst (λ x. Shows new t.piece 0 (take m (keys_of es)) x) (take-map (λ (e : ℕ × ℕ). e.1) m es) (subst (λ x. Shows new t.piece 0 (take x (keys_of es)) (take m (values_of es))) same front));
      rear = subst (λ x. Shows new q 0 x (values_of (drop m es))) (drop-map (λ (e : ℕ × ℕ). e.0) m es) (subst (λ x. Shows new q 0 (drop m (keys_of es)) x) (drop-map (λ (e : ℕ × ℕ). e.1) m es) rear);
      front_ordered = split.0;
      rear_ordered = subst (λ x. Rising key high x) (sym rest) split.1;
      front_sized = (omega arith, omega arith);
      rear_sized = (omega arith, omega arith);
    }
twins new low high key (suc d) m q t front rear loose o k least most enough few parts =
    let long : length t.kids ≡ length t.keys + 1 = Fans-long (Ordered d) low high t.keys t.kids o in
    let next : suc (m - 1) ≡ m = omega arith in
    let left_keys : length (take (m - 1) t.keys) ≡ m - 1 = omega (arith, length-take (m - 1) t.keys) in
    let left_kids : length (take m t.kids) ≡ m = omega (arith, length-take m t.kids) in
    let right_kids : length (drop m t.kids) ≡ length t.kids - m = length-drop m t.kids in
    let split : t.keys ≡ take (m - 1) t.keys ++ key ∷ drop m t.keys = subst (λ x. t.keys ≡ take (m - 1) t.keys ++ key ∷ drop x t.keys) next (keys-split t.keys (m - 1) key (omega arith) parts) in
    let parted = Fans-split (Ordered d) low high key (take (m - 1) t.keys) (drop m t.keys) (take m t.kids) (drop m t.kids) (omega arith) (subst (λ x. Fans (Ordered d) low high x (take m t.kids ++ drop m t.kids)) split (subst (λ x. Fans (Ordered d) low high t.keys x) (take-drop t.kids m) o)) in
    record {
      above = parted.0;
      below = parted.1;
      front = (subst (λ x. Shows new t.piece 1 (take (m - 1) t.keys) x) (take-map (piece_of d) m t.kids) front, All-take (Holds new d) m t.kids loose);
      rear = (subst (λ x. Shows new q 1 (drop m t.keys) x) (drop-map (piece_of d) m t.kids) rear, All-drop (Holds new d) m t.kids loose);
      front_ordered = parted.2;
      rear_ordered = parted.3;
      front_sized = (omega arith, omega arith, All-take (Sized false d) m t.kids k);
      rear_sized = (omega arith, omega arith, All-drop (Sized false d) m t.kids k);
    }
