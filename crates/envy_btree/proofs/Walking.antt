-- Ways down a tree that the words hold.
use Rattle.std.proofs.Common.{◌≡◌, ℕ, zero, suc, ◌+◌, ◌<◌, ◌≤◌, Bool, false, List, [], ◌∷◌, length, map, take, drop, get_or, refl, ap, sym, subst, ◌∙◌, arith}
use Rattle.std.specs.List.{flat_map}
use Rattle.std.proofs.lemmas.List.{get_or-map, length-map, set-get_or}
use Rattle.std.proofs.lemmas.List.Sums.{get_or-le-sum_by}
use Rattle.std.proofs.lemmas.List.Elements.{All-get_or}
use Rattle.envy_heap.specs.Pieces.{IsHeap, at}
use Rattle.envy_btree.specs.Pairs.{assoc}
use Rattle.envy_btree.specs.Tree.{Tree, Fans, Rising, Ordered, Sized, Holds, pairs_of, piece_of, uses, keys_of, values_of}
use Rattle.envy_btree.specs.Nodes.{Ranks}
use Rattle.envy_btree.specs.Index.{Stands}
use Rattle.envy_btree.specs.Rules.{key_count, kind_at, key_at, slot_at, Leads}
use Rattle.envy_btree.proofs.Trees.{Fans-long, Fans-at, Fans-before, Fans-after, Ordered-within, low_of, high_of}
use Rattle.envy_btree.proofs.Descent.{bare, around, assoc-mid}
use Rattle.envy_btree.proofs.Writing.{window-at}

-- A node, and where it stands

-- a leaf by its words
pub record LeafAt (ws : List ℕ) (p : ℕ) (es : List (ℕ × ℕ)) : Type 0 where
  pub kind : kind_at ws p ≡ 0
  pub count : key_count ws p ≡ length es
  pub keys : (i : ℕ) → i < length es → key_at ws p i ≡ get_or (keys_of es) i 0
  pub values : (i : ℕ) → i < length es → slot_at ws p i ≡ get_or (values_of es) i 0

pub leaf-at : (ws : List ℕ) (t : Tree zero) → Holds ws zero t → LeafAt ws t.piece t.pairs
leaf-at ws t h =
    let n = length-map t.pairs (λ (e : ℕ × ℕ). e.0) in
    let m = length-map t.pairs (λ (e : ℕ × ℕ). e.1) in
    record {
      kind = omega (arith, h.count);
      count = omega (arith, h.count);
      keys = λ i lt. window-at ws (at t.piece 1) (length (keys_of t.pairs)) i (keys_of t.pairs) h.front (omega arith);
      values = λ i lt. window-at ws (at t.piece 32) (length (values_of t.pairs)) i (values_of t.pairs) h.back (omega arith);
    }

-- an inner node by its words
pub record InnerAt (ws : List ℕ) (d : ℕ) (t : Tree (suc d)) : Type 0 where
  pub kind : kind_at ws t.piece ≡ 1
  pub count : key_count ws t.piece ≡ length t.keys
  pub long : length t.kids ≡ length t.keys + 1
  pub keys : (i : ℕ) → i < length t.keys → key_at ws t.piece i ≡ get_or t.keys i 0
  pub kids : (j : ℕ) → j ≤ length t.keys → slot_at ws t.piece j ≡ piece_of d (get_or t.kids j (bare d))

pub inner-at : (ws : List ℕ) (low high d : ℕ) (t : Tree (suc d)) → Holds ws (suc d) t → Ordered (suc d) low high t → InnerAt ws d t
inner-at ws low high d t h o =
    let long = Fans-long (Ordered d) low high t.keys t.kids o in
    let m = length-map t.kids (piece_of d) in
    record {
      kind = omega (arith, h.0.count);
      count = omega (arith, h.0.count);
      long = long;
      keys = λ i lt. window-at ws (at t.piece 1) (length t.keys) i t.keys h.0.front lt;
      kids = λ j le. window-at ws (at t.piece 32) (length (map (piece_of d) t.kids)) j (map (piece_of d) t.kids) h.0.back (omega arith) ∙ get_or-map (piece_of d) t.kids j (bare d) 0 (omega arith);
    }

-- child j of an inner node
pub child-stands : (ws free : List ℕ) (root : Bool) (low high d : ℕ) (t : Tree (suc d)) (j : ℕ) → Stands ws free root low high (suc d) t → j ≤ length t.keys → Stands ws free false (low_of low t.keys j) (high_of high t.keys j) d (get_or t.kids j (bare d))
child-stands ws free root low high d t j s le =
    let long = Fans-long (Ordered d) low high t.keys t.kids s.ordered in
    let lt : j < length t.kids = omega arith in
    record {
      holds = All-get_or (Holds ws d) t.kids j (bare d) lt s.holds.1;
      ordered = Fans-at (Ordered d) low high t.keys t.kids j (bare d) le s.ordered;
      sized = All-get_or (Sized false d) t.kids j (bare d) lt s.sized.2;
      owned = λ q. omega (arith, s.owned q, get_or-le-sum_by (λ x. uses d x q) t.kids j (bare d) lt);
    }

-- the bounds of a child lie within those of its parent
pub Fans-bounds : {C : Type 0} (P : ℕ → ℕ → C → Type 0) (low high : ℕ) (ks : List ℕ) (cs : List C) (j : ℕ) → Fans P low high ks cs → (low ≤ low_of low ks j) × (high_of high ks j ≤ high)
Fans-bounds P low high [] cs zero f = (omega arith, omega arith)
Fans-bounds P low high [] cs (suc j) f = (omega arith, omega arith)
Fans-bounds P low high (k ∷ ks) [] j f = absurd f
Fans-bounds P low high (k ∷ ks) (c ∷ cs) zero f = (omega arith, omega (arith, f.1))
Fans-bounds P low high (k ∷ ks) (c ∷ cs) (suc j) f = let b = Fans-bounds P k high ks cs j f.3 in (omega (arith, f.0, b.0), b.1)

Ranks-more : (key k : ℕ) (ks : List ℕ) (j : ℕ) → k ≤ key → Ranks key ks j → Ranks key (k ∷ ks) (suc j)
Ranks-more key k ks j le r = record { within = omega (arith, r.within); below = below; above = λ lt. r.above (omega arith) }
  where
    below : (i : ℕ) → i < suc j → get_or (k ∷ ks) i 0 ≤ key
    below zero lt = le
    below (suc i) lt = r.below i (omega arith)

-- a key within the bounds of a child belongs there
pub Fans-ranks : {C : Type 0} (P : ℕ → ℕ → C → Type 0) (low high : ℕ) (ks : List ℕ) (cs : List C) (j key : ℕ) → Fans P low high ks cs → j ≤ length ks → low_of low ks j ≤ key → key < high_of high ks j → Ranks key ks j
Fans-ranks P low high [] cs zero key f le a b = record { within = le; below = λ i lt. absurd (omega arith); above = λ lt. absurd (omega arith) }
Fans-ranks P low high [] cs (suc j) key f le a b = absurd (omega arith)
Fans-ranks P low high (k ∷ ks) [] j key f le a b = absurd f
Fans-ranks P low high (k ∷ ks) (c ∷ cs) zero key f le a b = record { within = le; below = λ i lt. absurd (omega arith); above = λ lt. b }
Fans-ranks P low high (k ∷ ks) (c ∷ cs) (suc j) key f le a b =
    let r = Fans-ranks P k high ks cs j key f.3 (omega arith) a b in
    let w = Fans-bounds P k high ks cs j f.3 in
    Ranks-more key k ks j (omega (arith, w.0)) r

-- Keys rise

pub Rising-keys : (low high : ℕ) (es : List (ℕ × ℕ)) (i : ℕ) → Rising low high es → suc i < length es → get_or (keys_of es) i 0 < get_or (keys_of es) (suc i) 0
Rising-keys low high [] i r lt = absurd (omega arith)
Rising-keys low high (e ∷ []) i r lt = absurd (omega arith)
Rising-keys low high (e ∷ f ∷ es) zero r lt = omega (arith, r.2.0)
Rising-keys low high (e ∷ f ∷ es) (suc i) r lt = Rising-keys (e.0 + 1) high (f ∷ es) i r.2 (omega arith)

pub Fans-keys : {C : Type 0} (P : ℕ → ℕ → C → Type 0) (low high : ℕ) (ks : List ℕ) (cs : List C) (i : ℕ) → Fans P low high ks cs → suc i < length ks → get_or ks i 0 < get_or ks (suc i) 0
Fans-keys P low high [] cs i f lt = absurd (omega arith)
Fans-keys P low high (k ∷ []) cs i f lt = absurd (omega arith)
Fans-keys P low high (k ∷ l ∷ ks) [] i f lt = absurd f
Fans-keys P low high (k ∷ l ∷ ks) (c ∷ []) i f lt = absurd f.3
Fans-keys P low high (k ∷ l ∷ ks) (c ∷ e ∷ cs) zero f lt = f.3.0
Fans-keys P low high (k ∷ l ∷ ks) (c ∷ e ∷ cs) (suc i) f lt = Fans-keys P k high (l ∷ ks) (e ∷ cs) i f.3 (omega arith)

-- the keys of an inner node lie within its bounds
pub Fans-key : {C : Type 0} (P : ℕ → ℕ → C → Type 0) (low high : ℕ) (ks : List ℕ) (cs : List C) (i : ℕ) → Fans P low high ks cs → i < length ks → (low < get_or ks i 0) × (get_or ks i 0 < high)
Fans-key P low high [] cs i f lt = absurd (omega arith)
Fans-key P low high (k ∷ ks) [] i f lt = absurd f
Fans-key P low high (k ∷ ks) (c ∷ cs) zero f lt = (f.0, f.1)
Fans-key P low high (k ∷ ks) (c ∷ cs) (suc i) f lt = let r = Fans-key P k high ks cs i f.3 (omega arith) in (omega (arith, f.0, r.0), r.1)

-- the look-up of a key within the bounds of a child is that in the child
pub child-assoc : (ws free : List ℕ) (root : Bool) (low high d : ℕ) (t : Tree (suc d)) (j : ℕ) → Stands ws free root low high (suc d) t → j ≤ length t.keys → (key : ℕ) → low_of low t.keys j ≤ key → key < high_of high t.keys j → assoc key (pairs_of (suc d) t) ≡ assoc key (pairs_of d (get_or t.kids j (bare d)))
child-assoc ws free root low high d t j s le key a b =
    let c = get_or t.kids j (bare d) in
    let lt : j < length t.kids = omega (arith, Fans-long (Ordered d) low high t.keys t.kids s.ordered) in
    let r : Ranks key t.keys j = Fans-ranks (Ordered d) low high t.keys t.kids j key s.ordered le a b in
    let split = sym (ap (flat_map (pairs_of d)) (set-get_or t.kids j (bare d))) ∙ around (pairs_of d) t.kids j c lt in
    let before = Fans-before (Ordered d) (pairs_of d) (Ordered-within d) key low high t.keys t.kids j r s.ordered in
    let after = Fans-after (Ordered d) (pairs_of d) (Ordered-within d) key low high t.keys t.kids j r s.ordered in
    ap (assoc key) split ∙ assoc-mid key (flat_map (pairs_of d) (take j t.kids)) (pairs_of d c) (flat_map (pairs_of d) (drop (suc j) t.kids)) before after

-- What a way leads to

-- only the end of the empty way may be the root
abbrev pub still_root : Bool → List ℕ → Bool
still_root root [] = root
still_root root (j ∷ js) = false

still-false : (js : List ℕ) → still_root false js ≡ false
still-false [] = refl
still-false (j ∷ js) = refl

-- the tree under its end
pub record Reaches (ws free : List ℕ) (root : Bool) (low high d : ℕ) (t : Tree d) (js : List ℕ) (q : ℕ) : Type 0 where
  pub depth : ℕ
  pub tree : Tree depth
  pub bottom : ℕ
  pub top : ℕ
  pub stands : Stands ws free (still_root root js) bottom top depth tree
  pub is : piece_of depth tree ≡ q
  pub deep : d ≡ depth + length js
  pub lower : low ≤ bottom
  pub upper : top ≤ high
  pub used : (x : ℕ) → uses depth tree x ≤ uses d t x
  pub same : (key : ℕ) → bottom ≤ key → key < top → assoc key (pairs_of d t) ≡ assoc key (pairs_of depth tree)

pub reach : (ws free : List ℕ) (root : Bool) (low high d : ℕ) (t : Tree d) (js : List ℕ) (q : ℕ) → IsHeap ws free → Stands ws free root low high d t → Leads ws (piece_of d t) js q → Reaches ws free root low high d t js q
reach ws free root low high d t [] q heap s e = record {
  depth = d;
  tree = t;
  bottom = low;
  top = high;
  stands = s;
  is = e;
  deep = omega arith;
  lower = omega arith;
  upper = omega arith;
  used = λ x. omega arith;
  same = λ key a b. refl;
}
reach ws free root low high zero t (j ∷ js) q heap s w = let n = leaf-at ws t s.holds in absurd (omega (arith, n.kind, w.0))
reach ws free root low high (suc d) t (j ∷ js) q heap s w =
    let n = inner-at ws low high d t s.holds s.ordered in
    let le : j ≤ length t.keys = omega (arith, w.1, n.count) in
    let c = get_or t.kids j (bare d) in
    let k = child-stands ws free root low high d t j s le in
    let r = reach ws free false (low_of low t.keys j) (high_of high t.keys j) d c js q heap k (subst (λ x. Leads ws x js q) (n.kids j le) w.2) in
    let b = Fans-bounds (Ordered d) low high t.keys t.kids j s.ordered in
    record {
      depth = r.depth;
      tree = r.tree;
      bottom = r.bottom;
      top = r.top;
      stands = subst (λ x. Stands ws free x r.bottom r.top r.depth r.tree) (still-false js) r.stands;
      is = r.is;
      deep = omega (arith, r.deep);
      lower = omega (arith, r.lower, b.0);
      upper = omega (arith, r.upper, b.1);
      used = λ x. omega (arith, r.used x, get_or-le-sum_by (λ v. uses d v x) t.kids j (bare d) (omega (arith, n.long)));
      same = λ key a z. child-assoc ws free root low high d t j s le key (omega (arith, r.lower)) (omega (arith, r.upper)) ∙ r.same key a z;
    }
