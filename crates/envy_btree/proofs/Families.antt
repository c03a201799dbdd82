-- Children of one node, two neighbours among them written anew.
use Rattle.std.proofs.Common.{◌≡◌, ◌≢◌, ℕ, suc, ◌+◌, ◌<◌, ◌≤◌, Bool, false, List, ◌∷◌, length, map, get_or, set, ap, sym, subst, ◌∙◌, inl, inr, eqb, arith}
use Rattle.std.specs.List.{All, flat_map, sum_by, remove}
use Rattle.std.proofs.lemmas.List.{length-set, get_or-map}
use Rattle.std.proofs.lemmas.List.Sums.{get_or-le-sum_by}
use Rattle.envy_heap.specs.Pieces.{IsHeap, Freed, handed, spare, at, one}
use Rattle.envy_heap.proofs.Heaps.{one-same}
use Rattle.envy_btree.specs.Tree.{Tree, Fans, Ordered, Sized, Holds, Shows, uses, piece_of, pairs_of}
use Rattle.envy_btree.specs.Nodes.{OnlyPiece, Halves, half, kind_of, keys_in, slots_in, width, Loose, KidsSized, IsNode}
use Rattle.envy_btree.specs.Changes.{Elsewhere, MendedAsOne, MendedAsTwo, Mended}
use Rattle.envy_btree.proofs.Trees.{low_of, high_of, low-next, Fans-long, Fans-at, Fans-pair, Fans-merge}
use Rattle.envy_btree.proofs.Descent.{bare, uses-root, owned-within}
use Rattle.envy_btree.proofs.Setting.{heap-kept}
use Rattle.envy_btree.proofs.Framing.{Shows-same, Holds-same, sum-two, other-piece, handed-le, handed-within}
use Rattle.envy_btree.proofs.Halving.{loose-kept, keys-long, slots-long, kind-le, fewest-le, Sized-of, Holds-of, fore, hind, fore-piece, hind-piece, halves-pairs, halves-uses}
use Rattle.envy_btree.proofs.Holding.{halves-twins, shows-tree}
use Rattle.envy_btree.proofs.Merging.{get_or-any, length-merge, All-merge, All-pair, sum-merge, sum-pair, flat_map-merge, flat_map-pair, map-merge, map-pair}
use Rattle.envy_btree.proofs.Joining.{joined, joined-ordered, joined-pairs, joined-uses, joined-width, joined-piece, joined-loose, joined-sized, Fans-gap}

-- The children of a node at p. Children j and j + 1 needn't hold by their own words, only what is under them.
pub record Couple (mid next : List ℕ) (low high d j p : ℕ) (ks : List ℕ) (cs : List (Tree d)) : Type 0 where
  pub heap : IsHeap mid next
  pub fans : Fans (Ordered d) low high ks cs
  pub place : j < length ks
  pub owned : (q : ℕ) → one (eqb q p) + sum_by (λ c. uses d c q) cs ≤ handed mid next q
  pub hold : (k : ℕ) → k < length cs → k ≢ j → k ≢ suc j → Holds mid d (get_or cs k (bare d))
  pub sized : (k : ℕ) → k < length cs → k ≢ j → k ≢ suc j → Sized false d (get_or cs k (bare d))
  pub front_loose : Loose mid d (get_or cs j (bare d))
  pub rear_loose : Loose mid d (get_or cs (suc j) (bare d))
  pub front_kids : KidsSized d (get_or cs j (bare d))
  pub rear_kids : KidsSized d (get_or cs (suc j) (bare d))
  pub wide : 29 ≤ width d (get_or cs j (bare d)) + width d (get_or cs (suc j) (bare d))
  pub narrow : width d (get_or cs j (bare d)) + width d (get_or cs (suc j) (bare d)) ≤ 46 + kind_of d

-- the children after that, all of whom hold
pub record Family (old new free : List ℕ) (low high d : ℕ) (ks : List ℕ) (cs : List (Tree d)) (after after_slots : List ℕ) : Type 0 where
  pub next : List ℕ
  pub heap : IsHeap new next
  pub kids : List (Tree d)
  pub slots : after_slots ≡ map (piece_of d) kids
  pub hold : All (Holds new d) kids
  pub ordered : Fans (Ordered d) low high after kids
  pub sized : All (Sized false d) kids
  pub pairs : flat_map (pairs_of d) kids ≡ flat_map (pairs_of d) cs
  pub share : (q : ℕ) → handed new next q + sum_by (λ c. uses d c q) cs ≡ handed old free q + sum_by (λ c. uses d c q) kids
  pub spares : spare old free ≤ spare new next
  pub fewer : length cs ≤ length kids + 1
  pub elsewhere : Elsewhere old new free (λ q. sum_by (λ c. uses d c q) cs)

-- what is known of two neighbours before they are written
pub record Joint (mid next : List ℕ) (low high d j : ℕ) (ks : List ℕ) (cs : List (Tree d)) : Type 0 where
  pub later : suc j < length cs
  pub ordered : Ordered d (low_of low ks j) (high_of high ks (suc j)) (joined d (get_or ks j 0) (get_or cs j (bare d)) (get_or cs (suc j) (bare d)))
  pub owned : (q : ℕ) → uses d (get_or cs j (bare d)) q + uses d (get_or cs (suc j) (bare d)) q ≤ handed mid next q
  pub used : (q : ℕ) → uses d (joined d (get_or ks j 0) (get_or cs j (bare d)) (get_or cs (suc j) (bare d))) q + one (eqb q (piece_of d (get_or cs (suc j) (bare d)))) ≡ uses d (get_or cs j (bare d)) q + uses d (get_or cs (suc j) (bare d)) q
  pub first_out : 1 ≤ handed mid next (piece_of d (get_or cs j (bare d)))
  pub second_out : 1 ≤ handed mid next (piece_of d (get_or cs (suc j) (bare d)))
  pub apart : piece_of d (get_or cs j (bare d)) ≢ piece_of d (get_or cs (suc j) (bare d))
  pub unused : uses d (joined d (get_or ks j 0) (get_or cs j (bare d)) (get_or cs (suc j) (bare d))) (piece_of d (get_or cs (suc j) (bare d))) ≡ 0

pub joint : (mid next : List ℕ) (low high d j p : ℕ) (ks : List ℕ) (cs : List (Tree d)) → Couple mid next low high d j p ks cs → Joint mid next low high d j ks cs
joint mid next low high d j p ks cs k =
    let a = get_or cs j (bare d) in
    let b = get_or cs (suc j) (bare d) in
    let m : ℕ = get_or ks j 0 in
    let long : length cs ≡ length ks + 1 = Fans-long (Ordered d) low high ks cs k.fans in
    let place : j < length ks = k.place in
    let later : suc j < length cs = omega arith in
    let gap = Fans-gap (Ordered d) low high ks cs j k.place k.fans in
    let front : Ordered d (low_of low ks j) m a = subst (λ x. Ordered d (low_of low ks j) x a) (get_or-any ks j high 0 k.place) (Fans-at (Ordered d) low high ks cs j (bare d) (omega arith) k.fans) in
    let rear : Ordered d m (high_of high ks (suc j)) b = subst (λ x. Ordered d x (high_of high ks (suc j)) b) (low-next low ks j k.place) (Fans-at (Ordered d) low high ks cs (suc j) (bare d) (omega arith) k.fans) in
    let owned : (q : ℕ) → uses d a q + uses d b q ≤ handed mid next q = λ q. omega (arith, k.owned q, sum-two (λ c. uses d c q) cs j (suc j) (bare d) (omega arith) later (omega arith)) in
    let used : (q : ℕ) → uses d (joined d m a b) q + one (eqb q (piece_of d b)) ≡ uses d a q + uses d b q = λ q. joined-uses d m q a b in
    let fa : 1 ≤ uses d a (piece_of d a) = uses-root d a in
    let fb : 1 ≤ uses d b (piece_of d b) = uses-root d b in
    record {
      later = later;
      ordered = joined-ordered d (low_of low ks j) m (high_of high ks (suc j)) a b gap.0 gap.1 front rear;
      owned = owned;
      used = used;
      first_out = omega (arith, owned (piece_of d a));
      second_out = omega (arith, owned (piece_of d b));
      apart = λ e. absurd (let z : 1 ≤ uses d a (piece_of d b) = subst (λ x. 1 ≤ uses d a x) e fa in omega (arith, owned (piece_of d b), handed-le mid next (piece_of d b)));
      unused = omega (arith, used (piece_of d b), owned (piece_of d b), handed-le mid next (piece_of d b), one-same (piece_of d b));
    }

-- the other children hold as before
others-hold : (mid new next : List ℕ) (low high d j p : ℕ) (ks : List ℕ) (cs : List (Tree d)) → Couple mid next low high d j p ks cs → Joint mid next low high d j ks cs → length new ≡ length mid
    → ((x i : ℕ) → i < 64 → 1 ≤ handed mid next x → x ≢ piece_of d (get_or cs j (bare d)) → x ≢ piece_of d (get_or cs (suc j) (bare d)) → get_or new (at x i) 0 ≡ get_or mid (at x i) 0)
    → (k : ℕ) → k < length cs → k ≢ j → k ≢ suc j → Holds new d (get_or cs k (bare d))
others-hold mid new next low high d j p ks cs c t long kept k lk n1 n2 =
    let e = get_or cs k (bare d) in
    let a = get_or cs j (bare d) in
    let b = get_or cs (suc j) (bare d) in
    let later : suc j < length cs = t.later in
    let out : (q : ℕ) → 1 ≤ uses d e q → 1 ≤ handed mid next q = λ q some. omega (arith, c.owned q, get_or-le-sum_by (λ x. uses d x q) cs k (bare d) lk) in
    let not_a : (q : ℕ) → 1 ≤ uses d e q → q ≢ piece_of d a = λ q some same. absurd (let z : 1 ≤ uses d a q = subst (λ x. 1 ≤ uses d a x) (sym same) (uses-root d a) in omega (arith, c.owned q, handed-le mid next q, sum-two (λ x. uses d x q) cs j k (bare d) (omega arith) lk n1)) in
    let not_b : (q : ℕ) → 1 ≤ uses d e q → q ≢ piece_of d b = λ q some same. absurd (let z : 1 ≤ uses d b q = subst (λ x. 1 ≤ uses d b x) (sym same) (uses-root d b) in omega (arith, c.owned q, handed-le mid next q, sum-two (λ x. uses d x q) cs (suc j) k (bare d) later lk n2)) in
    Holds-same mid new false (low_of low ks k) (high_of high ks k) d e (λ q some. handed-within mid new next q c.heap long (out q some)) (λ q i lt some. kept q i lt (out q some) (not_a q some) (not_b q some))
    (Fans-at (Ordered d) low high ks cs k (bare d) (omega (arith, lk, Fans-long (Ordered d) low high ks cs c.fans)) c.fans) (c.sized k lk n1 n2) (c.hold k lk n1 n2)

pub family-one : (mid new next : List ℕ) (low high d j p : ℕ) (ks : List ℕ) (cs : List (Tree d)) (inner : Bool) (jk js after after_slots : List ℕ) → (k : Couple mid next low high d j p ks cs)
    → IsNode d (joined d (get_or ks j 0) (get_or cs j (bare d)) (get_or cs (suc j) (bare d))) inner jk js → MendedAsOne mid new next j ks (map (piece_of d) cs) inner jk js after after_slots → Family mid new next low high d ks cs after after_slots
family-one mid new next low high d j p ks cs inner jk js after after_slots k node e =
    let a = get_or cs j (bare d) in
    let b = get_or cs (suc j) (bare d) in
    let m : ℕ = get_or ks j 0 in
    let whole = joined d m a b in
    let t = joint mid next low high d j p ks cs k in
    let later : suc j < length cs = t.later in
    let f : ℕ = piece_of d a in
    let s : ℕ = piece_of d b in
    let piece : piece_of d whole ≡ f = joined-piece d m a b in
    let f_is : get_or (map (piece_of d) cs) j 0 ≡ f = get_or-map (piece_of d) cs j (bare d) 0 (omega arith) in
    let next_is : j + 1 ≡ suc j = omega arith in
    let s_is : get_or (map (piece_of d) cs) (j + 1) 0 ≡ s = ap (λ x. get_or (map (piece_of d) cs) x 0) next_is ∙ get_or-map (piece_of d) cs (suc j) (bare d) 0 later in
    let only : OnlyPiece f mid e.mid = subst (λ x. OnlyPiece x mid e.mid) f_is e.only in
    let h = heap-kept mid e.mid next f k.heap t.first_out only in
    let freed : Freed s e.mid new next = subst (λ x. Freed x e.mid new next) s_is e.freed in
    let long : length new ≡ length mid = freed.touches.long ∙ only.long in
    let kept : (x i : ℕ) → i < 64 → x ≢ f → x ≢ s → get_or new (at x i) 0 ≡ get_or mid (at x i) 0 = λ x i lt n1 n2.
    freed.touches.others (at x i) (omega arith) (omega arith) (omega arith) ∙ other-piece mid e.mid f x i lt (λ z. absurd (n1 z)) only in
    let within : at f 63 < length new = omega (arith, (owned-within mid next f k.heap t.first_out).0, long) in
    let wide : length jk + kind_of d ≡ width d a + width d b = ap (λ x. length x + kind_of d) node.front ∙ keys-long (low_of low ks j) (high_of high ks (suc j)) d whole t.ordered ∙ joined-width d m a b in
    let slots_wide : length js ≤ 32 = omega (arith, ap length node.back, slots-long d whole, joined-width d m a b, wide, e.few, kind-le d) in
    let apart = t.apart in
    let shows_mid : Shows e.mid f (one inner) jk js = subst (λ x. Shows e.mid x (one inner) jk js) f_is e.shows in
    let shows_new : Shows new f (one inner) jk js = Shows-same e.mid new f (one inner) jk js within e.few slots_wide (λ i lt. freed.touches.others (at f i) (omega arith) (omega arith) (omega arith)) shows_mid in
    let shown : Shows new (piece_of d whole) (kind_of d) (keys_in d whole) (slots_in d whole) = shows-tree new (piece_of d whole) d whole inner jk js node (subst (λ x. Shows new x (one inner) jk js) (sym piece) shows_new) in
    let loose = loose-kept mid new next (low_of low ks j) (high_of high ks (suc j)) d whole k.heap long (joined-loose mid d m a b k.front_loose k.rear_loose) t.ordered (joined-sized d m a b k.front_kids k.rear_kids) (λ q. omega (arith, t.used q, t.owned q))
    (λ x i lt some ne. kept x i lt (λ z. ne (z ∙ sym piece)) (λ z. absurd (let y : uses d whole x ≡ 0 = subst (λ v. uses d whole v ≡ 0) (sym z) t.unused in omega arith))) in
    let few : length jk ≤ 31 = e.few in
    let size : Sized false d whole = Sized-of false d whole (omega (arith, fewest-le false d, joined-width d m a b, k.wide)) (omega (arith, joined-width d m a b)) (joined-sized d m a b k.front_kids k.rear_kids) in
    let total : (q : ℕ) → sum_by (λ c. uses d c q) (remove (set cs j whole) (suc j)) + one (eqb q s) ≡ sum_by (λ c. uses d c q) cs = λ q. sum-merge (λ c. uses d c q) cs j (one (eqb q s)) whole (bare d) later (t.used q) in
    record {
      next = s ∷ next;
      heap = freed.heap;
      kids = remove (set cs j whole) (suc j);
      slots = e.back ∙ ap (λ x. remove (map (piece_of d) cs) x) next_is ∙ sym (map-merge (piece_of d) cs j whole (bare d) later piece);
      hold = All-merge (Holds new d) cs j whole (bare d) later (Holds-of new d whole shown loose) (others-hold mid new next low high d j p ks cs k t long (λ x i lt out n1 n2. kept x i lt n1 n2));
      ordered = subst (λ x. Fans (Ordered d) low high x (remove (set cs j whole) (suc j))) (sym e.front) (Fans-merge (Ordered d) low high ks cs j whole k.place t.ordered k.fans);
      sized = All-merge (Sized false d) cs j whole (bare d) later size k.sized;
      pairs = flat_map-merge (pairs_of d) cs j whole (bare d) later (joined-pairs d m a b);
      share = λ q. omega (arith, freed.now q, h.1 q, total q);
      spares = omega (arith, freed.spares, h.2);
      fewer = omega (arith, length-merge cs j whole later);
      elsewhere = record {
        long = long;
        first = λ x lt n1 n2. freed.touches.others x n1 n2 (omega arith) ∙ only.before x (omega arith);
        others = λ x i lt out none. kept x i lt
            (λ z. absurd (let y : 1 ≤ uses d a x = subst (λ v. 1 ≤ uses d a v) (sym z) (uses-root d a) in omega (arith, get_or-le-sum_by (λ c. uses d c x) cs j (bare d) (omega arith))))
            (λ z. absurd (let y : 1 ≤ uses d b x = subst (λ v. 1 ≤ uses d b v) (sym z) (uses-root d b) in omega (arith, get_or-le-sum_by (λ c. uses d c x) cs (suc j) (bare d) later)));
      };
    }

pub family-two : (mid new next : List ℕ) (low high d j p : ℕ) (ks : List ℕ) (cs : List (Tree d)) (inner : Bool) (jk js after after_slots : List ℕ) → (k : Couple mid next low high d j p ks cs)
    → IsNode d (joined d (get_or ks j 0) (get_or cs j (bare d)) (get_or cs (suc j) (bare d))) inner jk js → MendedAsTwo mid new j ks (map (piece_of d) cs) inner jk js after after_slots → Family mid new next low high d ks cs after after_slots
family-two mid new next low high d j p ks cs inner jk js after after_slots k node e =
    let a = get_or cs j (bare d) in
    let b = get_or cs (suc j) (bare d) in
    let m : ℕ = get_or ks j 0 in
    let whole = joined d m a b in
    let t = joint mid next low high d j p ks cs k in
    let later : suc j < length cs = t.later in
    let f : ℕ = piece_of d a in
    let s : ℕ = piece_of d b in
    let n : ℕ = half js in
    let piece : piece_of d whole ≡ f = joined-piece d m a b in
    let f_is : get_or (map (piece_of d) cs) j 0 ≡ f = get_or-map (piece_of d) cs j (bare d) 0 (omega arith) in
    let next_is : j + 1 ≡ suc j = omega arith in
    let s_is : get_or (map (piece_of d) cs) (j + 1) 0 ≡ s = ap (λ x. get_or (map (piece_of d) cs) x 0) next_is ∙ get_or-map (piece_of d) cs (suc j) (bare d) 0 later in
    let halves : Halves mid new (piece_of d whole) s (one inner) e.key jk js = subst (λ x. Halves mid new x s (one inner) e.key jk js) (f_is ∙ sym piece) (subst (λ x. Halves mid new (get_or (map (piece_of d) cs) j 0) x (one inner) e.key jk js) s_is e.halves) in
    let second : OnlyPiece s mid halves.mid = halves.second in
    let first : OnlyPiece f halves.mid new = subst (λ x. OnlyPiece x halves.mid new) piece halves.first in
    let h = heap-kept mid halves.mid next s k.heap t.second_out second in
    let still : 1 ≤ handed halves.mid next f = omega (arith, h.1 f, t.first_out) in
    let g = heap-kept halves.mid new next f h.0 still first in
    let same : (q : ℕ) → handed new next q ≡ handed mid next q = λ q. g.1 q ∙ h.1 q in
    let long : length new ≡ length mid = first.long ∙ second.long in
    let kept : (x i : ℕ) → i < 64 → x ≢ f → x ≢ s → get_or new (at x i) 0 ≡ get_or mid (at x i) 0 = λ x i lt n1 n2.
    other-piece halves.mid new f x i lt (λ z. absurd (n1 z)) first ∙ other-piece mid halves.mid s x i lt (λ z. absurd (n2 z)) second in
    let within : at s 63 < length new = omega (arith, (owned-within mid next s k.heap t.second_out).0, long) in
    let wide : length jk + kind_of d ≡ width d a + width d b = ap (λ x. length x + kind_of d) node.front ∙ keys-long (low_of low ks j) (high_of high ks (suc j)) d whole t.ordered ∙ joined-width d m a b in
    let narrow = k.narrow in
    let loose = loose-kept mid new next (low_of low ks j) (high_of high ks (suc j)) d whole k.heap long (joined-loose mid d m a b k.front_loose k.rear_loose) t.ordered (joined-sized d m a b k.front_kids k.rear_kids) (λ q. omega (arith, t.used q, t.owned q))
    (λ x i lt some ne. kept x i lt (λ z. ne (z ∙ sym piece)) (λ z. absurd (let y : uses d whole x ≡ 0 = subst (λ v. uses d whole v ≡ 0) (sym z) t.unused in omega arith))) in
    let w = halves-twins mid new (low_of low ks j) (high_of high ks (suc j)) d s e.key whole inner jk js node halves (λ z. t.apart (sym (z ∙ piece))) within loose t.ordered (joined-sized d m a b k.front_kids k.rear_kids) e.many (omega arith) in
    let left = fore d n whole in
    let right = hind d n s whole in
    let both : (q : ℕ) → uses d left q + uses d right q ≡ uses d a q + uses d b q = λ q. halves-uses d n s q whole ∙ t.used q in
    let total : (q : ℕ) → sum_by (λ c. uses d c q) (set (set cs j left) (suc j) right) ≡ sum_by (λ c. uses d c q) cs = λ q. sum-pair (λ c. uses d c q) cs j left right (bare d) later (both q) in
    record {
      next = next;
      heap = g.0;
      kids = set (set cs j left) (suc j) right;
      slots = e.back ∙ sym (map-pair (piece_of d) cs j left right (bare d) later (fore-piece d n whole ∙ piece) (hind-piece d n s whole));
      hold = All-pair (Holds new d) cs j left right (bare d) later w.front w.rear (others-hold mid new next low high d j p ks cs k t long (λ x i lt out n1 n2. kept x i lt n1 n2));
      ordered = subst (λ x. Fans (Ordered d) low high x (set (set cs j left) (suc j) right)) (sym e.front) (Fans-pair (Ordered d) low high ks cs j e.key left right k.place w.above w.below w.front_ordered w.rear_ordered k.fans);
      sized = All-pair (Sized false d) cs j left right (bare d) later w.front_sized w.rear_sized k.sized;
      pairs = flat_map-pair (pairs_of d) cs j left right (bare d) later (halves-pairs d n s whole ∙ joined-pairs d m a b);
      share = λ q. omega (arith, same q, total q);
      spares = omega (arith, g.2, h.2);
      fewer = omega (arith, length-set (set cs j left) (suc j) right, length-set cs j left);
      elsewhere = record {
        long = long;
        first = λ x lt n1 n2. first.before x (omega arith) ∙ second.before x (omega arith);
        others = λ x i lt out none. kept x i lt
            (λ z. absurd (let y : 1 ≤ uses d a x = subst (λ v. 1 ≤ uses d a v) (sym z) (uses-root d a) in omega (arith, get_or-le-sum_by (λ c. uses d c x) cs j (bare d) (omega arith))))
            (λ z. absurd (let y : 1 ≤ uses d b x = subst (λ v. 1 ≤ uses d b v) (sym z) (uses-root d b) in omega (arith, get_or-le-sum_by (λ c. uses d c x) cs (suc j) (bare d) later)));
      };
    }

pub family : (mid new next : List ℕ) (low high d j p : ℕ) (ks : List ℕ) (cs : List (Tree d)) (inner : Bool) (jk js after after_slots : List ℕ) → Couple mid next low high d j p ks cs
    → IsNode d (joined d (get_or ks j 0) (get_or cs j (bare d)) (get_or cs (suc j) (bare d))) inner jk js → Mended mid new next j ks (map (piece_of d) cs) inner jk js after after_slots → Family mid new next low high d ks cs after after_slots
family mid new next low high d j p ks cs inner jk js after after_slots k node (inl e) = family-one mid new next low high d j p ks cs inner jk js after after_slots k node e
family mid new next low high d j p ks cs inner jk js after after_slots k node (inr e) = family-two mid new next low high d j p ks cs inner jk js after after_slots k node e
