-- A removal on its way down, and the node above a short child.
use Rattle.std.proofs.Common.{◌≡◌, ◌≢◌, ◌⊎◌, ℕ, zero, suc, ◌+◌, ◌<◌, ◌≤◌, Bool, true, false, List, ◌++◌, length, take, drop, get_or, set, refl, ap, sym, subst, ◌∙◌, inl, inr, Option, None, Some, arith}
use Rattle.std.specs.List.{flat_map, sum_by}
use Rattle.std.proofs.lemmas.Bool.{cases_eq}
use Rattle.std.proofs.lemmas.List.{length-set, get_or-set_same, get_or-set_other}
use Rattle.std.proofs.lemmas.List.Sums.{get_or-le-sum_by, sum_by-set}
use Rattle.std.proofs.lemmas.List.Elements.{All-get_or}
use Rattle.envy_heap.specs.Pieces.{IsHeap, handed, spare, one}
use Rattle.envy_btree.specs.declared.node.Node.{Node}
use Rattle.envy_btree.specs.Pairs.{without}
use Rattle.envy_btree.specs.Tree.{Tree, Ordered, Sized, Holds, Shows, uses, piece_of, pairs_of, fewest}
use Rattle.envy_btree.specs.Nodes.{OnlyPiece, width, is_inner, kind_of, keys_in, slots_in, Loose, KidsSized}
use Rattle.envy_btree.specs.Index.{Stands}
use Rattle.envy_btree.specs.Changes.{Rests, InHand, Elsewhere, Beside}
use Rattle.envy_btree.specs.Shrinking.{Back, Short, Shrinks}
use Rattle.envy_btree.proofs.Trees.{low_of, high_of, Fans-long, Fans-set}
use Rattle.envy_btree.proofs.Descent.{bare, around}
use Rattle.envy_btree.proofs.Framing.{sister, handed-le}
use Rattle.envy_btree.proofs.Halving.{keys-long, slots-long, kind-le, one-kind}
use Rattle.envy_btree.proofs.Holding.{settled}
use Rattle.envy_btree.proofs.Families.{Couple, Family}

pub Loose-of : (ws : List ℕ) (d : ℕ) (t : Tree d) → Holds ws d t → Loose ws d t
Loose-of ws zero t h = tt
Loose-of ws (suc d) t h = h.1

pub KidsSized-of : (root : Bool) (d : ℕ) (t : Tree d) → Sized root d t → KidsSized d t
KidsSized-of root zero t s = tt
KidsSized-of root (suc d) t s = s.2

pub width-least : (root : Bool) (d : ℕ) (t : Tree d) → Sized root d t → fewest root d ≤ width d t
width-least root zero t s = s.0
width-least root (suc d) t s = s.0

pub width-most : (root : Bool) (d : ℕ) (t : Tree d) → Sized root d t → width d t ≤ 31 + kind_of d
width-most root zero t s = s.1
width-most root (suc d) t s = omega (arith, s.1)

pub fewest-is : (d : ℕ) → fewest false d ≡ 15 + kind_of d
fewest-is zero = refl
fewest-is (suc d) = refl

pub Shows-of : (ws : List ℕ) (d : ℕ) (t : Tree d) → Holds ws d t → Shows ws (piece_of d t) (kind_of d) (keys_in d t) (slots_in d t)
Shows-of ws zero t h = h
Shows-of ws (suc d) t h = h.0

-- a child that holds, as a node beside another
pub beside-of : (ws : List ℕ) (low high d : ℕ) (t : Tree d) (inner : Bool) → inner ≡ is_inner d → Holds ws d t → Ordered d low high t → Sized false d t → (b : Beside ws (piece_of d t) inner) × (b.keys ≡ keys_in d t) × (b.slots ≡ slots_in d t)
beside-of ws low high d t inner e h o s =
    let kind : kind_of d ≡ one inner = sym (one-kind d) ∙ ap one (sym e) in (
      record {
        keys = keys_in d t;
        slots = slots_in d t;
        shows = subst (λ k. Shows ws (piece_of d t) k (keys_in d t) (slots_in d t)) kind (Shows-of ws d t h);
        few = omega (arith, keys-long low high d t o, width-most false d t s);
        long = omega (arith, keys-long low high d t o, slots-long d t, kind);
      },
      refl,
      refl,
    )

-- the node is written back or stays in hand
pub back-shrinks : (old mid new : List ℕ) (p level key : ℕ) (t : Rests old p level) (inner : Bool) (keys slots : List ℕ) (r : Option Node) → (h : InHand old mid t.free (without key (pairs_of t.depth t.tree)) t.low t.high t.depth t.tree inner keys slots)
    → length keys ≤ 31 → fewest t.root t.depth ≤ width t.depth h.tree + 1 → Back mid new p inner keys slots r → Shrinks old new p level key t r
back-shrinks old mid new p level key t inner keys slots None h few least b =
    let wide : length keys + kind_of t.depth ≡ width t.depth h.tree = ap (λ x. length x + kind_of t.depth) h.lists.front ∙ keys-long t.low t.high t.depth h.tree h.ordered in
    settled old mid new t.free (without key (pairs_of t.depth t.tree)) t.root t.low t.high t.depth t.tree inner keys slots h (omega (arith, b.0, fewest-root t.root t.depth)) few (subst (λ x. Shows new x (one inner) keys slots) (sym t.is) b.1) (subst (λ x. OnlyPiece x mid new) (sym t.is) b.2)
  where
    fewest-root : (root : Bool) (d : ℕ) → fewest root d ≤ 15 + kind_of d
    fewest-root true zero = omega arith
    fewest-root false zero = omega arith
    fewest-root true (suc d) = omega arith
    fewest-root false (suc d) = omega arith
back-shrinks old mid new p level key t inner keys slots (Some n) h few least b =
    subst (λ w. Short old w p level key t n.inner n.keys.items n.slots.items) (sym b.4)
    (subst (λ x. Short old mid p level key t x n.keys.items n.slots.items) (sym b.0)
    (subst (λ x. Short old mid p level key t inner x n.slots.items) (sym b.1)
    (subst (λ x. Short old mid p level key t inner keys x) (sym b.2) (record { hand = h; few = b.3; least = least }))))

-- Child i of a node is in hand.
pub record Above (ws mid free next : List ℕ) (root : Bool) (low high d i : ℕ) (t : Tree (suc d)) (c : Tree d) : Type 0 where
  pub heap : IsHeap ws free
  pub stands : Stands ws free root low high (suc d) t
  pub place : i < length t.kids
  pub mid_heap : IsHeap mid next
  pub is : piece_of d c ≡ piece_of d (get_or t.kids i (bare d))
  pub loose : Loose mid d c
  pub ordered : Ordered d (low_of low t.keys i) (high_of high t.keys i) c
  pub kids : KidsSized d c
  pub share : (q : ℕ) → handed mid next q + uses d (get_or t.kids i (bare d)) q ≡ handed ws free q + uses d c q
  pub elsewhere : Elsewhere ws mid free (uses d (get_or t.kids i (bare d)))
  pub least : fewest false d ≤ width d c + 1
  pub most : width d c ≤ 14 + kind_of d

pub couple : (ws mid free next : List ℕ) (root : Bool) (low high d i j : ℕ) (t : Tree (suc d)) (c : Tree d) → Above ws mid free next root low high d i t c → j < length t.keys → (i ≡ j) ⊎ (i ≡ suc j) → Couple mid next low high d j t.piece t.keys (set t.kids i c)
couple ws mid free next root low high d i j t c a lt side =
    let s = a.stands in
    let cs = set t.kids i c in
    let long : length t.kids ≡ length t.keys + 1 = Fans-long (Ordered d) low high t.keys t.kids s.ordered in
    let li : i < length t.kids = a.place in
    let total : (q : ℕ) → sum_by (λ x. uses d x q) cs + uses d (get_or t.kids i (bare d)) q ≡ sum_by (λ x. uses d x q) t.kids + uses d c q = λ q. sum_by-set (λ x. uses d x q) t.kids i c (bare d) li in
    let other : (k : ℕ) → k < length t.kids → k ≢ i → Holds mid d (get_or t.kids k (bare d)) = λ k lk ne. sister ws mid free root low high d i k t a.heap s li lk ne a.elsewhere in
    let at_other : (k : ℕ) → k ≢ i → get_or cs k (bare d) ≡ get_or t.kids k (bare d) = λ k ne. get_or-set_other t.kids i k c (bare d) ne in
    let at_same : get_or cs i (bare d) ≡ c = get_or-set_same t.kids i c (bare d) li in
    let loose : (k : ℕ) → k < length t.kids → Loose mid d (get_or cs k (bare d)) = λ k lk. elim (cases_eq k i) [
      | inl e ↦ subst (λ x. Loose mid d x) (sym (ap (λ y. get_or cs y (bare d)) e ∙ at_same)) a.loose
      | inr ne ↦ subst (λ x. Loose mid d x) (sym (at_other k ne)) (Loose-of mid d (get_or t.kids k (bare d)) (other k lk ne))
    ] in
    let kids : (k : ℕ) → k < length t.kids → KidsSized d (get_or cs k (bare d)) = λ k lk. elim (cases_eq k i) [
      | inl e ↦ subst (λ x. KidsSized d x) (sym (ap (λ y. get_or cs y (bare d)) e ∙ at_same)) a.kids
      | inr ne ↦ subst (λ x. KidsSized d x) (sym (at_other k ne)) (KidsSized-of false d (get_or t.kids k (bare d)) (All-get_or (Sized false d) t.kids k (bare d) lk s.sized.2))
    ] in
    let least_other : (k : ℕ) → k < length t.kids → k ≢ i → fewest false d ≤ width d (get_or cs k (bare d)) = λ k lk ne. subst (λ x. fewest false d ≤ width d x) (sym (at_other k ne)) (width-least false d (get_or t.kids k (bare d)) (All-get_or (Sized false d) t.kids k (bare d) lk s.sized.2)) in
    let most_other : (k : ℕ) → k < length t.kids → k ≢ i → width d (get_or cs k (bare d)) ≤ 31 + kind_of d = λ k lk ne. subst (λ x. width d x ≤ 31 + kind_of d) (sym (at_other k ne)) (width-most false d (get_or t.kids k (bare d)) (All-get_or (Sized false d) t.kids k (bare d) lk s.sized.2)) in
    let here : width d (get_or cs i (bare d)) ≡ width d c = ap (width d) at_same in
    let is_few = fewest-is d in
    let kind = kind-le d in
    let least = a.least in
    let most = a.most in
    record {
      heap = a.mid_heap;
      fans = Fans-set (Ordered d) low high t.keys t.kids i c (omega arith) a.ordered s.ordered;
      place = lt;
      owned = λ q. omega (arith, s.owned q, a.share q, total q);
      hold = λ k lk n1 n2.
          let ne : k ≢ i = elim side [ inl e ↦ (λ z. n1 (z ∙ e)) | inr e ↦ (λ z. n2 (z ∙ e)) ] in
          subst (λ x. Holds mid d x) (sym (at_other k ne)) (other k (omega (arith, length-set t.kids i c)) ne);
      sized = λ k lk n1 n2.
          let ne : k ≢ i = elim side [ inl e ↦ (λ z. n1 (z ∙ e)) | inr e ↦ (λ z. n2 (z ∙ e)) ] in
          subst (λ x. Sized false d x) (sym (at_other k ne)) (All-get_or (Sized false d) t.kids k (bare d) (omega (arith, length-set t.kids i c)) s.sized.2);
      front_loose = loose j (omega arith);
      rear_loose = loose (suc j) (omega arith);
      front_kids = kids j (omega arith);
      rear_kids = kids (suc j) (omega arith);
      wide = elim side [
        | inl e ↦ omega (arith, least_other (suc j) (omega arith) (omega arith), ap (λ y. width d (get_or cs y (bare d))) e)
        | inr e ↦ omega (arith, least_other j (omega arith) (omega arith), ap (λ y. width d (get_or cs y (bare d))) e)
      ];
      narrow = elim side [
        | inl e ↦ omega (arith, most_other (suc j) (omega arith) (omega arith), ap (λ y. width d (get_or cs y (bare d))) e)
        | inr e ↦ omega (arith, most_other j (omega arith) (omega arith), ap (λ y. width d (get_or cs y (bare d))) e)
      ];
    }

-- the node above is in hand once its children are settled
pub above-hand : (F : List (ℕ × ℕ) → List (ℕ × ℕ)) (ws mid new free next : List ℕ) (root : Bool) (low high d i : ℕ) (t : Tree (suc d)) (c : Tree d) (after after_slots : List ℕ) → Above ws mid free next root low high d i t c → spare ws free ≤ spare mid next + d
    → flat_map (pairs_of d) (take i t.kids) ++ (pairs_of d c ++ flat_map (pairs_of d) (drop (suc i) t.kids)) ≡ F (flat_map (pairs_of d) t.kids) → Family mid new next low high d t.keys (set t.kids i c) after after_slots
    → (h : InHand ws new free (F (flat_map (pairs_of d) t.kids)) low high (suc d) t true after after_slots) × (length t.kids ≤ width (suc d) h.tree + 1)
above-hand F ws mid new free next root low high d i t c after after_slots a spares pairs f =
    let s = a.stands in
    let cs = set t.kids i c in
    let total : (q : ℕ) → sum_by (λ x. uses d x q) cs + uses d (get_or t.kids i (bare d)) q ≡ sum_by (λ x. uses d x q) t.kids + uses d c q = λ q. sum_by-set (λ x. uses d x q) t.kids i c (bare d) a.place in
    let tree : Tree (suc d) = record { piece = t.piece; keys = after; kids = f.kids } in
    let hand : InHand ws new free (F (flat_map (pairs_of d) t.kids)) low high (suc d) t true after after_slots = record {
      next = f.next;
      heap = f.heap;
      tree = tree;
      is = refl;
      lists = record { kind = refl; front = refl; back = f.slots };
      loose = f.hold;
      ordered = f.ordered;
      kids = f.sized;
      owned = λ q. omega (arith, s.owned q, a.share q, total q, f.share q);
      pairs = f.pairs ∙ around (pairs_of d) t.kids i c a.place ∙ pairs;
      share = λ q. omega (arith, a.share q, total q, f.share q);
      spares = omega (arith, f.spares);
      elsewhere = record {
        long = f.elsewhere.long ∙ a.elsewhere.long;
        first = λ x lt n1 n2. f.elsewhere.first x lt n1 n2 ∙ a.elsewhere.first x lt n1 n2;
        others = λ x j lj out none.
            let below : uses d (get_or t.kids i (bare d)) x ≡ 0 = omega (arith, get_or-le-sum_by (λ y. uses d y x) t.kids i (bare d) a.place) in
            f.elsewhere.others x j lj (omega (arith, a.share x)) (omega (arith, a.share x, total x, handed-le mid next x)) ∙ a.elsewhere.others x j lj out below;
      };
    } in
    (hand, omega (arith, length-set t.kids i c, f.fewer))
