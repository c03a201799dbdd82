-- Ways down to a leaf, by the words beside a key.
use Rattle.std.proofs.Common.{◌≡◌, ◌≢◌, ℕ, zero, suc, ◌+◌, ◌-◌, ◌*◌, ◌/◌, ◌%◌, ◌^◌, ◌<◌, ◌≤◌, Bool, true, false, not, List, [], ◌∷◌, ◌++◌, length, take, drop, get_or, refl, ap, sym, subst, ◌∙◌, inl, inr, eqb, arith}
use Rattle.std.specs.List.{flat_map}
use Rattle.std.proofs.lemmas.Bool.{cases_eq, cases_lt}
use Rattle.std.proofs.lemmas.List.{append_assoc, append-nil, length-map, set-get_or}
use Rattle.std.proofs.lemmas.List.Elements.{All-append, All-nil, All-weaker}
use Rattle.envy_array.specs.Words.{IsPlace}
use Rattle.envy_heap.specs.Pieces.{IsHeap, head, at}
use Rattle.envy_btree.specs.Changes.{Rests}
use Rattle.envy_btree.specs.Index.{IsIndex, IsPlanted, Rooted, Stands}
use Rattle.envy_btree.specs.Looking.{IsLeaf, IsUnder}
use Rattle.envy_btree.specs.Pairs.{Below, Above}
use Rattle.envy_btree.specs.Tree.{Tree, Ordered, Rising, keys_of, pairs_of, piece_of, values_of, window}
use Rattle.envy_btree.proofs.Calls.{planted-rising}
use Rattle.envy_btree.proofs.Counting.{depth-few}
use Rattle.envy_btree.proofs.Descent.{Rests-few, Rests-within, around, bare}
use Rattle.envy_btree.proofs.Rooting.{Root-empty}
use Rattle.envy_btree.proofs.Trees.{Fans-after, Fans-before, Ordered-within, high_of, low-next, low_of}
use Rattle.envy_btree.proofs.Walking.{Fans-bounds, Fans-ranks, InnerAt, child-stands, inner-at}

pub under-rests : (ws : List ℕ) (es : List (ℕ × ℕ)) (p low top levels : ℕ) → IsUnder ws es p low top levels → Rests ws p 6
under-rests ws es p low top levels u = record {
  free = u.free;
  heap = u.heap;
  root = u.root;
  low = low;
  high = top + 1;
  depth = u.depth;
  tree = u.tree;
  few = omega (arith, u.few);
  is = u.is;
  stands = u.stands;
}

pub under-within : (ws : List ℕ) (es : List (ℕ × ℕ)) (p low top levels : ℕ) → IsUnder ws es p low top levels → at p 63 < length ws
under-within ws es p low top levels u = (Rests-within ws p 6 (under-rests ws es p low top levels u)).0

pub under-few : (ws : List ℕ) (es : List (ℕ × ℕ)) (p low top levels : ℕ) → IsUnder ws es p low top levels → get_or ws (head p) 0 < 64
under-few ws es p low top levels u = Rests-few ws p 6 (under-rests ws es p low top levels u)

pub under-deep : (ws : List ℕ) (es : List (ℕ × ℕ)) (p low top levels : ℕ) → IsUnder ws es p low top levels → 7 ≤ levels → ⊥
under-deep ws es p low top levels u deep = absurd (omega (arith, u.few))

-- the kind and the count that a first word says

pub not-yes : (b : Bool) → not b ≡ true → b ≡ false
not-yes true h = sym h
not-yes false h = refl

pub not-no : (b : Bool) → not b ≡ false → b ≡ true
not-no true h = refl
not-no false h = sym h

pub head-even : (w n : ℕ) (inner : Bool) → inner ≡ eqb (w % 2) 1 → inner ≡ false → n ≡ w / 2 → w ≡ 2 * n
head-even w n inner is leaf half = elim (cases_eq (w % 2) 1) [
  | inl e ↦ absurd (let k : eqb (w % 2) 1 ≡ true = ap (λ x. eqb x 1) e in let clash : true ≡ false = sym k ∙ sym is ∙ leaf in cc)
  | inr ne ↦ omega arith
]

pub head-odd : (w n : ℕ) (inner : Bool) → inner ≡ eqb (w % 2) 1 → inner ≡ true → n ≡ w / 2 → w ≡ 2 * n + 1
head-odd w n inner is node half = elim (cases_eq (w % 2) 1) [
  | inl e ↦ omega arith
  | inr ne ↦ absurd (let z : w % 2 ≡ 0 = omega arith in let k : eqb (w % 2) 1 ≡ false = ap (λ x. eqb x 1) z in let clash : true ≡ false = sym node ∙ is ∙ k in cc)
]

-- bounds of the child at a place

low-at : (ws : List ℕ) (a count key low top index new_low new_top : ℕ) (ks : List ℕ) → IsPlace ws a count key low top index new_low new_top → count ≡ length ks → ((i : ℕ) → i < length ks → get_or ws (a + i) 0 ≡ get_or ks i 0) → low_of low ks index ≡ new_low
low-at ws a count key low top zero new_low new_top ks x long same = sym (x.first refl)
low-at ws a count key low top (suc i) new_low new_top ks x long same =
    let lt : i < length ks = omega (arith, x.within) in
    low-next low ks i lt ∙ sym (same i lt) ∙ sym (x.bottom i (let e : suc i ≡ i + 1 = omega arith in e))

get_or-default : (ks : List ℕ) (i d e : ℕ) → i < length ks → get_or ks i d ≡ get_or ks i e
get_or-default [] i d e lt = absurd (omega arith)
get_or-default (k ∷ ks) zero d e lt = refl
get_or-default (k ∷ ks) (suc i) d e lt = get_or-default ks i d e (omega arith)

get_or-end : (ks : List ℕ) (i d : ℕ) → length ks ≤ i → get_or ks i d ≡ d
get_or-end [] i d le = refl
get_or-end (k ∷ ks) zero d le = absurd (omega arith)
get_or-end (k ∷ ks) (suc i) d le = get_or-end ks i d (omega arith)

high-at : (ws : List ℕ) (a count key low top index new_low new_top : ℕ) (ks : List ℕ) → IsPlace ws a count key low top index new_low new_top → count ≡ length ks → ((i : ℕ) → i < length ks → get_or ws (a + i) 0 ≡ get_or ks i 0) → high_of (top + 1) ks index ≡ new_top + 1
high-at ws a count key low top index new_low new_top ks x long same = elim (cases_lt index count) [
  | inl lt ↦ (let less : index < length ks = omega arith in get_or-default ks index (top + 1) 0 less ∙ sym (same index less) ∙ x.ceiling lt)
  | inr ge ↦ get_or-end ks index (top + 1) (omega arith) ∙ ap (λ n. n + 1) (sym (x.last (omega (arith, x.within))))
]

-- one step down
child-of : (ws : List ℕ) (es : List (ℕ × ℕ)) (p low top levels count key index new_low new_top child : ℕ) (free : List ℕ) (heap : IsHeap ws free) (root : Bool) (d : ℕ) (t : Tree d) (before after : List (ℕ × ℕ)) → d + levels ≤ 6 → piece_of d t ≡ p → Stands ws free root low (top + 1) d t → Rising 0 (2 ^ 64) es → es ≡ before ++ (pairs_of d t ++ after) → Below low before → Above top after
    → get_or ws (head p) 0 ≡ 2 * count + 1 → IsPlace ws (at p 1) count key low top index new_low new_top → child ≡ get_or ws (at p 32 + index) 0 → IsUnder ws es child new_low new_top (levels + 1)
child-of ws es p low top levels count key index new_low new_top child free heap root zero t before after few is s rises split smaller greater first x at_child =
    let odd : get_or ws (head t.piece) 0 ≡ 2 * count + 1 = ap (λ q. get_or ws (head q) 0) is ∙ first in
    absurd (omega (arith, odd, s.holds.count))
child-of ws es p low top levels count key index new_low new_top child free heap root (suc d) t before after few is s rises split smaller greater first x at_child =
    let n : InnerAt ws d t = inner-at ws low (top + 1) d t s.holds s.ordered in
    let odd : get_or ws (head t.piece) 0 ≡ 2 * count + 1 = ap (λ q. get_or ws (head q) 0) is ∙ first in
    let long : count ≡ length t.keys = omega (arith, odd, s.holds.0.count) in
    let le : index ≤ length t.keys = omega (arith, x.within) in
    let lt : index < length t.kids = omega (arith, n.long) in
    let keys : (i : ℕ) → i < length t.keys → get_or ws (at p 1 + i) 0 ≡ get_or t.keys i 0 = λ i lt. ap (λ q. get_or ws (at q 1 + i) 0) (sym is) ∙ n.keys i lt in
    let at_low : low_of low t.keys index ≡ new_low = low-at ws (at p 1) count key low top index new_low new_top t.keys x long keys in
    let at_high : high_of (top + 1) t.keys index ≡ new_top + 1 = high-at ws (at p 1) count key low top index new_low new_top t.keys x long keys in
    let bounds = Fans-bounds (Ordered d) low (top + 1) t.keys t.kids index s.ordered in
    let c = get_or t.kids index (bare d) in
    let stands = child-stands ws free root low (top + 1) d t index s le in
    let low_ranks = Fans-ranks (Ordered d) low (top + 1) t.keys t.kids index new_low s.ordered le (omega (arith, at_low)) (omega (arith, at_high, x.above, x.below)) in
    let top_ranks = Fans-ranks (Ordered d) low (top + 1) t.keys t.kids index new_top s.ordered le (omega (arith, at_low, x.above, x.below)) (omega (arith, at_high)) in
    let left = flat_map (pairs_of d) (take index t.kids) in
    let right = flat_map (pairs_of d) (drop (suc index) t.kids) in
    let parts : flat_map (pairs_of d) t.kids ≡ left ++ (pairs_of d c ++ right) = sym (ap (flat_map (pairs_of d)) (set-get_or t.kids index (bare d))) ∙ around (pairs_of d) t.kids index c lt in
    record {
      free = free;
      heap = heap;
      root = false;
      depth = d;
      tree = c;
      few = omega (arith, few);
      is = sym (at_child ∙ ap (λ q. get_or ws (at q 32 + index) 0) (sym is) ∙ n.kids index le);
      stands = subst (λ h. Stands ws free false new_low h d c) at_high (subst (λ l. Stands ws free false l (high_of (top + 1) t.keys index) d c) at_low stands);
      before = before ++ left;
      after = right ++ after;
      rises = rises;
      split = split ∙ ap (λ m. before ++ (m ++ after)) parts ∙ regroup before left (pairs_of d c) right after;
      smaller = All-append (λ (e : ℕ × ℕ). e.0 < new_low) before left
          (All-weaker (λ (e : ℕ × ℕ). e.0 < low) (λ (e : ℕ × ℕ). e.0 < new_low) (λ e h. omega (arith, h, bounds.0, at_low)) before smaller)
          (Fans-before (Ordered d) (pairs_of d) (Ordered-within d) new_low low (top + 1) t.keys t.kids index low_ranks s.ordered);
      greater = All-append (λ (e : ℕ × ℕ). new_top < e.0) right after
          (Fans-after (Ordered d) (pairs_of d) (Ordered-within d) new_top low (top + 1) t.keys t.kids index top_ranks s.ordered)
          (All-weaker (λ (e : ℕ × ℕ). top < e.0) (λ (e : ℕ × ℕ). new_top < e.0) (λ e h. omega (arith, h, bounds.1, at_high)) after greater);
    }
  where
    regroup : (a b c d e : List (ℕ × ℕ)) → a ++ ((b ++ (c ++ d)) ++ e) ≡ (a ++ b) ++ (c ++ (d ++ e))
    regroup a b c d e = simp append_assoc

pub under-child : (ws : List ℕ) (es : List (ℕ × ℕ)) (p low top levels count key index new_low new_top child : ℕ) → IsUnder ws es p low top levels → get_or ws (head p) 0 ≡ 2 * count + 1 → IsPlace ws (at p 1) count key low top index new_low new_top → child ≡ get_or ws (at p 32 + index) 0 → IsUnder ws es child new_low new_top (levels + 1)
under-child ws es p low top levels count key index new_low new_top child u first x at_child =
    child-of ws es p low top levels count key index new_low new_top child u.free u.heap u.root u.depth u.tree u.before u.after u.few u.is u.stands u.rises u.split u.smaller u.greater first x at_child

-- a leaf
leaf-at-end : (ws : List ℕ) (es : List (ℕ × ℕ)) (p low top count : ℕ) (free : List ℕ) (root : Bool) (d : ℕ) (t : Tree d) (before after : List (ℕ × ℕ)) → piece_of d t ≡ p → Stands ws free root low (top + 1) d t → Rising 0 (2 ^ 64) es → es ≡ before ++ (pairs_of d t ++ after) → Below low before → Above top after → get_or ws (head p) 0 ≡ 2 * count → IsLeaf ws es p count low top
leaf-at-end ws es p low top count free root zero t before after is s rises split smaller greater first =
    let even : get_or ws (head t.piece) 0 ≡ 2 * count = ap (λ q. get_or ws (head q) 0) is ∙ first in
    let ks : length (keys_of t.pairs) ≡ count = omega (arith, even, s.holds.count) in
    let vs : length (values_of t.pairs) ≡ count = omega (arith, ks, length-map t.pairs (λ (e : ℕ × ℕ). e.0), length-map t.pairs (λ (e : ℕ × ℕ). e.1)) in
    record {
      before = before;
      pairs = t.pairs;
      after = after;
      rises = rises;
      split = split;
      smaller = smaller;
      greater = greater;
      rising = s.ordered;
      long = omega (arith, even, s.holds.count, length-map t.pairs (λ (e : ℕ × ℕ). e.0));
      keys = sym (subst (λ q. window ws (at q 1) count ≡ keys_of t.pairs) is (subst (λ n. window ws (at t.piece 1) n ≡ keys_of t.pairs) ks s.holds.front));
      values = sym (subst (λ q. window ws (at q 32) count ≡ values_of t.pairs) is (subst (λ n. window ws (at t.piece 32) n ≡ values_of t.pairs) vs s.holds.back));
    }
leaf-at-end ws es p low top count free root (suc d) t before after is s rises split smaller greater first =
    let even : get_or ws (head t.piece) 0 ≡ 2 * count = ap (λ q. get_or ws (head q) 0) is ∙ first in
    absurd (omega (arith, even, s.holds.0.count))

pub under-leaf : (ws : List ℕ) (es : List (ℕ × ℕ)) (p low top levels count : ℕ) → IsUnder ws es p low top levels → get_or ws (head p) 0 ≡ 2 * count → IsLeaf ws es p count low top
under-leaf ws es p low top levels count u first = leaf-at-end ws es p low top count u.free u.root u.depth u.tree u.before u.after u.is u.stands u.rises u.split u.smaller u.greater first

-- the root

under-of : (ws : List ℕ) (es : List (ℕ × ℕ)) (p : ℕ) (x : IsPlanted ws es) → length ws ≤ 536870912 → p ≡ get_or ws 0 0 - 1 → get_or ws 0 0 ≢ 0 → Rooted ws x.free es → IsUnder ws es p 0 (2 ^ 64 - 1) 0
under-of ws es p x small is some (inl e) = absurd (some e.0)
under-of ws es p x small is some (inr t) = record {
  free = x.free;
  heap = x.heap;
  root = true;
  depth = t.0;
  tree = t.1;
  few = omega (arith, depth-few ws x.free t.0 t.1 x.heap t.2.stands.sized t.2.all small);
  is = omega (arith, t.2.root);
  stands = t.2.stands;
  before = [];
  after = [];
  rises = planted-rising ws es x;
  split = t.3 ∙ sym (append-nil (pairs_of t.0 t.1));
  smaller = All-nil (λ (e : ℕ × ℕ). e.0 < 0);
  greater = All-nil (λ (e : ℕ × ℕ). 2 ^ 64 - 1 < e.0);
}

pub root-under : (ws : List ℕ) (es : List (ℕ × ℕ)) (p : ℕ) → IsIndex ws es → length ws ≤ 536870912 → p ≡ get_or ws 0 0 - 1 → get_or ws 0 0 ≢ 0 → IsUnder ws es p 0 (2 ^ 64 - 1) 0
root-under ws es p x small is some = under-of ws es p x.planted small is some x.planted.tree

pub root-none : (ws : List ℕ) (es : List (ℕ × ℕ)) → IsIndex ws es → get_or ws 0 0 ≡ 0 → es ≡ []
root-none ws es x e = Root-empty ws es x.planted e
