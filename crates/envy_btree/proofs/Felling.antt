-- The tree of the whole after a removal.
use Rattle.std.proofs.Common.{◌≡◌, ◌≢◌, ℕ, zero, suc, ◌+◌, ◌-◌, ◌^◌, ◌<◌, ◌≤◌, Bool, true, false, List, [], ◌∷◌, length, map, get_or, set, refl, ap, sym, subst, ◌∙◌, inl, inr, None, Some, Result, Ok, Err, OnOk, eqb, arith}
use Rattle.std.specs.List.{All, flat_map, sum_by}
use Rattle.std.proofs.lemmas.Bool.{cases_eq}
use Rattle.std.proofs.lemmas.Bool.Decides.{nat_tests}
use Rattle.std.proofs.lemmas.List.{length-map, length-set, get_or-set_same, get_or-set_other, get_or_past, append-nil}
use Rattle.std.proofs.lemmas.List.Elements.{All-head}
use Rattle.std.proofs.lemmas.List.Sums.{sum_by-cons}
use Rattle.envy_base.specs.declared.board.Trouble.{Trouble}
use Rattle.envy_heap.specs.Pieces.{IsHeap, Freed, handed, head, at, one}
use Rattle.envy_heap.proofs.Heaps.{one-same}
use Rattle.envy_btree.specs.declared.node.Node.{Node}
use Rattle.envy_btree.specs.Pairs.{assoc, without}
use Rattle.envy_btree.specs.Tree.{Tree, Fans, Ordered, Sized, Holds, Shows, uses, piece_of, pairs_of, fewest}
use Rattle.envy_btree.specs.Nodes.{OnlyPiece, kind_of, is_inner, keys_in}
use Rattle.envy_btree.specs.Depths.{IsShallow}
use Rattle.envy_btree.specs.Index.{IsTree, Rooted, IsPlanted}
use Rattle.envy_btree.specs.Changes.{Rests, InHand}
use Rattle.envy_btree.specs.Shrinking.{Shrinks, next_root}
use Rattle.envy_btree.proofs.Maps.{eqb-same}
use Rattle.envy_btree.proofs.Descent.{uses-root, owned-within, Rests-within}
use Rattle.envy_btree.proofs.Framing.{Holds-same, handed-le, handed-within}
use Rattle.envy_btree.proofs.Halving.{keys-long, slots-long, kind-le}
use Rattle.envy_btree.proofs.Holding.{hand-out, settled}
use Rattle.envy_btree.proofs.Planting.{heap-aside, became-planted, planted-aside}

-- a leaf with no pair is gone
felled-leaf : (ws mid mid2 new free : List ℕ) (es : List (ℕ × ℕ)) (p : ℕ) (t : Tree 0) (inner : Bool) (keys slots : List ℕ) → IsTree ws free 0 t → t.piece ≡ p → (h : InHand ws mid free es 0 (2 ^ 64) 0 t inner keys slots) → length keys ≡ 0 → Freed p mid mid2 h.next → new ≡ set mid2 0 (next_root inner slots)
    → IsPlanted new es × (get_or new 3 0 ≡ get_or ws 3 0)
felled-leaf ws mid mid2 new free es p t inner keys slots tree is h none freed e =
    let e0 : new ≡ set mid2 0 0 = e ∙ ap (λ k. set mid2 0 (next_root k slots)) h.lists.kind in
    let a = heap-aside mid2 (p ∷ h.next) 0 0 (omega arith) (omega arith) (omega arith) freed.heap in
    let piece : h.tree.piece ≡ p = h.is ∙ is in
    let empty : h.tree.pairs ≡ [] = nothing h.tree.pairs (omega (arith, ap length h.lists.front, length-map h.tree.pairs (λ (x : ℕ × ℕ). x.0))) in
    let gone : (q : ℕ) → handed mid2 (p ∷ h.next) q ≡ 0 = λ q. omega (arith, freed.now q, h.share q, tree.all q, ap (λ x. one (eqb q x)) piece) in
    subst (λ w. IsPlanted w es × (get_or w 3 0 ≡ get_or ws 3 0)) (sym e0) (
      record {
        free = p ∷ h.next;
        heap = a.0;
        tree = inl (get_or-set_same mid2 0 0 0 (omega (arith, freed.heap.size)), sym h.pairs ∙ empty, λ q. a.1 q ∙ gone q);
      },
      get_or-set_other mid2 0 3 0 0 (omega arith) ∙ freed.touches.others 3 (omega arith) (omega arith) (let ne : 3 ≢ head p = omega arith in ne) ∙ h.elsewhere.first 3 (omega arith) (omega arith) (omega arith),
    )
  where
    nothing : (xs : List (ℕ × ℕ)) → length xs ≡ 0 → xs ≡ []
    nothing [] e = refl
    nothing (x ∷ xs) e = absurd (omega arith)

-- its one child is the root
only-child : {C : Type 0} (P : ℕ → ℕ → C → Type 0) (low high : ℕ) (ks : List ℕ) (cs : List C) → length ks ≡ 0 → Fans P low high ks cs → (c : C) × (cs ≡ c ∷ []) × P low high c
only-child P low high [] [] e f = absurd f
only-child P low high [] (c ∷ []) e f = (c, refl, f)
only-child P low high [] (c ∷ b ∷ cs) e f = absurd f
only-child P low high (k ∷ ks) cs e f = absurd (omega arith)

Sized-root : (d : ℕ) (t : Tree d) → Sized false d t → Sized true d t
Sized-root zero t s = (omega arith, s.1)
Sized-root (suc d) t s = (omega (arith, s.0), s.1, s.2)

felled-inner : (ws mid mid2 new free : List ℕ) (es : List (ℕ × ℕ)) (p d : ℕ) (t : Tree (suc d)) (inner : Bool) (keys slots : List ℕ) → IsTree ws free (suc d) t → t.piece ≡ p → (h : InHand ws mid free es 0 (2 ^ 64) (suc d) t inner keys slots) → length keys ≡ 0 → Freed p mid mid2 h.next → new ≡ set mid2 0 (next_root inner slots)
    → IsPlanted new es × (get_or new 3 0 ≡ get_or ws 3 0)
felled-inner ws mid mid2 new free es p d t inner keys slots tree is h none freed e =
    let o = only-child (Ordered d) 0 (2 ^ 64) h.tree.keys h.tree.kids (omega (arith, ap length h.lists.front)) h.ordered in
    let c = o.0 in
    let slots_are : slots ≡ piece_of d c ∷ [] = h.lists.back ∙ ap (map (piece_of d)) o.1 in
    let v : ℕ = piece_of d c + 1 in
    let e0 : new ≡ set mid2 0 v = e ∙ ap (λ k. set mid2 0 (next_root k slots)) h.lists.kind ∙ ap (λ x. set mid2 0 (get_or x 0 0 + 1)) slots_are in
    let a = heap-aside mid2 (p ∷ h.next) 0 v (omega arith) (omega arith) (omega arith) freed.heap in
    let piece : h.tree.piece ≡ p = h.is ∙ is in
    let whole : (q : ℕ) → sum_by (λ x. uses d x q) h.tree.kids ≡ uses d c q = λ q. ap (λ x. sum_by (λ y. uses d y q) x) o.1 ∙ (let z : sum_by (λ y. uses d y q) (c ∷ []) ≡ uses d c q = omega (arith, sum_by-cons (λ y. uses d y q) c []) in z) in
    let now : (q : ℕ) → handed mid2 (p ∷ h.next) q ≡ uses d c q = λ q. omega (arith, freed.now q, h.share q, tree.all q, ap (λ x. one (eqb q x)) piece, whole q) in
    let held : All (Holds mid d) (c ∷ []) = subst (λ x. All (Holds mid d) x) o.1 h.loose in
    let sized : All (Sized false d) (c ∷ []) = subst (λ x. All (Sized false d) x) o.1 h.kids in
    let size : Sized false d c = All-head (Sized false d) c [] sized in
    let apart : (q : ℕ) → 1 ≤ uses d c q → q ≢ p = λ q some z. absurd (let y : one (eqb q p) ≡ 1 = subst (λ x. one (eqb q x) ≡ 1) z (one-same q) in omega (arith, freed.now q, now q, handed-le mid h.next q)) in
    let long : length (set mid2 0 v) ≡ length mid = length-set mid2 0 v ∙ freed.touches.long in
    let holds : Holds (set mid2 0 v) d c = Holds-same mid (set mid2 0 v) false 0 (2 ^ 64) d c
    (λ q some. handed-within mid (set mid2 0 v) h.next q h.heap long (omega (arith, freed.now q, now q)))
    (λ q i lt some. get_or-set_other mid2 0 (at q i) v 0 (let ne : at q i ≢ 0 = omega arith in ne) ∙ freed.touches.others (at q i) (omega arith) (omega arith) (let ne : q ≢ p = apart q some in let z : at q i ≢ head p = omega arith in z)) o.2 size (All-head (Holds mid d) c [] held) in
    subst (λ w. IsPlanted w es × (get_or w 3 0 ≡ get_or ws 3 0)) (sym e0) (
      record {
        free = p ∷ h.next;
        heap = a.0;
        tree = inr (
          d,
          c,
          record {
            root = get_or-set_same mid2 0 v 0 (omega (arith, freed.heap.size));
            stands = record { holds = holds; ordered = o.2; sized = Sized-root d c size; owned = λ q. omega (arith, a.1 q, now q) };
            all = λ q. omega (arith, a.1 q, now q);
          },
          sym h.pairs ∙ ap (flat_map (pairs_of d)) o.1 ∙ append-nil (pairs_of d c),
        );
      },
      get_or-set_other mid2 0 3 v 0 (omega arith) ∙ freed.touches.others 3 (omega arith) (omega arith) (let ne : 3 ≢ head p = omega arith in ne) ∙ h.elsewhere.first 3 (omega arith) (omega arith) (omega arith),
    )

-- what a removal at the root comes to
pub record Uproots (ws : List ℕ) (es : List (ℕ × ℕ)) (p level key : ℕ) : Type 0 where
  pub rests : Rests ws p level
  pub same : (new : List ℕ) → Shrinks ws new p level key rests None → IsPlanted new (without key es) × (get_or new 3 0 ≡ get_or ws 3 0)
  pub few : (mid : List ℕ) (n : Node) → Shrinks ws mid p level key rests (Some n) → (length n.keys.items ≤ 14) × (length n.slots.items ≤ 15)
  pub ready : (mid : List ℕ) (n : Node) → Shrinks ws mid p level key rests (Some n) → (free : List ℕ) × IsHeap mid free × (handed mid free p ≡ 1)
  pub child : (mid : List ℕ) (n : Node) → Shrinks ws mid p level key rests (Some n) → n.inner ≡ true → 1 ≤ length n.slots.items
  pub fits : (mid : List ℕ) (n : Node) → Shrinks ws mid p level key rests (Some n) → length n.keys.items ≡ 0 → length mid < 2 ^ 32 → get_or n.slots.items 0 0 < 2 ^ 32
  pub kept : (mid new : List ℕ) (n : Node) → Shrinks ws mid p level key rests (Some n) → 1 ≤ length n.keys.items → Shows new p (one n.inner) n.keys.items n.slots.items → OnlyPiece p mid new → IsPlanted new (without key es) × (get_or new 3 0 ≡ get_or ws 3 0)
  pub gone : (mid new : List ℕ) (n : Node) → Shrinks ws mid p level key rests (Some n) → length n.keys.items ≡ 0 → ((free : List ℕ) → IsHeap mid free → handed mid free p ≡ 1 → (mid2 : List ℕ) × Freed p mid mid2 free × (new ≡ set mid2 0 (next_root n.inner n.slots.items))) → IsPlanted new (without key es) × (get_or new 3 0 ≡ get_or ws 3 0)

felled : (ws mid mid2 new free : List ℕ) (es : List (ℕ × ℕ)) (p d : ℕ) (t : Tree d) (inner : Bool) (keys slots : List ℕ) → IsTree ws free d t → piece_of d t ≡ p → (h : InHand ws mid free es 0 (2 ^ 64) d t inner keys slots) → length keys ≡ 0 → Freed p mid mid2 h.next → new ≡ set mid2 0 (next_root inner slots)
    → IsPlanted new es × (get_or new 3 0 ≡ get_or ws 3 0)
felled ws mid mid2 new free es p zero t inner keys slots tree is h none freed e = felled-leaf ws mid mid2 new free es p t inner keys slots tree is h none freed e
felled ws mid mid2 new free es p (suc d) t inner keys slots tree is h none freed e = felled-inner ws mid mid2 new free es p d t inner keys slots tree is h none freed e

fits-of : (ws mid free : List ℕ) (es : List (ℕ × ℕ)) (d : ℕ) (t : Tree d) (inner : Bool) (keys slots : List ℕ) → (h : InHand ws mid free es 0 (2 ^ 64) d t inner keys slots) → length keys ≡ 0 → length mid < 2 ^ 32 → get_or slots 0 0 < 2 ^ 32
fits-of ws mid free es zero t inner keys slots h none small =
    let few : length slots ≡ 0 = omega (arith, ap length h.lists.back, slots-long 0 h.tree, keys-long 0 (2 ^ 64) 0 h.tree h.ordered, ap length h.lists.front) in
    let first : get_or slots 0 0 ≡ 0 = get_or_past slots 0 0 (omega arith) in
    omega arith
fits-of ws mid free es (suc d) t inner keys slots h none small =
    let o = only-child (Ordered d) 0 (2 ^ 64) h.tree.keys h.tree.kids (omega (arith, ap length h.lists.front)) h.ordered in
    let c = o.0 in
    let first : get_or slots 0 0 ≡ piece_of d c = ap (λ x. get_or x 0 0) (h.lists.back ∙ ap (map (piece_of d)) o.1) in
    let whole : sum_by (λ x. uses d x (piece_of d c)) h.tree.kids ≡ uses d c (piece_of d c) = ap (λ x. sum_by (λ y. uses d y (piece_of d c)) x) o.1 ∙ (let z : sum_by (λ y. uses d y (piece_of d c)) (c ∷ []) ≡ uses d c (piece_of d c) = omega (arith, sum_by-cons (λ y. uses d y (piece_of d c)) c []) in z) in
    let out : 1 ≤ handed mid h.next (piece_of d c) = omega (arith, h.owned (piece_of d c), uses-root d c) in
    omega (arith, (owned-within mid h.next (piece_of d c) h.heap out).0)

fewest-one : (d n : ℕ) → 1 ≤ n → fewest true d ≤ n + kind_of d
fewest-one zero n le = omega arith
fewest-one (suc d) n le = omega arith

uproots-of : (ws : List ℕ) (es : List (ℕ × ℕ)) (p level key : ℕ) (x : IsPlanted ws es) → IsShallow ws level → p ≡ get_or ws 0 0 - 1 → get_or ws 0 0 ≢ 0 → Rooted ws x.free es → Uproots ws es p level key
uproots-of ws es p level key x small is some (inl e) = absurd (some e.0)
uproots-of ws es p level key x small is some (inr t) =
    let here : piece_of t.0 t.1 ≡ p = omega (arith, t.2.root) in
    let levels : t.0 ≤ level = small x.free t.0 t.1 x.heap t.2 in
    let after = without key (pairs_of t.0 t.1) in
    let back : (new : List ℕ) → IsPlanted new after × (get_or new 3 0 ≡ get_or ws 3 0) → IsPlanted new (without key es) × (get_or new 3 0 ≡ get_or ws 3 0) = λ new y. subst (λ e. IsPlanted new (without key e) × (get_or new 3 0 ≡ get_or ws 3 0)) (sym t.3) y in
    record {
      rests = record { free = x.free; heap = x.heap; root = true; low = 0; high = 2 ^ 64; depth = t.0; tree = t.1; few = levels; is = here; stands = t.2.stands };
      same = λ new b. back new (became-planted ws new x.free after t.0 t.1 t.2 b);
      few = λ mid n h. (h.few, omega (arith, h.few, ap length h.hand.lists.back, slots-long t.0 h.hand.tree, keys-long 0 (2 ^ 64) t.0 h.hand.tree h.hand.ordered, ap length h.hand.lists.front, kind-le t.0));
      ready = λ mid n h. (h.hand.next, h.hand.heap, omega (arith, handed-le mid h.hand.next p, subst (λ y. 1 ≤ handed mid h.hand.next y) (h.hand.is ∙ here) (hand-out ws mid x.free after 0 (2 ^ 64) t.0 t.1 n.inner n.keys.items n.slots.items h.hand)));
      child = λ mid n h e. some-slot (length n.slots.items) (length (keys_in t.0 h.hand.tree)) t.0 (sym e ∙ h.hand.lists.kind) (ap length h.hand.lists.back ∙ slots-long t.0 h.hand.tree ∙ sym (keys-long 0 (2 ^ 64) t.0 h.hand.tree h.hand.ordered));
      fits = λ mid n h none few. fits-of ws mid x.free after t.0 t.1 n.inner n.keys.items n.slots.items h.hand none few;
      kept = λ mid new n h le shows only. back new (became-planted ws new x.free after t.0 t.1 t.2
          (settled ws mid new x.free after true 0 (2 ^ 64) t.0 t.1 n.inner n.keys.items n.slots.items h.hand (subst (λ y. fewest true t.0 ≤ y) (ap (λ y. length y + kind_of t.0) h.hand.lists.front ∙ keys-long 0 (2 ^ 64) t.0 h.hand.tree h.hand.ordered) (fewest-one t.0 (length n.keys.items) le)) (omega (arith, h.few)) (subst (λ y. Shows new y (one n.inner) n.keys.items n.slots.items) (sym here) shows) (subst (λ y. OnlyPiece y mid new) (sym here) only)));
      gone = λ mid new n h none made.
          let out : handed mid h.hand.next p ≡ 1 = omega (arith, handed-le mid h.hand.next p, subst (λ y. 1 ≤ handed mid h.hand.next y) (h.hand.is ∙ here) (hand-out ws mid x.free after 0 (2 ^ 64) t.0 t.1 n.inner n.keys.items n.slots.items h.hand)) in
          let m = made h.hand.next h.hand.heap out in
          back new (felled ws mid m.0 new x.free after p t.0 t.1 n.inner n.keys.items n.slots.items t.2 here h.hand none m.1 m.2);
    }
  where
    some-slot : (m k d : ℕ) → true ≡ is_inner d → m ≡ k + kind_of d → 1 ≤ m
    some-slot m k zero e f = absurd (cc)
    some-slot m k (suc d) e f = omega arith

pub planted-uproots : (ws : List ℕ) (es : List (ℕ × ℕ)) (p level key : ℕ) → IsPlanted ws es → IsShallow ws level → p ≡ get_or ws 0 0 - 1 → get_or ws 0 0 ≢ 0 → Uproots ws es p level key
planted-uproots ws es p level key x small is some = uproots-of ws es p level key x small is some x.tree

none-of : (ws : List ℕ) (es : List (ℕ × ℕ)) (key : ℕ) (x : IsPlanted ws es) → get_or ws 0 0 ≡ 0 → Rooted ws x.free es → without key es ≡ es
none-of ws es key x e (inl n) = ap (without key) n.1 ∙ sym n.1
none-of ws es key x e (inr t) = absurd (omega (arith, t.2.root))

-- there is nothing to take out
pub planted-none : (ws : List ℕ) (es : List (ℕ × ℕ)) (key : ℕ) → IsPlanted ws es → get_or ws 0 0 ≡ 0 → IsPlanted ws (without key es)
planted-none ws es key x e = subst (λ y. IsPlanted ws y) (sym (none-of ws es key x e x.tree)) x

-- the same, of what the functions have at hand
pub gone-ok : (ws mid new : List ℕ) (es : List (ℕ × ℕ)) (p level key : ℕ) (n : Node) (r : Result Unit Trouble) → (u : Uproots ws es p level key) → Shrinks ws mid p level key u.rests (Some n) → length n.keys.items ≡ 0
    → ((free : List ℕ) → IsHeap mid free → handed mid free p ≡ 1 → OnOk r ((mid2 : List ℕ) × Freed p mid mid2 free × (new ≡ set mid2 0 (next_root n.inner n.slots.items)))) → OnOk r (IsPlanted new (without key es) × (get_or new 3 0 ≡ get_or ws 3 0))
gone-ok ws mid new es p level key n (Ok done) u h none made = u.gone mid new n h none made
gone-ok ws mid new es p level key n (Err e) u h none made = tt

pub kept-ok : (ws mid new : List ℕ) (es : List (ℕ × ℕ)) (p level key : ℕ) (n : Node) (r : Result Unit Trouble) → (u : Uproots ws es p level key) → Shrinks ws mid p level key u.rests (Some n) → 1 ≤ length n.keys.items
    → OnOk r (Shows new p (one n.inner) n.keys.items n.slots.items) → OnOk r (OnlyPiece p mid new) → OnOk r (IsPlanted new (without key es) × (get_or new 3 0 ≡ get_or ws 3 0))
kept-ok ws mid new es p level key n (Ok done) u h le shows only = u.kept mid new n h le shows only
kept-ok ws mid new es p level key n (Err e) u h le shows only = tt

pub rests-fits : (ws : List ℕ) (p level : ℕ) → length ws < 2 ^ 32 → Rests ws p level → p < 2 ^ 32
rests-fits ws p level few r = omega (arith, (Rests-within ws p level r).0)

-- how many pairs there are without the key
pub without-missing : (key : ℕ) (es : List (ℕ × ℕ)) → assoc key es ≡ None → without key es ≡ es
without-missing key [] none = refl
without-missing key (e ∷ es) none = elim (cases_eq e.0 key) [
  | inl same ↦ absurd (let no = (rw (same, eqb-same key) at none) in cc)
  | inr ne ↦ (let test : eqb e.0 key ≡ false = grind (arith, nat_tests) in let rest : assoc key es ≡ None = (rw test at none) in rw test (ap (λ x. e ∷ x) (without-missing key es rest)))
]

pub without-present : (key v : ℕ) (es : List (ℕ × ℕ)) → assoc key es ≡ Some v → length (without key es) + 1 ≡ length es
without-present key v [] some = absurd (cc)
without-present key v (e ∷ es) some = elim (cases_eq e.0 key) [
  | inl same ↦ rw (same, eqb-same key) (omega arith)
  | inr ne ↦ (let test : eqb e.0 key ≡ false = grind (arith, nat_tests) in let rest : assoc key es ≡ Some v = (rw test at some) in rw test (let h = without-present key v es rest in omega arith))
]

pub removed-inside-ok : (old mid new : List ℕ) (es : List (ℕ × ℕ)) (key n : ℕ) (r : Result Unit Trouble) → IsPlanted old es → mid ≡ set old 3 n → 640 ≤ length old
    → ((es : List (ℕ × ℕ)) → IsPlanted mid es → OnOk r (IsPlanted new (without key es) × (get_or new 3 0 ≡ get_or mid 3 0))) → OnOk r (IsPlanted new (without key es) × (get_or new 3 0 ≡ n))
removed-inside-ok old mid new es key n (Ok done) x is many f =
    let a = f es (subst (λ w. IsPlanted w es) (sym is) (planted-aside old es n x)) in
    (a.0, a.1 ∙ ap (λ w. get_or w 3 0) is ∙ get_or-set_same old 3 n 0 (omega arith))
removed-inside-ok old mid new es key n (Err e) x is many f = tt

pub some-pair : (n key value : ℕ) (es : List (ℕ × ℕ)) → n ≡ length es → assoc key es ≡ Some value → 1 ≤ n
some-pair n key value es is some = omega (arith, without-present key value es some)
