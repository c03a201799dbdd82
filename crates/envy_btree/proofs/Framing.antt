-- What a change under one child leaves of its sisters, and what becomes of the node above.
use Rattle.std.proofs.Common.{◌≡◌, ◌≢◌, ℕ, zero, suc, ◌+◌, ◌<◌, ◌≤◌, Bool, false, List, [], ◌∷◌, ◌++◌, length, map, take, drop, get_or, set, refl, ap, sym, subst, ◌∙◌, inl, inr, ltb, arith}
use Rattle.std.specs.List.{All, flat_map, sum_by, insert}
use Rattle.std.proofs.lemmas.Bool.{cases_eq, cases_lt}
use Rattle.std.proofs.lemmas.List.{append_assoc, length-map, length-set, map-set, set-get_or, get_or-set_same, get_or-set_other}
use Rattle.std.proofs.lemmas.List.Sums.{get_or-le-sum_by, sum_by-cons}
use Rattle.std.proofs.lemmas.List.Elements.{All-cons, All-get_or, All-append, All-take, All-drop, All-from_get_or}
use Rattle.envy_heap.specs.Pieces.{IsHeap, handed, head, at}
use Rattle.envy_heap.proofs.Heaps.{one-same, one-le, within}
use Rattle.envy_btree.specs.Tree.{Tree, Ordered, Sized, Holds, Shows, keys_of, values_of, uses, piece_of}
use Rattle.envy_btree.specs.Nodes.{OnlyPiece}
use Rattle.envy_btree.specs.Index.{Stands}
use Rattle.envy_btree.specs.Changes.{Elsewhere}
use Rattle.envy_btree.proofs.Trees.{Fans-long, Fans-at, low_of, high_of}
use Rattle.envy_btree.proofs.Writing.{window-is, window-at}
use Rattle.envy_btree.proofs.Descent.{bare, uses-root, owned-within}

pub Shows-same : (old new : List ℕ) (p kind : ℕ) (keys slots : List ℕ) → at p 63 < length new → length keys ≤ 31 → length slots ≤ 32 → ((i : ℕ) → i < 64 → get_or new (at p i) 0 ≡ get_or old (at p i) 0) → Shows old p kind keys slots → Shows new p kind keys slots
Shows-same old new p kind keys slots within few fewer same s =
    let first : get_or new (head p) 0 ≡ get_or old (head p) 0 = subst (λ a. get_or new a 0 ≡ get_or old a 0) (let e : at p 0 ≡ head p = omega arith in e) (same 0 (omega arith)) in
    record {
      count = first ∙ s.count;
      front = window-is new (at p 1) (length keys) keys refl (omega arith) (λ j lt. subst (λ a. get_or new a 0 ≡ get_or old a 0) (let e : at p (1 + j) ≡ at p 1 + j = omega arith in e) (same (1 + j) (omega arith)) ∙ window-at old (at p 1) (length keys) j keys s.front lt);
      back = window-is new (at p 32) (length slots) slots refl (omega arith) (λ j lt. subst (λ a. get_or new a 0 ≡ get_or old a 0) (let e : at p (32 + j) ≡ at p 32 + j = omega arith in e) (same (32 + j) (omega arith)) ∙ window-at old (at p 32) (length slots) j slots s.back lt);
    }

-- a tree reads only its own pieces
pub Holds-same : (old new : List ℕ) (root : Bool) (low high d : ℕ) (t : Tree d) → ((q : ℕ) → 1 ≤ uses d t q → at q 63 < length new) → ((q i : ℕ) → i < 64 → 1 ≤ uses d t q → get_or new (at q i) 0 ≡ get_or old (at q i) 0) → Ordered d low high t → Sized root d t → Holds old d t → Holds new d t
Holds-same old new root low high zero t within same o s h =
    Shows-same old new t.piece 0 (keys_of t.pairs) (values_of t.pairs) (within t.piece (uses-root 0 t)) (omega (arith, length-map t.pairs (λ (e : ℕ × ℕ). e.0), s.1)) (omega (arith, length-map t.pairs (λ (e : ℕ × ℕ). e.1), s.1)) (λ i lt. same t.piece i lt (uses-root 0 t)) h
Holds-same old new root low high (suc d) t within same o s h = (
  Shows-same old new t.piece 1 t.keys (map (piece_of d) t.kids) (within t.piece (uses-root (suc d) t)) (omega (arith, Fans-long (Ordered d) low high t.keys t.kids o, s.1)) (omega (arith, length-map t.kids (piece_of d), s.1)) (λ i lt. same t.piece i lt (uses-root (suc d) t)) h.0,
  All-from_get_or (Holds new d) t.kids (bare d) (λ j lt.
      let c = get_or t.kids j (bare d) in
      let more : (q : ℕ) → 1 ≤ uses d c q → 1 ≤ uses (suc d) t q = λ q some. omega (arith, get_or-le-sum_by (λ x. uses d x q) t.kids j (bare d) lt) in
      Holds-same old new false (low_of low t.keys j) (high_of high t.keys j) d c (λ q some. within q (more q some)) (λ q i li some. same q i li (more q some)) (Fans-at (Ordered d) low high t.keys t.kids j (bare d) (omega (arith, lt, Fans-long (Ordered d) low high t.keys t.kids o)) o) (All-get_or (Sized false d) t.kids j (bare d) lt s.2) (All-get_or (Holds old d) t.kids j (bare d) lt h.1)),
)

-- two children never use one piece, nor does a child use its parent's
pub sum-two : {C : Type 0} (f : C → ℕ) (cs : List C) (i j : ℕ) (e : C) → i < length cs → j < length cs → j ≢ i → f (get_or cs i e) + f (get_or cs j e) ≤ sum_by f cs
sum-two f [] i j e li lj ne = absurd (omega arith)
sum-two f (c ∷ cs) zero zero e li lj ne = absurd (ne refl)
sum-two f (c ∷ cs) zero (suc j) e li lj ne = omega (arith, sum_by-cons f c cs, get_or-le-sum_by f cs j e (omega arith))
sum-two f (c ∷ cs) (suc i) zero e li lj ne = omega (arith, sum_by-cons f c cs, get_or-le-sum_by f cs i e (omega arith))
sum-two f (c ∷ cs) (suc i) (suc j) e li lj ne = omega (arith, sum_by-cons f c cs, sum-two f cs i j e (omega arith) (omega arith) (λ h. ne (ap (λ x. suc x) h)))

pub handed-le : (ws free : List ℕ) (q : ℕ) → handed ws free q ≤ 1
handed-le ws free q = omega (arith, one-le (ltb q (get_or ws 2 0)))

pub handed-within : (old new free : List ℕ) (q : ℕ) → IsHeap old free → length new ≡ length old → 1 ≤ handed old free q → at q 63 < length new
handed-within old new free q heap long out = omega (arith, (owned-within old free q heap out).0)

-- a change under child i leaves the words of child j
pub sister : (old new free : List ℕ) (root : Bool) (low high d i j : ℕ) (t : Tree (suc d)) → IsHeap old free → Stands old free root low high (suc d) t → i < length t.kids → j < length t.kids → j ≢ i → Elsewhere old new free (uses d (get_or t.kids i (bare d))) → Holds new d (get_or t.kids j (bare d))
sister old new free root low high d i j t heap s li lj ne away =
    let c = get_or t.kids j (bare d) in
    let out : (q : ℕ) → 1 ≤ uses d c q → 1 ≤ handed old free q = λ q some. omega (arith, s.owned q, get_or-le-sum_by (λ x. uses d x q) t.kids j (bare d) lj) in
    let none : (q : ℕ) → 1 ≤ uses d c q → uses d (get_or t.kids i (bare d)) q ≡ 0 = λ q some. omega (arith, s.owned q, handed-le old free q, sum-two (λ x. uses d x q) t.kids i j (bare d) li lj ne) in
    Holds-same old new false (low_of low t.keys j) (high_of high t.keys j) d c (λ q some. handed-within old new free q heap away.long (out q some)) (λ q k lt some. away.others q k lt (out q some) (none q some)) (Fans-at (Ordered d) low high t.keys t.kids j (bare d) (omega (arith, lj, Fans-long (Ordered d) low high t.keys t.kids s.ordered)) s.ordered) (All-get_or (Sized false d) t.kids j (bare d) lj s.sized.2) (All-get_or (Holds old d) t.kids j (bare d) lj s.holds.1)

-- a change under child i leaves the words of the node above
pub parent : (old new free : List ℕ) (root : Bool) (low high d i : ℕ) (t : Tree (suc d)) → IsHeap old free → Stands old free root low high (suc d) t → i < length t.kids → Elsewhere old new free (uses d (get_or t.kids i (bare d))) → Shows new t.piece 1 t.keys (map (piece_of d) t.kids)
parent old new free root low high d i t heap s li away =
    let out : 1 ≤ handed old free t.piece = omega (arith, s.owned t.piece, one-same t.piece) in
    let none : uses d (get_or t.kids i (bare d)) t.piece ≡ 0 = omega (arith, s.owned t.piece, handed-le old free t.piece, one-same t.piece, get_or-le-sum_by (λ x. uses d x t.piece) t.kids i (bare d) li) in
    Shows-same old new t.piece 1 t.keys (map (piece_of d) t.kids) (handed-within old new free t.piece heap away.long out) (omega (arith, Fans-long (Ordered d) low high t.keys t.kids s.ordered, s.sized.1)) (omega (arith, length-map t.kids (piece_of d), s.sized.1)) (λ k lt. away.others t.piece k lt out none) s.holds.0

-- the children hold, one of them another
pub kids-hold : (new : List ℕ) (d i : ℕ) (cs : List (Tree d)) (x : Tree d) → i < length cs → Holds new d x → ((j : ℕ) → j < length cs → j ≢ i → Holds new d (get_or cs j (bare d))) → All (Holds new d) (set cs i x)
kids-hold new d i cs x li h others = All-from_get_or (Holds new d) (set cs i x) (bare d) (λ j lj. elim (cases_eq j i) [
  | inl e ↦ subst (λ y. Holds new d y) (sym (ap (λ k. get_or (set cs i x) k (bare d)) e ∙ get_or-set_same cs i x (bare d) li)) h
  | inr ne ↦ subst (λ y. Holds new d y) (sym (get_or-set_other cs i j x (bare d) ne)) (others j (omega (arith, length-set cs i x)) ne)
])

pub map-insert : {X Y : Type 0} (f : X → Y) (xs : List X) (i : ℕ) (y : X) → map f (insert xs i y) ≡ insert (map f xs) i (f y)
map-insert f [] zero y = refl
map-insert f [] (suc i) y = refl
map-insert f (x ∷ xs) zero y = refl
map-insert f (x ∷ xs) (suc i) y = ap (λ z. f x ∷ z) (map-insert f xs i y)

pub All-insert : {X : Type 0} (P : X → Type 0) (xs : List X) (i : ℕ) (y : X) → P y → All P xs → All P (insert xs i y)
All-insert P xs i y p a = All-append P (take i xs) (y ∷ drop i xs) (All-take P i xs a) (All-cons P y (drop i xs) p (All-drop P i xs a))

pub flat_map-insert : {C : Type 0} (F : C → List (ℕ × ℕ)) (cs : List C) (i : ℕ) (a b : C) → i < length cs → flat_map F (insert (set cs i a) (suc i) b) ≡ flat_map F (take i cs) ++ ((F a ++ F b) ++ flat_map F (drop (suc i) cs))
flat_map-insert F [] i a b lt = absurd (omega arith)
flat_map-insert F (c ∷ cs) zero a b lt = sym (append_assoc (F a) (F b) (flat_map F cs))
flat_map-insert F (c ∷ cs) (suc i) a b lt = ap (λ z. F c ++ z) (flat_map-insert F cs i a b (omega arith)) ∙ sym (append_assoc (F c) (flat_map F (take i cs)) ((F a ++ F b) ++ flat_map F (drop (suc i) cs)))

-- a change within one piece leaves the others
pub other-piece : (mid new : List ℕ) (p q i : ℕ) → i < 64 → (q ≡ p → ⊥) → OnlyPiece p mid new → get_or new (at q i) 0 ≡ get_or mid (at q i) 0
other-piece mid new p q i lt ne only = elim (cases_lt q p) [ inl l ↦ only.before (at q i) (omega arith) | inr ge ↦ only.after (at q i) (let gt : p < q = omega arith in omega arith) ]

-- a child with the same piece leaves the list of pieces
pub pieces-same : (d : ℕ) (cs : List (Tree d)) (i : ℕ) (x : Tree d) → piece_of d x ≡ piece_of d (get_or cs i (bare d)) → map (piece_of d) (set cs i x) ≡ map (piece_of d) cs
pieces-same d cs i x e = map-set (piece_of d) cs i x ∙ ap (λ p. set (map (piece_of d) cs) i p) e ∙ sym (map-set (piece_of d) cs i (get_or cs i (bare d))) ∙ ap (map (piece_of d)) (set-get_or cs i (bare d))
