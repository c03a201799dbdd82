-- How many nodes a tree has, against its pairs, its depth and the pieces.
use Rattle.std.proofs.Common.{◌≡◌, ℕ, zero, suc, ◌+◌, ◌-◌, ◌*◌, ◌<◌, ◌≤◌, true, false, List, [], ◌∷◌, length, get_or, refl, ap, sym, subst, ◌∙◌, inl, inr, eqb, ltb, arith}
use Rattle.std.specs.List.{All, sum_by}
use Rattle.std.proofs.Math.Nat.{mul-le-mul_right}
use Rattle.std.proofs.lemmas.Bool.{cases_eq, cases_lt}
use Rattle.std.proofs.lemmas.List.Concat.{length-flat_map}
use Rattle.std.proofs.lemmas.List.Sums.{sum_by-cons}
use Rattle.std.proofs.lemmas.List.Elements.{All-head, All-tail}
use Rattle.envy_heap.specs.Pieces.{IsHeap, handed, pieces, spare, one, times}
use Rattle.envy_heap.proofs.Heaps.{one-same, one-apart, one-lt, one-ge, lt-one, times-cons, free-below}
use Rattle.envy_btree.specs.Depths.{most_levels}
use Rattle.envy_btree.specs.Tree.{Tree, uses, Sized, pairs_of}

-- the sum of f below n
abbrev pub total : (ℕ → ℕ) → ℕ → ℕ
total f zero = 0
total f (suc n) = total f n + f n

abbrev pub nodes : (d : ℕ) → Tree d → ℕ
nodes zero t = 1
nodes (suc d) t = 1 + sum_by (nodes d) t.kids

total-add : (f g h : ℕ → ℕ) (n : ℕ) → ((q : ℕ) → h q ≡ f q + g q) → total h n ≡ total f n + total g n
total-add f g h zero e = refl
total-add f g h (suc n) e = omega (arith, total-add f g h n e, e n)

total-none : (p n : ℕ) → n ≤ p → total (λ q. one (eqb q p)) n ≡ 0
total-none p zero le = refl
total-none p (suc n) le = omega (arith, total-none p n (omega arith), one-apart n p (omega arith))

total-one : (p n : ℕ) → p < n → total (λ q. one (eqb q p)) n ≡ 1
total-one p zero lt = absurd (omega arith)
total-one p (suc n) lt = elim (cases_eq n p) [
  | inl e ↦ omega (arith, total-none p n (omega arith), subst (λ x. one (eqb n x) ≡ 1) e (one-same n))
  | inr ne ↦ omega (arith, total-one p n (omega arith), one-apart n p ne)
]

total-all : (u n : ℕ) → n ≤ u → total (λ q. one (ltb q u)) n ≡ n
total-all u zero h = refl
total-all u (suc n) h = omega (arith, total-all u n (omega arith), one-lt n u (omega arith))

pub total-below : (u n : ℕ) → u ≤ n → total (λ q. one (ltb q u)) n ≡ u
total-below u zero le = omega arith
total-below u (suc n) le = elim (cases_lt n u) [
  | inl lt ↦ omega (arith, total-all u (suc n) (omega arith))
  | inr ge ↦ omega (arith, total-below u n ge, one-ge n u ge)
]

-- a sum of sums, the other way round
total-sum : {C : Type 0} (f : C → ℕ → ℕ) (cs : List C) (n : ℕ) → total (λ q. sum_by (λ c. f c q) cs) n ≡ sum_by (λ c. total (f c) n) cs
total-sum f [] n = nothing n
  where
    nothing : (n : ℕ) → total (λ q. 0) n ≡ 0
    nothing zero = refl
    nothing (suc n) = omega (arith, nothing n)
total-sum f (c ∷ cs) n = total-add (f c) (λ q. sum_by (λ x. f x q) cs) (λ q. sum_by (λ x. f x q) (c ∷ cs)) n (λ q. sum_by-cons (λ x. f x q) c cs) ∙ ap (λ x. total (f c) n + x) (total-sum f cs n) ∙ sym (sum_by-cons (λ x. total (f x) n) c cs)

kids-total : (d n : ℕ) → ((t : Tree d) → ((q : ℕ) → 1 ≤ uses d t q → q < n) → nodes d t ≡ total (uses d t) n) → (cs : List (Tree d)) → ((q : ℕ) → 1 ≤ sum_by (λ c. uses d c q) cs → q < n) → sum_by (nodes d) cs ≡ sum_by (λ c. total (uses d c) n) cs
kids-total d n each [] h = refl
kids-total d n each (c ∷ cs) h =
    omega (arith, sum_by-cons (nodes d) c cs, sum_by-cons (λ x. total (uses d x) n) c cs, each c (λ q some. h q (omega (arith, sum_by-cons (λ x. uses d x q) c cs))), kids-total d n each cs (λ q some. h q (omega (arith, sum_by-cons (λ x. uses d x q) c cs))))

-- each node stands below n
pub nodes-total : (d : ℕ) (t : Tree d) (n : ℕ) → ((q : ℕ) → 1 ≤ uses d t q → q < n) → nodes d t ≡ total (uses d t) n
nodes-total zero t n below = sym (total-one t.piece n (below t.piece (omega (arith, one-same t.piece))))
nodes-total (suc d) t n below =
    let here : total (λ q. one (eqb q t.piece)) n ≡ 1 = total-one t.piece n (below t.piece (omega (arith, one-same t.piece))) in
    let whole = total-add (λ q. one (eqb q t.piece)) (λ q. sum_by (λ c. uses d c q) t.kids) (uses (suc d) t) n (λ q. refl) in
    omega (arith, here, whole, total-sum (uses d) t.kids n, kids-total d n (λ c b. nodes-total d c n b) t.kids (λ q some. below q (omega arith)))

kids-pairs : (d : ℕ) → ((t : Tree d) → Sized false d t → 225 * nodes d t + 15 ≤ 16 * length (pairs_of d t)) → (cs : List (Tree d)) → All (Sized false d) cs → 225 * sum_by (nodes d) cs + 15 * length cs ≤ 16 * sum_by (λ c. length (pairs_of d c)) cs
kids-pairs d each [] a = omega arith
kids-pairs d each (c ∷ cs) a =
    omega (arith, sum_by-cons (nodes d) c cs, sum_by-cons (λ x. length (pairs_of d x)) c cs, each c (All-head (Sized false d) c cs a), kids-pairs d each cs (All-tail (Sized false d) c cs a))

-- pairs enough for so many nodes
pub nodes-pairs : (d : ℕ) (t : Tree d) → Sized false d t → 225 * nodes d t + 15 ≤ 16 * length (pairs_of d t)
nodes-pairs zero t s = omega (arith, s.0)
nodes-pairs (suc d) t s = omega (arith, s.0, kids-pairs d (λ c b. nodes-pairs d c b) t.kids s.2, length-flat_map (pairs_of d) t.kids)

-- and for those of a whole tree
pub root-pairs : (d : ℕ) (t : Tree d) → Sized true d t → 225 * nodes d t ≤ 16 * length (pairs_of d t) + 225
root-pairs zero t s = omega arith
root-pairs (suc d) t s = omega (arith, kids-pairs d (λ c b. nodes-pairs d c b) t.kids s.2, length-flat_map (pairs_of d) t.kids)

-- nodes enough for so many levels
abbrev pub wide : ℕ → ℕ
wide zero = 1
wide (suc d) = 16 * wide d

kids-wide : (d : ℕ) → ((t : Tree d) → Sized false d t → wide d ≤ nodes d t) → (cs : List (Tree d)) → All (Sized false d) cs → length cs * wide d ≤ sum_by (nodes d) cs
kids-wide d each [] a = omega arith
kids-wide d each (c ∷ cs) a =
    let more : suc (length cs) * wide d ≡ wide d + length cs * wide d = omega arith in
    omega (arith, more, sum_by-cons (nodes d) c cs, each c (All-head (Sized false d) c cs a), kids-wide d each cs (All-tail (Sized false d) c cs a))

pub nodes-wide : (d : ℕ) (t : Tree d) → Sized false d t → wide d ≤ nodes d t
nodes-wide zero t s = omega arith
nodes-wide (suc d) t s = omega (arith, mul-le-mul_right (wide d) s.0, kids-wide d (λ c b. nodes-wide d c b) t.kids s.2)

wide-some : (d : ℕ) → 1 ≤ wide d
wide-some zero = omega arith
wide-some (suc d) = omega (arith, wide-some d)

-- a tree of at most 2^19 nodes has at most five levels of inner nodes
levels-five : (d : ℕ) (t : Tree d) → Sized true d t → nodes d t ≤ 524288 → d ≤ 5
levels-five zero t s few = omega arith
levels-five (suc zero) t s few = omega arith
levels-five (suc (suc zero)) t s few = omega arith
levels-five (suc (suc (suc zero))) t s few = omega arith
levels-five (suc (suc (suc (suc zero)))) t s few = omega arith
levels-five (suc (suc (suc (suc (suc zero))))) t s few = omega arith
levels-five (suc (suc (suc (suc (suc (suc d)))))) t s few =
    let e : ℕ = suc (suc (suc (suc (suc d)))) in
    absurd (omega (arith, wide-some d, mul-le-mul_right (wide e) s.0, kids-wide e (λ c b. nodes-wide e c b) t.kids s.2))

-- and one of at most 2^23 at most six
levels-six : (d : ℕ) (t : Tree d) → Sized true d t → nodes d t ≤ 8388608 → d ≤ 6
levels-six zero t s few = omega arith
levels-six (suc zero) t s few = omega arith
levels-six (suc (suc zero)) t s few = omega arith
levels-six (suc (suc (suc zero))) t s few = omega arith
levels-six (suc (suc (suc (suc zero)))) t s few = omega arith
levels-six (suc (suc (suc (suc (suc zero))))) t s few = omega arith
levels-six (suc (suc (suc (suc (suc (suc zero)))))) t s few = omega arith
levels-six (suc (suc (suc (suc (suc (suc (suc d))))))) t s few =
    let e : ℕ = suc (suc (suc (suc (suc (suc d))))) in
    absurd (omega (arith, wide-some d, mul-le-mul_right (wide e) s.0, kids-wide e (λ c b. nodes-wide e c b) t.kids s.2))

total-zero : (n : ℕ) → total (λ q. 0) n ≡ 0
total-zero zero = refl
total-zero (suc n) = omega (arith, total-zero n)

times-total : (free : List ℕ) (n : ℕ) → ((p : ℕ) → 1 ≤ times free p → p < n) → total (times free) n ≡ length free
times-total [] n h = total-zero n
times-total (p ∷ ps) n h =
    omega (arith, total-add (λ q. one (eqb q p)) (times ps) (times (p ∷ ps)) n (λ q. times-cons p ps q), total-one p n (h p (omega (arith, times-cons p ps p, one-same p))), times-total ps n (λ q some. h q (omega (arith, times-cons p ps q))))

pub handed-total : (ws free : List ℕ) → IsHeap ws free → total (handed ws free) (pieces ws) + length free ≡ get_or ws 2 0
handed-total ws free h =
    let u : ℕ = get_or ws 2 0 in
    let parts = total-add (handed ws free) (times free) (λ q. one (ltb q u)) (pieces ws) (λ q. omega (arith, h.once q)) in
    omega (arith, parts, total-below u (pieces ws) h.used, times-total free (pieces ws) (λ q some. let lt = free-below ws free q h some in omega (arith, lt, h.used)))

total-same : (f g : ℕ → ℕ) (n : ℕ) → ((q : ℕ) → f q ≡ g q) → total f n ≡ total g n
total-same f g zero e = refl
total-same f g (suc n) e = omega (arith, total-same f g n e, e n)

-- the pieces that aren't handed out are those that aren't nodes
pub spare-nodes : (ws free : List ℕ) (d : ℕ) (t : Tree d) → IsHeap ws free → ((q : ℕ) → uses d t q ≡ handed ws free q) → spare ws free + nodes d t ≡ pieces ws
spare-nodes ws free d t h all =
    let below : (q : ℕ) → 1 ≤ uses d t q → q < pieces ws = λ q some. let lt = lt-one q (get_or ws 2 0) (omega (arith, all q)) in omega (arith, lt, h.used) in
    omega (arith, nodes-total d t (pieces ws) below, total-same (uses d t) (handed ws free) (pieces ws) all, handed-total ws free h, h.used)

-- there are always pieces for an insertion: at most one a level, and a new root
pub spare-enough : (ws free : List ℕ) (d : ℕ) (t : Tree d) → IsHeap ws free → Sized true d t → ((q : ℕ) → uses d t q ≡ handed ws free q) → length (pairs_of d t) ≤ 14 * (pieces ws - 8) → 8 ≤ spare ws free
spare-enough ws free d t h s all few = omega (arith, spare-nodes ws free d t h all, root-pairs d t s, h.size)

-- none is used where none is handed out
pub spare-all : (ws free : List ℕ) → IsHeap ws free → ((q : ℕ) → handed ws free q ≡ 0) → spare ws free ≡ pieces ws
spare-all ws free h none = omega (arith, handed-total ws free h, total-same (handed ws free) (λ q. 0) (pieces ws) none, total-zero (pieces ws), h.used)

-- the levels of a tree in at most 2^29 words
pub depth-few : (ws free : List ℕ) (d : ℕ) (t : Tree d) → IsHeap ws free → Sized true d t → ((q : ℕ) → uses d t q ≡ handed ws free q) → length ws ≤ 536870912 → d ≤ most_levels (length ws)
depth-few ws free d t h s all few = elim (cases_lt (length ws) 33554433) [
  | inl lt ↦ omega (arith, lt, levels-five d t s (omega (arith, lt, spare-nodes ws free d t h all)))
  | inr ge ↦ omega (arith, ge, levels-six d t s (omega (arith, spare-nodes ws free d t h all)))
]
