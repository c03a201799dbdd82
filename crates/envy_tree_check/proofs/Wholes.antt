-- A check that finds no fault has seen a map, and one whose counts differ has seen why.
use Rattle.std.proofs.Common.{◌≡◌, ◌≢◌, ◌⊎◌, ℕ, zero, suc, ◌+◌, ◌-◌, ◌*◌, ◌^◌, ◌<◌, ◌≤◌, min, Bool, true, false, List, [], ◌∷◌, length, get_or, refl, ap, sym, subst, ◌∙◌, inl, inr, eqb, ltb, arith}
use Rattle.std.proofs.lemmas.Bool.{cases_lt}
use Rattle.envy_heap.specs.Pieces.{IsHeap, handed, one, pieces, times}
use Rattle.envy_heap.proofs.Heaps.{free-below, lt-one, one-ge}
use Rattle.envy_btree.specs.Index.{IsIndex, IsPlanted, IsTree, Rooted, Stands, most_pairs}
use Rattle.envy_btree.specs.Rules.{Leads, pairs_under}
use Rattle.envy_btree.specs.Tree.{Tree, pairs_of, piece_of, uses}
use Rattle.envy_btree.proofs.Counting.{handed-total, nodes, nodes-total, total}
use Rattle.envy_btree.proofs.Descent.{uses-root}
use Rattle.envy_btree.proofs.Framing.{handed-le}
use Rattle.envy_btree.proofs.Walking.{reach}
use Rattle.envy_tree_check.specs.Faults.{HasLost}
use Rattle.envy_tree_check.specs.Grown.{Grows, IsRooted, IsSeen, capped, nodes_under}
use Rattle.envy_tree_check.proofs.Apart.{uses-once}
use Rattle.envy_tree_check.proofs.Counted.{nodes-same, pairs-same}

-- Sums below a number

total-le : (f g : ℕ → ℕ) (n : ℕ) → ((q : ℕ) → f q ≤ g q) → total f n ≤ total g n
total-le f g zero le = omega arith
total-le f g (suc n) le = omega (arith, total-le f g n le, le n)

total-each : (f g : ℕ → ℕ) (n q : ℕ) → ((q : ℕ) → f q ≤ g q) → total f n ≡ total g n → q < n → f q ≡ g q
total-each f g zero q le e lt = absurd (omega arith)
total-each f g (suc n) q le e lt = elim (cases_lt q n) [
  | inl below ↦ total-each f g n q le (omega (arith, e, le n, total-le f g n le)) below
  | inr ge ↦
      let is : q ≡ n = omega arith in
      let last : f n ≡ g n = omega (arith, e, le n, total-le f g n le) in
      subst (λ x. f x ≡ g x) (sym is) last
]

total-less : (f g : ℕ → ℕ) (n : ℕ) → total f n < total g n → (q : ℕ) × (q < n) × (f q < g q)
total-less f g zero lt = absurd (omega arith)
total-less f g (suc n) lt = go (cases_lt (f n) (g n)) (total-less f g n)
  where
    go : (f n < g n) ⊎ (g n ≤ f n) → (total f n < total g n → (q : ℕ) × (q < n) × (f q < g q)) → (q : ℕ) × (q < suc n) × (f q < g q)
    go (inl here) more = (n, omega arith, here)
    go (inr ge) more = let r = more (omega (arith, lt, ge)) in (r.0, omega (arith, r.1), r.2)

total-zeros : (n : ℕ) → total (λ q. 0) n ≡ 0
total-zeros zero = refl
total-zeros (suc n) = omega (arith, total-zeros n)

-- The nodes of a tree that was seen

uses-handed : (ws free : List ℕ) (d root : ℕ) (g : Grows ws free true 0 (2 ^ 64) d root) (q : ℕ) → uses d g.tree q ≤ handed ws free q
uses-handed ws free d root g q = elim (cases_lt 0 (uses d g.tree q)) [
  | inl some ↦ omega (arith, g.owned q some, uses-once ws true 0 (2 ^ 64) d g.tree q g.holds g.ordered g.sized)
  | inr none ↦ omega (arith, none)
]

stands-of : (ws free : List ℕ) (d root : ℕ) (g : Grows ws free true 0 (2 ^ 64) d root) → Stands ws free true 0 (2 ^ 64) d g.tree
stands-of ws free d root g = record { holds = g.holds; ordered = g.ordered; sized = g.sized; owned = uses-handed ws free d root g }

-- as many as are used
seen-nodes : (ws free : List ℕ) (d root : ℕ) (g : Grows ws free true 0 (2 ^ 64) d root) → IsHeap ws free → nodes_under d ws root ≡ total (uses d g.tree) (pieces ws)
seen-nodes ws free d root g heap =
    let below : (q : ℕ) → 1 ≤ uses d g.tree q → q < pieces ws = λ q some. let lt = lt-one q (get_or ws 2 0) (omega (arith, g.owned q some)) in omega (arith, lt, heap.used) in
    ap (nodes_under d ws) (sym g.is) ∙ nodes-same ws 0 (2 ^ 64) d g.tree g.holds g.ordered ∙ nodes-total d g.tree (pieces ws) below

-- a count that is what it is capped to
capped-is : (n m top : ℕ) → min n top ≡ m → m < top → n ≡ m
capped-is n m top e lt = omega (arith, e)

capped-less : (n m top : ℕ) → min n top ≢ m → n ≤ m → m < top → n < m
capped-less n m top ne le lt = elim (cases_lt n m) [ inl less ↦ less | inr ge ↦ absurd (ne (omega arith)) ]

-- every piece that is handed out is a node
all-used : (ws free : List ℕ) (d root : ℕ) (g : Grows ws free true 0 (2 ^ 64) d root) → IsHeap ws free → nodes_under d ws root ≡ get_or ws 2 0 - length free → (q : ℕ) → uses d g.tree q ≡ handed ws free q
all-used ws free d root g heap count q = elim (cases_lt q (pieces ws)) [
  | inl lt ↦ total-each (uses d g.tree) (handed ws free) (pieces ws) q (uses-handed ws free d root g) (omega (arith, seen-nodes ws free d root g heap, count, handed-total ws free heap)) lt
  | inr ge ↦ omega (arith, uses-handed ws free d root g q, one-ge q (get_or ws 2 0) (omega (arith, heap.used)))
]

none-handed : (ws free : List ℕ) → IsHeap ws free → get_or ws 2 0 ≡ length free → (q : ℕ) → handed ws free q ≡ 0
none-handed ws free heap e q = elim (cases_lt q (pieces ws)) [
  | inl lt ↦ sym (total-each (λ q. 0) (handed ws free) (pieces ws) q (λ p. omega arith) (omega (arith, total-zeros (pieces ws), handed-total ws free heap)) lt)
  | inr ge ↦ omega (arith, one-ge q (get_or ws 2 0) (omega (arith, heap.used)))
]

-- What was seen, where the nodes are as many as the pieces handed out

pub planted : (ws free : List ℕ) (nodes pairs : ℕ) → IsHeap ws free → length ws < 2 ^ 32 → IsSeen ws free nodes pairs → nodes ≡ get_or ws 2 0 - length free → (es : List (ℕ × ℕ)) × IsPlanted ws es × (pairs ≡ capped (length es))
planted ws free nodes pairs heap few (inl none) e =
    let used = handed-total ws free heap in
    ([], record { free = free; heap = heap; tree = inl (none.0, refl, none-handed ws free heap (omega (arith, none.1, e, used))) }, none.2)
planted ws free nodes pairs heap few (inr r) e =
    let g = r.grows in
    let count : nodes_under r.depth ws r.root ≡ get_or ws 2 0 - length free = capped-is (nodes_under r.depth ws r.root) (get_or ws 2 0 - length free) (2 ^ 64 - 1) (sym r.nodes_are ∙ e) (omega (arith, heap.used)) in
    let all = all-used ws free r.depth r.root g heap count in
    let tree : IsTree ws free r.depth g.tree = record { root = r.named ∙ ap (λ x. x + 1) (sym g.is); stands = stands-of ws free r.depth r.root g; all = all } in
    let long : pairs_under r.depth ws r.root ≡ length (pairs_of r.depth g.tree) = ap (pairs_under r.depth ws) (sym g.is) ∙ pairs-same ws 0 (2 ^ 64) r.depth g.tree g.holds g.ordered in
    (pairs_of r.depth g.tree, record { free = free; heap = heap; tree = inr (r.depth, g.tree, tree, refl) }, r.pairs_are ∙ ap capped long)

pub index-seen : (ws free : List ℕ) (nodes pairs : ℕ) → IsHeap ws free → length ws < 2 ^ 32 → IsSeen ws free nodes pairs → nodes ≡ get_or ws 2 0 - length free → pairs ≡ get_or ws 3 0 → get_or ws 3 0 ≤ most_pairs ws → (es : List (ℕ × ℕ)) × IsIndex ws es
index-seen ws free nodes pairs heap few seen count e most =
    let p = planted ws free nodes pairs heap few seen count in
    let is : length p.0 ≡ get_or ws 3 0 = capped-is (length p.0) (get_or ws 3 0) (2 ^ 64 - 1) (sym p.2 ∙ e) (omega (arith, most)) in
    (p.0, record { planted = p.1; count = sym is; few = omega (arith, is, most) })

pub miscounted : (ws free : List ℕ) (nodes pairs : ℕ) → IsHeap ws free → length ws < 2 ^ 32 → IsSeen ws free nodes pairs → nodes ≡ get_or ws 2 0 - length free → pairs ≢ get_or ws 3 0 → get_or ws 3 0 ≤ most_pairs ws → (es : List (ℕ × ℕ)) × IsPlanted ws es × (get_or ws 3 0 ≢ length es)
miscounted ws free nodes pairs heap few seen count ne most =
    let p = planted ws free nodes pairs heap few seen count in
    (p.0, p.1, λ same. ne (p.2 ∙ small (length p.0) same))
  where
    small : (n : ℕ) → get_or ws 3 0 ≡ n → capped n ≡ get_or ws 3 0
    small n same = omega (arith, most)

-- and where they aren't

pub lost : (ws free : List ℕ) (nodes pairs : ℕ) → IsHeap ws free → length ws < 2 ^ 32 → IsSeen ws free nodes pairs → nodes ≢ get_or ws 2 0 - length free → HasLost ws
lost ws free nodes pairs heap few (inl none) ne =
    let used = handed-total ws free heap in
    let some : total (λ q. 0) (pieces ws) < total (handed ws free) (pieces ws) = omega (arith, total-zeros (pieces ws), elim (cases_lt 0 (total (handed ws free) (pieces ws))) as (λ _. 0 < total (handed ws free) (pieces ws)) [ inl lt ↦ lt | inr le ↦ absurd (ne (omega (arith, none.1, used, le))) ]) in
    let r = total-less (λ q. 0) (handed ws free) (pieces ws) some in
    record {
      free = free;
      piece = r.0;
      heap = heap;
      out = omega (arith, r.2, handed-le ws free r.0);
      no_node = λ root way named w. absurd (omega (arith, none.0, named));
    }
lost ws free nodes pairs heap few (inr r) ne =
    let g = r.grows in
    let used = handed-total ws free heap in
    let same = seen-nodes ws free r.depth r.root g heap in
    let le = total-le (uses r.depth g.tree) (handed ws free) (pieces ws) (uses-handed ws free r.depth r.root g) in
    let less : nodes_under r.depth ws r.root < get_or ws 2 0 - length free = capped-less (nodes_under r.depth ws r.root) (get_or ws 2 0 - length free) (2 ^ 64 - 1) (λ e. ne (r.nodes_are ∙ e)) (omega (arith, same, le, used)) (omega (arith, heap.used)) in
    let f = total-less (uses r.depth g.tree) (handed ws free) (pieces ws) (omega (arith, less, same, used)) in
    let stands = stands-of ws free r.depth r.root g in
    record {
      free = free;
      piece = f.0;
      heap = heap;
      out = omega (arith, f.2, handed-le ws free f.0);
      no_node = λ root way named w.
          let is : root ≡ piece_of r.depth g.tree = omega (arith, named, r.named, g.is) in
          let leads : Leads ws (piece_of r.depth g.tree) way f.0 = subst (λ x. Leads ws x way f.0) is w in
          let a = reach ws free true 0 (2 ^ 64) r.depth g.tree way f.0 heap stands leads in
          let once : 1 ≤ uses r.depth g.tree f.0 = omega (arith, a.used f.0, subst (λ x. 1 ≤ uses a.depth a.tree x) a.is (uses-root a.depth a.tree)) in
          absurd (omega (arith, f.2, handed-le ws free f.0));
    }
