-- Counts of nodes and pairs, child by child.
use Rattle.std.proofs.Common.{◌≡◌, ℕ, zero, suc, ◌+◌, ◌-◌, ◌*◌, ◌/◌, ◌^◌, ◌<◌, ◌≤◌, min, List, [], ◌∷◌, ◌++◌, length, take, drop, get_or, refl, ap, sym, subst, ◌∙◌, arith}
use Rattle.std.specs.List.{sum_by}
use Rattle.std.proofs.lemmas.List.{get_or-drop, length-drop, take_more}
use Rattle.std.proofs.lemmas.List.Sums.{sum_by-append, sum_by-cons}
use Rattle.envy_heap.specs.Pieces.{at, head}
use Rattle.envy_btree.specs.Rules.{key_count, pairs_under}
use Rattle.envy_btree.specs.Tree.{window}
use Rattle.envy_tree_check.specs.Grown.{capped, nodes_under}

window-more : (ws : List ℕ) (a j : ℕ) → a + j < length ws → window ws a (j + 1) ≡ window ws a j ++ get_or ws (a + j) 0 ∷ []
window-more ws a j lt =
    take_more (drop a ws) j 0 (omega (arith, length-drop a ws))
    ∙ ap (λ x. take j (drop a ws) ++ x ∷ []) (get_or-drop a ws j 0)

sum-more : (f : ℕ → ℕ) (ws : List ℕ) (a j : ℕ) → a + j < length ws → sum_by f (window ws a (j + 1)) ≡ sum_by f (window ws a j) + f (get_or ws (a + j) 0)
sum-more f ws a j lt =
    ap (sum_by f) (window-more ws a j lt)
    ∙ sum_by-append f (window ws a j) (get_or ws (a + j) 0 ∷ [])
    ∙ ap (λ x. sum_by f (window ws a j) + x) (let e : sum_by f (get_or ws (a + j) 0 ∷ []) ≡ f (get_or ws (a + j) 0) = omega (arith, sum_by-cons f (get_or ws (a + j) 0) []) in e)

capped-more : (start s x t u : ℕ) → t ≡ capped (start + s) → u ≡ capped (t + x) → u ≡ capped (start + (s + x))
capped-more start s x t u e f = omega arith

capped-start : (before x start u : ℕ) → start ≡ capped before → u ≡ capped (start + x) → u ≡ capped (before + x)
capped-start before x start u e f = omega arith

-- one child more
pub total-more : (f : ℕ → ℕ) (ws : List ℕ) (a j start t u child : ℕ) → a + j < length ws → t ≡ capped (start + sum_by f (window ws a j)) → child ≡ get_or ws (a + j) 0 → u ≡ capped (t + f child) → u ≡ capped (start + sum_by f (window ws a (j + 1)))
total-more f ws a j start t u child lt e is g =
    let h : u ≡ capped (t + f (get_or ws (a + j) 0)) = subst (λ x. u ≡ capped (t + f x)) is g in
    subst (λ x. u ≡ capped (start + x)) (sym (sum-more f ws a j lt)) (capped-more start (sum_by f (window ws a j)) (f (get_or ws (a + j) 0)) t u e h)

pub total-none : (f : ℕ → ℕ) (ws : List ℕ) (a start : ℕ) → start ≤ 2 ^ 64 - 1 → start ≡ capped (start + sum_by f (window ws a 0))
total-none f ws a start few = omega arith

-- all of them, and the node itself
pub nodes-all : (ws : List ℕ) (p levels count before start total : ℕ) → 1 ≤ levels → key_count ws p ≡ count → start ≡ capped (before + 1) → total ≡ capped (start + sum_by (nodes_under (levels - 1) ws) (window ws (at p 32) (count + 1))) → total ≡ capped (before + nodes_under levels ws p)
nodes-all ws p levels count before start total some keys s t =
    let e : suc (levels - 1) ≡ levels = omega arith in
    let whole : nodes_under (suc (levels - 1)) ws p ≡ 1 + sum_by (nodes_under (levels - 1) ws) (window ws (at p 32) (count + 1)) = ap (λ x. 1 + sum_by (nodes_under (levels - 1) ws) (window ws (at p 32) (x + 1))) keys in
    let n : ℕ = sum_by (nodes_under (levels - 1) ws) (window ws (at p 32) (count + 1)) in
    let with_one : total ≡ capped (before + (1 + n)) = capped-more before 1 n start total s t in
    subst (λ x. total ≡ capped (before + nodes_under x ws p)) e (subst (λ x. total ≡ capped (before + x)) (sym whole) with_one)

pub pairs-all : (ws : List ℕ) (p levels count before start total : ℕ) → 1 ≤ levels → key_count ws p ≡ count → start ≡ capped before → total ≡ capped (start + sum_by (pairs_under (levels - 1) ws) (window ws (at p 32) (count + 1))) → total ≡ capped (before + pairs_under levels ws p)
pairs-all ws p levels count before start total some keys s t =
    let e : suc (levels - 1) ≡ levels = omega arith in
    let n : ℕ = sum_by (pairs_under (levels - 1) ws) (window ws (at p 32) (count + 1)) in
    let whole : pairs_under (suc (levels - 1)) ws p ≡ n = ap (λ x. sum_by (pairs_under (levels - 1) ws) (window ws (at p 32) (x + 1))) keys in
    subst (λ x. total ≡ capped (before + pairs_under x ws p)) e (subst (λ x. total ≡ capped (before + x)) (sym whole) (capped-start before n start total s t))

-- of a leaf
pub nodes-leaf : (ws : List ℕ) (p levels before total : ℕ) → levels ≡ 0 → total ≡ capped (before + 1) → total ≡ capped (before + nodes_under levels ws p)
nodes-leaf ws p levels before total none t = subst (λ x. total ≡ capped (before + nodes_under x ws p)) (sym none) t

pub pairs-leaf : (ws : List ℕ) (p levels count before start total : ℕ) → levels ≡ 0 → key_count ws p ≡ count → start ≡ capped before → total ≡ capped (start + count) → total ≡ capped (before + pairs_under levels ws p)
pairs-leaf ws p levels count before start total none keys s t = subst (λ x. total ≡ capped (before + pairs_under x ws p)) (sym none) (subst (λ x. total ≡ capped (before + x)) (sym keys) (capped-start before count start total s t))

-- Pieces within the words
pub used-within : (ws : List ℕ) (p used : ℕ) → p < used → used ≤ (length ws - 64) / 64 → at p 63 < length ws
used-within ws p used lt most = omega arith
