-- Nodes and pairs by the words, and by the tree.
use Rattle.std.proofs.Common.{◌≡◌, ℕ, zero, suc, ◌+◌, ◌<◌, ◌≤◌, List, [], ◌∷◌, length, map, refl, ap, sym, ◌∙◌, arith}
use Rattle.std.specs.List.{All, sum_by}
use Rattle.std.proofs.lemmas.List.{length-map}
use Rattle.std.proofs.lemmas.List.Concat.{length-flat_map}
use Rattle.std.proofs.lemmas.List.Elements.{All-head, All-tail}
use Rattle.std.proofs.lemmas.List.Sums.{sum_by-cons}
use Rattle.envy_heap.specs.Pieces.{at}
use Rattle.envy_btree.specs.Tree.{Tree, Fans, Holds, Ordered, pairs_of, piece_of, window}
use Rattle.envy_btree.specs.Rules.{key_count, pairs_under}
use Rattle.envy_btree.proofs.Counting.{nodes}
use Rattle.envy_btree.proofs.Walking.{inner-at, leaf-at}
use Rattle.envy_tree_check.specs.Grown.{nodes_under}

sum-map-by : {X Y : Type 0} (f : Y → ℕ) (g : X → Y) (xs : List X) → sum_by f (map g xs) ≡ sum_by (λ x. f (g x)) xs
sum-map-by f g [] = refl
sum-map-by f g (x ∷ xs) = omega (arith, sum_by-cons f (g x) (map g xs), sum_by-cons (λ y. f (g y)) x xs, sum-map-by f g xs)

sums-same : {C : Type 0} (P : ℕ → ℕ → C → Type 0) (H : C → Type 0) (f g : C → ℕ) → ((l h : ℕ) (c : C) → H c → P l h c → f c ≡ g c) → (low high : ℕ) (ks : List ℕ) (cs : List C) → All H cs → Fans P low high ks cs → sum_by f cs ≡ sum_by g cs
sums-same P H f g same low high [] [] all w = absurd w
sums-same P H f g same low high [] (c ∷ []) all w = omega (arith, sum_by-cons f c [], sum_by-cons g c [], same low high c (All-head H c [] all) w)
sums-same P H f g same low high [] (c ∷ e ∷ cs) all w = absurd w
sums-same P H f g same low high (k ∷ ks) [] all w = absurd w
sums-same P H f g same low high (k ∷ ks) (c ∷ cs) all w = omega (arith, sum_by-cons f c cs, sum_by-cons g c cs, same low k c (All-head H c cs all) w.2, sums-same P H f g same k high ks cs (All-tail H c cs all) w.3)

-- the children of a node by the words
places : (ws : List ℕ) (low high d : ℕ) (t : Tree (suc d)) → Holds ws (suc d) t → Ordered (suc d) low high t → window ws (at t.piece 32) (key_count ws t.piece + 1) ≡ map (piece_of d) t.kids
places ws low high d t h o =
    let n = inner-at ws low high d t h o in
    let m = length-map t.kids (piece_of d) in
    ap (window ws (at t.piece 32)) (omega (arith, n.count, n.long)) ∙ h.0.back

pub pairs-same : (ws : List ℕ) (low high d : ℕ) (t : Tree d) → Holds ws d t → Ordered d low high t → pairs_under d ws (piece_of d t) ≡ length (pairs_of d t)
pairs-same ws low high zero t h o = (leaf-at ws t h).count
pairs-same ws low high (suc d) t h o =
    let same = sums-same (Ordered d) (Holds ws d) (λ c. pairs_under d ws (piece_of d c)) (λ c. length (pairs_of d c)) (λ l k c x y. pairs-same ws l k d c x y) low high t.keys t.kids h.1 o in
    ap (sum_by (pairs_under d ws)) (places ws low high d t h o) ∙ sum-map-by (pairs_under d ws) (piece_of d) t.kids ∙ same ∙ sym (length-flat_map (pairs_of d) t.kids)

pub nodes-same : (ws : List ℕ) (low high d : ℕ) (t : Tree d) → Holds ws d t → Ordered d low high t → nodes_under d ws (piece_of d t) ≡ nodes d t
nodes-same ws low high zero t h o = refl
nodes-same ws low high (suc d) t h o =
    let same = sums-same (Ordered d) (Holds ws d) (λ c. nodes_under d ws (piece_of d c)) (nodes d) (λ l k c x y. nodes-same ws l k d c x y) low high t.keys t.kids h.1 o in
    ap (λ x. 1 + sum_by (nodes_under d ws) x) (places ws low high d t h o) ∙ ap (λ x. 1 + x) (sum-map-by (nodes_under d ws) (piece_of d) t.kids ∙ same)
