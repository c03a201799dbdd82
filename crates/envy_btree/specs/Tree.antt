-- Trees of equal depth, whose leaves have the pairs of a map.
use Rattle.std.specs.Prelude.{◌≡◌, ℕ, zero, suc, ◌+◌, ◌*◌, ◌<◌, ◌≤◌, ◌==◌, Bool, false, List, [], ◌∷◌, length, map, take, drop, slice_index, if◌then◌else◌}
use Rattle.std.specs.List.{All, flat_map, sum_by}
use Rattle.envy_heap.specs.Pieces.{head, at, one}

pub record Leaf : Type 0 where
  pub piece : ℕ
  pub pairs : List (ℕ × ℕ)

pub record Inner (C : Type 0) : Type 0 where
  pub piece : ℕ
  pub keys : List ℕ
  pub kids : List C

-- a tree with d levels of inner nodes
abbrev pub Tree : ℕ → Type 0
Tree zero = Leaf
Tree (suc d) = Inner (Tree d)

abbrev pub piece_of : (d : ℕ) → Tree d → ℕ
piece_of zero t = t.piece
piece_of (suc d) t = t.piece

abbrev pub pairs_of : (d : ℕ) → Tree d → List (ℕ × ℕ)
pairs_of zero t = t.pairs
pairs_of (suc d) t = flat_map (pairs_of d) t.kids

-- how often the piece q is a node
abbrev pub uses : (d : ℕ) → Tree d → ℕ → ℕ
uses zero t q = one (q == t.piece)
uses (suc d) t q = one (q == t.piece) + sum_by (λ c. uses d c q) t.kids

-- from low on and below high, rising
abbrev pub Rising : ℕ → ℕ → List (ℕ × ℕ) → Type 0
Rising low high [] = low ≤ high
Rising low high (e ∷ es) = (low ≤ e.0) × (e.0 < high) × Rising (e.0 + 1) high es

-- The keys part the space from low to high among the children, each of which is as P says of its part.
abbrev pub Fans : {C : Type 0} → (ℕ → ℕ → C → Type 0) → ℕ → ℕ → List ℕ → List C → Type 0
Fans P low high [] [] = ⊥
Fans P low high [] (c ∷ []) = P low high c
Fans P low high [] (c ∷ e ∷ cs) = ⊥
Fans P low high (k ∷ ks) [] = ⊥
Fans P low high (k ∷ ks) (c ∷ cs) = (low < k) × (k < high) × P low k c × Fans P k high ks cs

abbrev pub Ordered : (d : ℕ) → ℕ → ℕ → Tree d → Type 0
Ordered zero low high t = Rising low high t.pairs
Ordered (suc d) low high t = Fans (Ordered d) low high t.keys t.kids

-- the fewest pairs of a leaf, and children of an inner node
abbrev pub fewest : Bool → ℕ → ℕ
fewest root zero = if root then 0 else 15
fewest root (suc d) = if root then 2 else 16

abbrev pub Sized : Bool → (d : ℕ) → Tree d → Type 0
Sized root zero t = (fewest root zero ≤ length t.pairs) × (length t.pairs ≤ 31)
Sized root (suc d) t = (fewest root (suc d) ≤ length t.kids) × (length t.kids ≤ 32) × All (Sized false d) t.kids

-- n words from a on
abbrev pub window : List ℕ → ℕ → ℕ → List ℕ
window ws a n = take n (drop a ws)

-- The piece p holds a node of this kind, with these keys and these values or children.
pub record Shows (ws : List ℕ) (p kind : ℕ) (keys slots : List ℕ) : Type 0 where
  pub count : slice_index ws (head p) ≡ 2 * length keys + kind
  pub front : window ws (at p 1) (length keys) ≡ keys
  pub back : window ws (at p 32) (length slots) ≡ slots

abbrev pub keys_of : List (ℕ × ℕ) → List ℕ
keys_of es = map (λ e. e.0) es

abbrev pub values_of : List (ℕ × ℕ) → List ℕ
values_of es = map (λ e. e.1) es

abbrev pub Holds : List ℕ → (d : ℕ) → Tree d → Type 0
Holds ws zero t = Shows ws t.piece 0 (keys_of t.pairs) (values_of t.pairs)
Holds ws (suc d) t = Shows ws t.piece 1 t.keys (map (piece_of d) t.kids) × All (Holds ws d) t.kids
