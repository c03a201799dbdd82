-- Words made by hand, which stand for maps, or break a rule and stand for none.
use Rattle.std.specs.Prelude.{ℕ, ◌+◌, ◌-◌, ◌*◌, List, [], ◌∷◌, ◌++◌, length, map, replicate}
use Rattle.std.specs.List.{flat_map, range_with_len}

-- a list, and zeros up to n words
abbrev pub padded : ℕ → List ℕ → List ℕ
padded n xs = xs ++ replicate (n - length xs) 0

-- the 64 words of a node
abbrev pub node_words : ℕ → List ℕ → List ℕ → List ℕ
node_words kind keys slots = (2 * length keys + kind) ∷ padded 31 keys ++ padded 32 slots

-- the root's piece plus 1, no free piece, how many were handed out, and the number of pairs
abbrev pub head_words : ℕ → ℕ → ℕ → List ℕ
head_words root used pairs = padded 64 (root ∷ 0 ∷ used ∷ pairs ∷ [])

-- one leaf
abbrev pub one_leaf : ℕ → List ℕ → List ℕ → List ℕ
one_leaf pairs keys slots = padded 640 (head_words 1 1 pairs ++ node_words 0 keys slots)

-- the key i has the value 100 + i
abbrev pub row_of : ℕ → ℕ → List (ℕ × ℕ)
row_of first n = map (λ i. (i, 100 + i)) (range_with_len first n)

-- a leaf of n such pairs
abbrev pub leaf_of : ℕ → ℕ → List ℕ
leaf_of first n = node_words 0 (map (λ e. e.0) (row_of first n)) (map (λ e. e.1) (row_of first n))

-- two leaves of this many pairs each, from 0 on, and a root over them with this key
abbrev pub two_levels : ℕ → ℕ → List ℕ
two_levels n key = padded 768 (head_words 3 3 (2 * n) ++ leaf_of 0 n ++ leaf_of n n ++ node_words 1 (key ∷ []) (0 ∷ 1 ∷ []))

-- the root names its second leaf twice, and the first never
abbrev pub named_twice : List ℕ
named_twice = padded 768 (head_words 3 3 30 ++ leaf_of 0 15 ++ leaf_of 15 15 ++ node_words 1 (15 ∷ []) (1 ∷ 1 ∷ []))

-- a leaf beside an inner node with 16 leaves
abbrev pub uneven : List ℕ
uneven = padded 1792 (head_words 3 19 255
    ++ leaf_of 0 15
    ++ node_words 1 (map (λ i. 30 + 15 * i) (range_with_len 0 15)) (range_with_len 3 16)
    ++ node_words 1 (15 ∷ []) (0 ∷ 1 ∷ [])
    ++ flat_map (λ i. leaf_of (15 + 15 * i) 15) (range_with_len 0 16))

-- one leaf, and a piece handed out that is no node
abbrev pub idle_piece : List ℕ
idle_piece = padded 640 (head_words 1 2 1 ++ node_words 0 (5 ∷ []) (50 ∷ []))

-- a leaf with no pair, whose piece is free too
abbrev pub free_root : List ℕ
free_root = padded 640 (1 ∷ 1 ∷ 1 ∷ [])

-- a leaf of 15 pairs, which 9 pieces have no room for
abbrev pub too_many : List ℕ
too_many = padded 640 (head_words 1 1 15 ++ leaf_of 0 15)

-- a leaf of 32 pairs: its last key and its first value are one word
abbrev pub crowded : List ℕ
crowded = padded 768 (head_words 1 1 32 ++ (64 ∷ range_with_len 1 63))

-- an inner root with one child and no key
abbrev pub one_child : List ℕ
one_child = padded 704 (head_words 2 2 15 ++ leaf_of 0 15 ++ node_words 1 [] (0 ∷ []))

-- three leaves under a root whose keys have changed places, so that no pair fits between them
abbrev pub crossed : List ℕ
crossed = padded 832 (head_words 4 4 45 ++ leaf_of 0 15 ++ leaf_of 15 15 ++ leaf_of 30 15 ++ node_words 1 (30 ∷ 15 ∷ []) (0 ∷ 1 ∷ 2 ∷ []))

-- an inner node over these n leaves of 15 pairs each, the pieces from first on
abbrev pub over_leaves : ℕ → ℕ → List ℕ
over_leaves first n = node_words 1 (map (λ i. 15 * i) (range_with_len (first + 1) (n - 1))) (range_with_len first n)

-- two such nodes under a root
abbrev pub three_levels : ℕ → List ℕ
three_levels n = padded 2688 (head_words (2 * n + 3) (2 * n + 3) (30 * n)
    ++ flat_map (λ i. leaf_of (15 * i) 15) (range_with_len 0 (2 * n))
    ++ over_leaves 0 n
    ++ over_leaves n n
    ++ node_words 1 (15 * n ∷ []) (2 * n ∷ (2 * n + 1) ∷ []))
