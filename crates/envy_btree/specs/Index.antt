-- When words stand for a map.
use Rattle.std.specs.Prelude.{◌≡◌, ◌⊎◌, ℕ, ◌+◌, ◌-◌, ◌*◌, ◌^◌, ◌≤◌, true, Bool, List, [], length, slice_index}
use Rattle.envy_heap.specs.Pieces.{IsHeap, handed, pieces}
use Rattle.envy_btree.specs.Tree.{Tree, piece_of, pairs_of, uses, Ordered, Sized, Holds}

-- The words hold this tree: its keys are from low on and below high, and its nodes are pieces handed out.
pub record Stands (ws free : List ℕ) (root : Bool) (low high d : ℕ) (t : Tree d) : Type 0 where
  pub holds : Holds ws d t
  pub ordered : Ordered d low high t
  pub sized : Sized root d t
  pub owned : (q : ℕ) → uses d t q ≤ handed ws free q

-- It is the tree of the whole: word 0 names its root, and the pieces handed out are its nodes, each once.
pub record IsTree (ws free : List ℕ) (d : ℕ) (t : Tree d) : Type 0 where
  pub root : slice_index ws 0 ≡ piece_of d t + 1
  pub stands : Stands ws free true 0 (2 ^ 64) d t
  pub all : (q : ℕ) → uses d t q ≡ handed ws free q

-- no tree, or one of these pairs
abbrev pub Rooted : List ℕ → List ℕ → List (ℕ × ℕ) → Type 0
Rooted ws free es = ((slice_index ws 0 ≡ 0) × (es ≡ []) × ((q : ℕ) → handed ws free q ≡ 0)) ⊎ ((d : ℕ) × (t : Tree d) × IsTree ws free d t × (es ≡ pairs_of d t))

-- the words are a heap that holds a tree of these pairs, or none
pub record IsPlanted (ws : List ℕ) (es : List (ℕ × ℕ)) : Type 0 where
  pub free : List ℕ
  pub heap : IsHeap ws free
  pub tree : Rooted ws free es

-- the most pairs that a map in these words may have
abbrev pub most_pairs : List ℕ → ℕ
most_pairs ws = 14 * (pieces ws - 8)

-- The words stand for the map of these pairs.
pub record IsIndex (ws : List ℕ) (es : List (ℕ × ℕ)) : Type 0 where
  pub planted : IsPlanted ws es
  pub count : slice_index ws 3 ≡ length es
  pub few : length es ≤ most_pairs ws
