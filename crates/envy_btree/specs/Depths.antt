-- How deep a tree is, and in how many pages a change of it puts words.
use Rattle.std.specs.Prelude.{◌≡◌, ℕ, ◌+◌, ◌*◌, ◌/◌, ◌≤◌, min, List, slice_index}
use Rattle.envy_heap.specs.Pieces.{IsHeap}
use Rattle.envy_btree.specs.Tree.{Tree}
use Rattle.envy_btree.specs.Index.{IsTree}

-- The tree in the words has so many levels of inner nodes. Without a tree there are none.
pub record IsDeep (ws : List ℕ) (depth : ℕ) : Type 0 where
  pub none : slice_index ws 0 ≡ 0 → depth ≡ 0
  pub levels : (free : List ℕ) (d : ℕ) (t : Tree d) → IsHeap ws free → IsTree ws free d t → d ≡ depth

-- its levels of inner nodes are at most so many
abbrev pub IsShallow : List ℕ → ℕ → Type 0
IsShallow ws level = (free : List ℕ) (d : ℕ) (t : Tree d) → IsHeap ws free → IsTree ws free d t → d ≤ level

-- the most levels of inner nodes in so many words: five in up to 2^25, and six in up to 2^29
abbrev pub most_levels : ℕ → ℕ
most_levels words = 5 + min 1 (words / 33554433)

-- the most pages in which an insertion puts words, and a removal
abbrev pub insertion_pages : ℕ → ℕ
insertion_pages depth = 4 * depth + 7

abbrev pub removal_pages : ℕ → ℕ
removal_pages depth = 4 * depth + 4

-- the most puts of an insertion, and of a removal, in a tree in so many words
abbrev pub insertion_puts : ℕ → ℕ
insertion_puts words = 129 * most_levels words + 196

abbrev pub dropping_puts : ℕ → ℕ
dropping_puts words = 192 * most_levels words + 129
