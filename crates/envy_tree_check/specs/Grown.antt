-- What a check has seen.
use Rattle.std.specs.Prelude.{◌≡◌, ◌⊎◌, ℕ, zero, suc, ◌+◌, ◌-◌, ◌^◌, ◌<◌, ◌≤◌, min, Bool, true, false, IsTrue, List, [], length, slice_index, slice_set, nat_lt, if◌then◌else◌, Result, Ok, Err}
use Rattle.std.specs.List.{sum_by}
use Rattle.envy_array.specs.Words.{Sheet}
use Rattle.envy_heap.specs.Pieces.{IsHeap, at, handed, head, one, times}
use Rattle.envy_btree.specs.Rules.{key_count, kind_at, Leads, pairs_under}
use Rattle.envy_btree.specs.Tree.{Tree, Holds, Ordered, Sized, piece_of, uses, window}
use Rattle.envy_tree_check.specs.declared.fault.MapFault.{MapFault}
use Rattle.envy_tree_check.specs.declared.fault.MapFault.TheVariants.{Off}

-- power after a fault: off exactly after Off, unless the words are too few for a map
abbrev pub Dims : List ℕ → MapFault → Sheet → Type 0
Dims ws Off new = new.on ≡ false
Dims ws fault new = 640 ≤ length ws → IsTrue new.on

-- and after any answer
abbrev pub Powers : {T : Type 0} → List ℕ → Result T MapFault → Sheet → Type 0
Powers ws (Ok x) new = IsTrue new.on
Powers ws (Err fault) new = Dims ws fault new

-- a count that stops at the top
abbrev pub capped : ℕ → ℕ
capped n = min n (2 ^ 64 - 1)

-- how many nodes are at most d levels under the one in p, which is one of them
abbrev pub nodes_under : ℕ → List ℕ → ℕ → ℕ
nodes_under zero ws p = 1
nodes_under (suc d) ws p = 1 + sum_by (nodes_under d ws) (window ws (at p 32) (key_count ws p + 1))

-- a mark at the place of a word, if there is one
abbrev pub marked : ℕ → ℕ → List ℕ → List ℕ
marked word mark marks = if nat_lt word 64 then slice_set marks word mark else marks

-- The free pieces whose first word could be that of a node are marked, each at the place of its first word.
pub record AreMarked (ws free marks : List ℕ) : Type 0 where
  pub long : length marks ≡ 64
  pub all : (q : ℕ) → 1 ≤ times free q → slice_index ws (head q) < 64 → slice_index marks (slice_index ws (head q)) ≡ q + 1
  pub freed : (i q : ℕ) → slice_index marks i ≡ q + 1 → 1 ≤ times free q

-- The piece holds a tree of so many levels, whose nodes are pieces handed out.
pub record Grows (ws free : List ℕ) (root : Bool) (low high d p : ℕ) : Type 0 where
  pub tree : Tree d
  pub is : piece_of d tree ≡ p
  pub holds : Holds ws d tree
  pub ordered : Ordered d low high tree
  pub sized : Sized root d tree
  pub owned : (q : ℕ) → 1 ≤ uses d tree q → handed ws free q ≡ 1

-- The whole of a tree, with so many nodes and pairs.
pub record IsRooted (ws free : List ℕ) (nodes pairs : ℕ) : Type 0 where
  pub root : ℕ
  pub depth : ℕ
  pub named : slice_index ws 0 ≡ root + 1
  pub grows : Grows ws free true 0 (2 ^ 64) depth root
  pub nodes_are : nodes ≡ capped (nodes_under depth ws root)
  pub pairs_are : pairs ≡ capped (pairs_under depth ws root)

-- or of none
abbrev pub IsSeen : List ℕ → List ℕ → ℕ → ℕ → Type 0
IsSeen ws free nodes pairs = ((slice_index ws 0 ≡ 0) × (nodes ≡ 0) × (pairs ≡ 0)) ⊎ IsRooted ws free nodes pairs

-- A way leads down to a node, which is a leaf only at the last of so many levels.
pub record IsWay (ws : List ℕ) (root levels length_of_way : ℕ) : Type 0 where
  pub way : List ℕ
  pub node : ℕ
  pub leads : Leads ws root way node
  pub long : length way ≡ length_of_way
  pub kind : kind_at ws node ≡ one (nat_lt length_of_way levels)

-- so many levels of inner nodes are above the first leaf
abbrev pub AreLevels : List ℕ → ℕ → ℕ → Type 0
AreLevels ws root levels = (i : ℕ) → i ≤ levels → IsWay ws root levels i
