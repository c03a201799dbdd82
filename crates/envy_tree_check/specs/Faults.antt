-- Why words stand for no map.
use Rattle.std.specs.Prelude.{◌≡◌, ◌≢◌, ◌⊎◌, ℕ, ◌+◌, ◌^◌, ◌<◌, ◌≤◌, Bool, true, List, [], ◌∷◌, length, slice_index, nat_lt, if◌then◌else◌}
use Rattle.envy_heap.specs.Pieces.{IsHeap, head, handed, one, pieces, times}
use Rattle.envy_btree.specs.Index.{IsPlanted, most_pairs}
use Rattle.envy_btree.specs.Rules.{key_at, key_count, kind_at, Leads}
use Rattle.envy_tree_check.specs.Bounds.{floor_at, high_by, is_root, low_by}
use Rattle.envy_tree_check.specs.declared.fault.MapFault.{MapFault}
use Rattle.envy_tree_check.specs.declared.fault.MapFault.TheVariants.{Off, Short, Used, Many, FreeList, Deep, Node, Head, Level, Few, Keys, Freed, Lost, Count}

-- the fewest keys of a node that is the root or not, and a leaf, 0, or an inner node, 1
abbrev pub fewest_keys : Bool → ℕ → ℕ
fewest_keys root kind = if root then kind else 15

-- Which rule the node in a piece breaks, by its own words. Its keys are to be from low on and below high.
abbrev pub Breaks : List ℕ → List ℕ → Bool → ℕ → ℕ → ℕ → MapFault → Type 0
Breaks ws free root low high q Node = slice_index ws 2 ≤ q
Breaks ws free root low high q Head = 64 ≤ slice_index ws (head q)
Breaks ws free root low high q Few = key_count ws q < fewest_keys root (kind_at ws q)
Breaks ws free root low high q Freed = 1 ≤ times free q
Breaks ws free root low high q Keys = (i : ℕ) × (i < key_count ws q) × ((key_at ws q i < floor_at ws low q i) ⊎ (high ≤ key_at ws q i))
Breaks ws free root low high q fault = ⊥

-- A node at or under the one in this piece breaks a rule.
pub record Spoils (ws free : List ℕ) (root : Bool) (low high piece : ℕ) (fault : MapFault) : Type 0 where
  pub way : List ℕ
  pub node : ℕ
  pub leads : Leads ws piece way node
  pub breaks : Breaks ws free (is_root root way) (low_by ws low piece way) (high_by ws high piece way) node fault

-- A node at or under the one in this piece is a leaf above the level of leaves, or an inner node in it.
pub record Strays (ws : List ℕ) (piece levels : ℕ) : Type 0 where
  pub way : List ℕ
  pub node : ℕ
  pub left : ℕ
  pub leads : Leads ws piece way node
  pub deep : length way + left ≡ levels
  pub kind : kind_at ws node ≢ one (nat_lt 0 left)

-- what a tree ails whose root is in this piece, with so many levels of inner nodes
abbrev pub Sickens : List ℕ → List ℕ → Bool → ℕ → ℕ → ℕ → ℕ → MapFault → Type 0
Sickens ws free root low high levels piece Off = Unit {0}
Sickens ws free root low high levels piece Level = Strays ws piece levels
Sickens ws free root low high levels piece fault = Spoils ws free root low high piece fault

-- Two nodes are equally deep, and only one of them is a leaf.
pub record IsUneven (ws : List ℕ) (root : ℕ) : Type 0 where
  pub way : List ℕ
  pub other_way : List ℕ
  pub node : ℕ
  pub other : ℕ
  pub leads : Leads ws root way node
  pub other_leads : Leads ws root other_way other
  pub deep : length way ≡ length other_way
  pub kinds : kind_at ws node ≢ kind_at ws other

-- A way leads down further than a tree may be deep.
pub record IsDeep (ws : List ℕ) (root : ℕ) : Type 0 where
  pub way : List ℕ
  pub node : ℕ
  pub leads : Leads ws root way node
  pub long : length way ≡ 7

-- what the tree ails whose root is in this piece
abbrev pub Ails : List ℕ → List ℕ → ℕ → MapFault → Type 0
Ails ws free root Off = Unit {0}
Ails ws free root Deep = IsDeep ws root
Ails ws free root Level = IsUneven ws root
Ails ws free root fault = Spoils ws free true 0 (2 ^ 64) root fault

-- The tree in the words of a heap ails of a fault.
pub record HasIll (ws : List ℕ) (fault : MapFault) : Type 0 where
  pub free : List ℕ
  pub root : ℕ
  pub heap : IsHeap ws free
  pub named : slice_index ws 0 ≡ root + 1
  pub ails : Ails ws free root fault

-- A piece is handed out that is no node.
pub record HasLost (ws : List ℕ) : Type 0 where
  pub free : List ℕ
  pub piece : ℕ
  pub heap : IsHeap ws free
  pub out : handed ws free piece ≡ 1
  pub no_node : (root : ℕ) (way : List ℕ) → slice_index ws 0 ≡ root + 1 → Leads ws root way piece → ⊥

-- no list of free pieces makes the words a heap, though they are enough and word 2 may be so
pub record HasNoList (ws : List ℕ) : Type 0 where
  pub long : 640 ≤ length ws
  pub used : slice_index ws 2 ≤ pieces ws
  pub none : (free : List ℕ) → IsHeap ws free → ⊥

-- The cause of a fault. Off is of the memory, and says nothing of the words.
abbrev pub Causes : List ℕ → MapFault → Type 0
Causes ws Off = Unit {0}
Causes ws Short = length ws < 640
Causes ws Used = pieces ws < slice_index ws 2
Causes ws Many = most_pairs ws < slice_index ws 3
Causes ws FreeList = HasNoList ws
Causes ws Lost = HasLost ws
Causes ws Count = (es : List (ℕ × ℕ)) × IsPlanted ws es × (slice_index ws 3 ≢ length es)
Causes ws fault = HasIll ws fault
