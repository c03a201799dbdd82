-- The rules of the tree, said of the words alone.
use Rattle.std.specs.Prelude.{◌≡◌, ℕ, zero, suc, ◌+◌, ◌/◌, ◌%◌, ◌<◌, ◌≤◌, List, [], ◌∷◌, length, slice_index, Some}
use Rattle.std.specs.List.{sum_by}
use Rattle.envy_heap.specs.Pieces.{head, at, handed}
use Rattle.envy_btree.specs.Pairs.{assoc}
use Rattle.envy_btree.specs.Tree.{window}

-- how many keys the node in a piece has, and whether it is a leaf, 0, or an inner node, 1
abbrev pub key_count : List ℕ → ℕ → ℕ
key_count ws p = slice_index ws (head p) / 2

abbrev pub kind_at : List ℕ → ℕ → ℕ
kind_at ws p = slice_index ws (head p) % 2

-- its keys, and its values or children
abbrev pub key_at : List ℕ → ℕ → ℕ → ℕ
key_at ws p i = slice_index ws (at p 1 + i)

abbrev pub slot_at : List ℕ → ℕ → ℕ → ℕ
slot_at ws p j = slice_index ws (at p 32 + j)

-- these child numbers lead down from the node in p to that in q
abbrev pub Leads : List ℕ → ℕ → List ℕ → ℕ → Type 0
Leads ws p [] q = p ≡ q
Leads ws p (j ∷ js) q = (kind_at ws p ≡ 1) × (j ≤ key_count ws p) × Leads ws (slot_at ws p j) js q

-- how many pairs the leaves have that are d levels under the node in p
abbrev pub pairs_under : ℕ → List ℕ → ℕ → ℕ
pairs_under zero ws p = key_count ws p
pairs_under (suc d) ws p = sum_by (pairs_under d ws) (window ws (at p 32) (key_count ws p + 1))

-- a pair of a leaf under the root
pub record InLeaf (ws : List ℕ) (root key value : ℕ) : Type 0 where
  pub way : List ℕ
  pub leaf : ℕ
  pub place : ℕ
  pub leads : Leads ws root way leaf
  pub kind : kind_at ws leaf ≡ 0
  pub within : place < key_count ws leaf
  pub key_is : key_at ws leaf place ≡ key
  pub value_is : slot_at ws leaf place ≡ value

-- What the words obey that stand for this map with its root in this piece.
pub record ObeysRules (ws free : List ℕ) (root : ℕ) (es : List (ℕ × ℕ)) : Type 0 where
  -- no node has more than 31 keys; one that isn't the root has 15 at least, and an inner root one
  pub most : (js : List ℕ) (q : ℕ) → Leads ws root js q → key_count ws q ≤ 31
  pub least : (j : ℕ) (js : List ℕ) (q : ℕ) → Leads ws root (j ∷ js) q → 15 ≤ key_count ws q
  pub root_least : kind_at ws root ≡ 1 → 1 ≤ key_count ws root
  -- keys rise
  pub rising : (js : List ℕ) (q i : ℕ) → Leads ws root js q → i + 1 < key_count ws q → key_at ws q i < key_at ws q (i + 1)
  -- all leaves are equally deep
  pub deep : (js ks : List ℕ) (p q : ℕ) → Leads ws root js p → Leads ws root ks q → kind_at ws p ≡ 0 → kind_at ws q ≡ 0 → length js ≡ length ks
  -- key j of an inner node is above every key under child j, and at most every key under child j + 1
  pub above : (js ks : List ℕ) (p q j i : ℕ) → Leads ws root js p → Leads ws p (j ∷ ks) q → j < key_count ws p → i < key_count ws q → key_at ws q i < key_at ws p j
  pub at_most : (js ks : List ℕ) (p q j i : ℕ) → Leads ws root js p → Leads ws p (suc j ∷ ks) q → i < key_count ws q → key_at ws p j ≤ key_at ws q i
  -- the nodes are the pieces handed out, each once
  pub named : (js : List ℕ) (q : ℕ) → Leads ws root js q → handed ws free q ≡ 1
  pub all : (q : ℕ) → handed ws free q ≡ 1 → (js : List ℕ) × Leads ws root js q
  pub once : (js ks : List ℕ) (q : ℕ) → Leads ws root js q → Leads ws root ks q → js ≡ ks
  -- the map has the pairs of the leaves, and word 3 is their number
  pub pairs_in : (key value : ℕ) → InLeaf ws root key value → assoc key es ≡ Some value
  pub pairs_out : (key value : ℕ) → assoc key es ≡ Some value → InLeaf ws root key value
  pub count : (js : List ℕ) (q : ℕ) → Leads ws root js q → kind_at ws q ≡ 0 → slice_index ws 3 ≡ pairs_under (length js) ws root
