-- Nodes as they are read, edited and written.
use Rattle.std.specs.Prelude.{◌≡◌, ℕ, zero, suc, ◌+◌, ◌-◌, ◌<◌, ◌≤◌, ◌==◌, Bool, true, false, List, ◌++◌, length, map, take, drop, slice_index, ◌/◌, ◌%◌}
use Rattle.std.specs.List.{All}
use Rattle.envy_btree.specs.Pairs.{with_pair, without}
use Rattle.envy_btree.specs.Tree.{Tree, piece_of, window, keys_of, values_of, Shows, Holds, Sized}
use Rattle.envy_heap.specs.Pieces.{head, at}

-- i of the keys are at most the key
pub record Ranks (key : ℕ) (ks : List ℕ) (i : ℕ) : Type 0 where
  pub within : i ≤ length ks
  pub below : (j : ℕ) → j < i → slice_index ks j ≤ key
  pub above : i < length ks → key < slice_index ks i

-- what is read of a piece as a node
pub record IsRead (ws : List ℕ) (p : ℕ) (inner : Bool) (keys slots : List ℕ) : Type 0 where
  pub kind : inner ≡ (slice_index ws (head p) % 2 == 1)
  pub front : keys ≡ window ws (at p 1) (slice_index ws (head p) / 2)
  pub back : slots ≡ window ws (at p 32) (slice_index ws (head p) / 2 + slice_index ws (head p) % 2)

-- only words of the piece p differ
pub record OnlyPiece (p : ℕ) (old new : List ℕ) : Type 0 where
  pub long : length new ≡ length old
  pub before : (a : ℕ) → a < head p → slice_index new a ≡ slice_index old a
  pub after : (a : ℕ) → head p + 64 ≤ a → slice_index new a ≡ slice_index old a

-- a leaf's keys and values once the key has this value
pub record IsSet (key value : ℕ) (es : List (ℕ × ℕ)) (keys slots : List ℕ) : Type 0 where
  pub front : keys ≡ keys_of (with_pair key value es)
  pub back : slots ≡ values_of (with_pair key value es)

-- and without the key
pub record IsDropped (key : ℕ) (es : List (ℕ × ℕ)) (keys slots : List ℕ) : Type 0 where
  pub front : keys ≡ keys_of (without key es)
  pub back : slots ≡ values_of (without key es)

-- how many values or children the first of two halves has
abbrev pub half : List ℕ → ℕ
half slots = length slots / 2

-- A node is written as two, first the rear at q and then the front at p. A leaf is parted at the first key
-- of the rear, an inner node at the key between the halves, which neither has.
pub record Halves (old new : List ℕ) (p q kind key : ℕ) (keys slots : List ℕ) : Type 0 where
  pub mid : List ℕ
  pub second : OnlyPiece q old mid
  pub first : OnlyPiece p mid new
  pub parts : key ≡ slice_index keys (half slots - kind)
  pub rear : Shows mid q kind (drop (half slots) keys) (drop (half slots) slots)
  pub front : Shows new p kind (take (half slots - kind) keys) (take (half slots) slots)

-- The root of a tree as a node

abbrev pub is_inner : ℕ → Bool
is_inner zero = false
is_inner (suc d) = true

abbrev pub kind_of : ℕ → ℕ
kind_of zero = 0
kind_of (suc d) = 1

abbrev pub keys_in : (d : ℕ) → Tree d → List ℕ
keys_in zero t = keys_of t.pairs
keys_in (suc d) t = t.keys

abbrev pub slots_in : (d : ℕ) → Tree d → List ℕ
slots_in zero t = values_of t.pairs
slots_in (suc d) t = map (piece_of d) t.kids

-- how many pairs or children it has
abbrev pub width : (d : ℕ) → Tree d → ℕ
width zero t = length t.pairs
width (suc d) t = length t.kids

-- the words hold the trees under it
abbrev pub Loose : List ℕ → (d : ℕ) → Tree d → Type 0
Loose ws zero t = Unit {0}
Loose ws (suc d) t = All (Holds ws d) t.kids

-- these have the sizes of trees that aren't the whole
abbrev pub KidsSized : (d : ℕ) → Tree d → Type 0
KidsSized zero t = Unit {0}
KidsSized (suc d) t = All (Sized false d) t.kids

-- the lists are its keys, and its values or children
pub record IsNode (d : ℕ) (t : Tree d) (inner : Bool) (keys slots : List ℕ) : Type 0 where
  pub kind : inner ≡ is_inner d
  pub front : keys ≡ keys_in d t
  pub back : slots ≡ slots_in d t
