-- What a change makes of a tree.
use Rattle.std.specs.Prelude.{◌≡◌, ◌⊎◌, ◌∷◌, slice_set, ℕ, ◌+◌, ◌<◌, ◌≤◌, ◌≢◌, ◌==◌, Result, Ok, Err, Some, None, true, false, Bool, Option, List, ◌++◌, length, slice_index}
use Rattle.std.specs.List.{insert, remove}
use Rattle.envy_heap.specs.Pieces.{IsHeap, Takes, Freed, handed, spare, at, one}
use Rattle.envy_base.specs.declared.board.Trouble.{Trouble}
use Rattle.envy_btree.specs.Pairs.{with_pair}
use Rattle.envy_btree.specs.Tree.{Tree, Rising, keys_of, values_of, piece_of, pairs_of, uses, Ordered, Shows}
use Rattle.envy_btree.specs.Nodes.{OnlyPiece, Halves, Loose, KidsSized, IsNode}
use Rattle.envy_btree.specs.Index.{Stands}
use Rattle.envy_btree.specs.Spots.{keys_at, slots_at}

-- the piece is the root of a tree with at most this many levels of inner nodes
pub record Rests (ws : List ℕ) (piece level : ℕ) : Type 0 where
  pub free : List ℕ
  pub heap : IsHeap ws free
  pub root : Bool
  pub low : ℕ
  pub high : ℕ
  pub depth : ℕ
  pub tree : Tree depth
  pub few : depth ≤ level
  pub is : piece_of depth tree ≡ piece
  pub stands : Stands ws free root low high depth tree

-- A change that leaves what isn't under this tree: the other pieces handed out, and all of the head but words 1 and 2.
pub record Elsewhere (old new free : List ℕ) (used : ℕ → ℕ) : Type 0 where
  pub long : length new ≡ length old
  pub first : (a : ℕ) → a < 64 → a ≢ 1 → a ≢ 2 → slice_index new a ≡ slice_index old a
  pub others : (q i : ℕ) → i < 64 → 1 ≤ handed old free q → used q ≡ 0 → slice_index new (at q i) ≡ slice_index old (at q i)

-- A tree has become one of these pairs, with the same root.
pub record Became (old new free : List ℕ) (es : List (ℕ × ℕ)) (root : Bool) (low high d : ℕ) (t : Tree d) : Type 0 where
  pub next : List ℕ
  pub heap : IsHeap new next
  pub tree : Tree d
  pub is : piece_of d tree ≡ piece_of d t
  pub stands : Stands new next root low high d tree
  pub pairs : pairs_of d tree ≡ es
  pub share : (q : ℕ) → handed new next q + uses d t q ≡ handed old free q + uses d tree q
  pub spares : spare old free ≤ spare new next + (d + 1)
  pub elsewhere : Elsewhere old new free (uses d t)

-- A tree has parted in two of these pairs, the left one with the root that it had.
pub record Parted (old new free : List ℕ) (es : List (ℕ × ℕ)) (low high d : ℕ) (t : Tree d) : Type 0 where
  pub next : List ℕ
  pub heap : IsHeap new next
  pub left : Tree d
  pub right : Tree d
  pub key : ℕ
  pub above : low < key
  pub below : key < high
  pub is : piece_of d left ≡ piece_of d t
  pub front : Stands new next false low key d left
  pub rear : Stands new next false key high d right
  pub pairs : pairs_of d left ++ pairs_of d right ≡ es
  pub share : (q : ℕ) → handed new next q + uses d t q ≡ handed old free q + (uses d left q + uses d right q)
  pub spares : spare old free ≤ spare new next + (d + 1)
  pub elsewhere : Elsewhere old new free (uses d t)

-- A tree has become one of these pairs but for its root, which isn't written yet: these lists are to be it, whatever their size.
pub record InHand (old new free : List ℕ) (es : List (ℕ × ℕ)) (low high d : ℕ) (t : Tree d) (inner : Bool) (keys slots : List ℕ) : Type 0 where
  pub next : List ℕ
  pub heap : IsHeap new next
  pub tree : Tree d
  pub is : piece_of d tree ≡ piece_of d t
  pub lists : IsNode d tree inner keys slots
  pub loose : Loose new d tree
  pub ordered : Ordered d low high tree
  pub kids : KidsSized d tree
  pub owned : (q : ℕ) → uses d tree q ≤ handed new next q
  pub pairs : pairs_of d tree ≡ es
  pub share : (q : ℕ) → handed new next q + uses d t q ≡ handed old free q + uses d tree q
  pub spares : spare old free ≤ spare new next + d
  pub elsewhere : Elsewhere old new free (uses d t)

-- a node is written whole, or as two where it has too many keys
abbrev pub Saved : List ℕ → List ℕ → ℕ → Bool → List ℕ → List ℕ → Result (Option (ℕ × ℕ)) Trouble → List ℕ → Type 0
Saved old free p inner keys slots (Ok None) new = (length keys ≤ 31) × Shows new p (one inner) keys slots × OnlyPiece p old new
Saved old free p inner keys slots (Ok (Some s)) new = (first : List ℕ) × (rest : List ℕ) × (32 ≤ length keys) × Takes s.1 old first free rest × Halves first new p s.1 (one inner) s.0 keys slots
Saved old free p inner keys slots (Err e) new = Unit {0}

-- a leaf gets the pair, whatever pairs it has
abbrev pub SetsPair : List ℕ → ℕ → ℕ → ℕ → Result (Option (ℕ × ℕ)) Trouble → List ℕ → Type 0
SetsPair old p key value r new = (low high : ℕ) (es : List (ℕ × ℕ)) (free : List ℕ) → Rising low high es → keys_at old p ≡ keys_of es → slots_at old p ≡ values_of es
    → IsHeap old free → handed old free p ≡ 1 → Saved old free p false (keys_of (with_pair key value es)) (values_of (with_pair key value es)) r new

-- an inner node gets a key at place i, and a child after the one there
abbrev pub GetsChild : List ℕ → ℕ → ℕ → ℕ → ℕ → Result (Option (ℕ × ℕ)) Trouble → List ℕ → Type 0
GetsChild old p i middle second r new = (free : List ℕ) → IsHeap old free → handed old free p ≡ 1
    → Saved old free p true (insert (keys_at old p) i middle) (insert (slots_at old p) (i + 1) second) r new

-- a key belongs under this piece, and there are pieces for each level and one more
pub record Way (ws : List ℕ) (piece level key : ℕ) : Type 0 where
  pub rests : Rests ws piece level
  pub above : rests.low ≤ key
  pub below : key < rests.high
  pub spares : rests.depth + 1 ≤ spare ws rests.free

-- one tree with the root that it had, or two
abbrev pub Outcome : (old new free : List ℕ) (es : List (ℕ × ℕ)) (root : Bool) (low high d : ℕ) → Tree d → Option (ℕ × ℕ) → Type 0
Outcome old new free es root low high d t None = Became old new free es root low high d t
Outcome old new free es root low high d t (Some s) = (p : Parted old new free es low high d t) × (s.0 ≡ p.key) × (s.1 ≡ piece_of d p.right)

-- the pair is in the tree
abbrev pub Grows : (old new : List ℕ) (piece level key value : ℕ) → Rests old piece level → Option (ℕ × ℕ) → Type 0
Grows old new piece level key value t r = Outcome old new t.free (with_pair key value (pairs_of t.depth t.tree)) t.root t.low t.high t.depth t.tree r

-- the piece is handed out, and another can be
abbrev pub Ready : List ℕ → ℕ → Type 0
Ready ws piece = (free : List ℕ) × IsHeap ws free × (handed ws free piece ≡ 1) × (1 ≤ spare ws free)

-- a piece taken has these keys and slots, and is the root
pub record Crowned (old new free : List ℕ) (kind : ℕ) (keys slots : List ℕ) : Type 0 where
  pub next : List ℕ
  pub heap : IsHeap new next
  pub piece : ℕ
  pub root : slice_index new 0 ≡ piece + 1
  pub was : handed old free piece ≡ 0
  pub share : (q : ℕ) → handed new next q ≡ handed old free q + one (q == piece)
  pub shows : Shows new piece kind keys slots
  pub long : length new ≡ length old
  pub first : (a : ℕ) → a < 64 → a ≢ 0 → a ≢ 1 → a ≢ 2 → slice_index new a ≡ slice_index old a
  pub others : (q i : ℕ) → i < 64 → 1 ≤ handed old free q → slice_index new (at q i) ≡ slice_index old (at q i)

-- two nodes as one; inner nodes have the key between them too
abbrev pub joined_keys : Bool → List ℕ → ℕ → List ℕ → List ℕ
joined_keys true a m b = a ++ m ∷ b
joined_keys false a m b = a ++ b

-- a node of this kind stands in the piece, with keys enough for one at most
pub record Beside (ws : List ℕ) (piece : ℕ) (inner : Bool) : Type 0 where
  pub keys : List ℕ
  pub slots : List ℕ
  pub shows : Shows ws piece (one inner) keys slots
  pub few : length keys ≤ 31
  pub long : length slots ≡ length keys + one inner

-- two pieces that are handed out
pub record Pair (ws : List ℕ) (p q : ℕ) : Type 0 where
  pub free : List ℕ
  pub heap : IsHeap ws free
  pub first : handed ws free p ≡ 1
  pub second : handed ws free q ≡ 1
  pub apart : p ≢ q

-- a node of these keys and slots has children j and j + 1, in two pieces that are handed out
pub record HasPair (ws : List ℕ) (j : ℕ) (keys slots : List ℕ) : Type 0 where
  pub place : j < length keys
  pub many : length keys ≤ 31
  pub long : length slots ≡ length keys + 1
  pub pair : Pair ws (slice_index slots j) (slice_index slots (j + 1))

-- a node in hand has these keys and slots, one key too few, and stands beside one of its kind in the piece
pub record IsShort (ws : List ℕ) (piece : ℕ) (inner : Bool) (keys slots : List ℕ) : Type 0 where
  pub beside : Beside ws piece inner
  pub few : length keys ≤ 14
  pub long : length slots ≡ length keys + one inner

-- Children j and j + 1 of a node, in hand as one, are written as one, and the second piece is given back. These are the node's lists then.
pub record MendedAsOne (old new free : List ℕ) (j : ℕ) (keys slots : List ℕ) (inner : Bool) (joined joined_slots after after_slots : List ℕ) : Type 0 where
  pub few : length joined ≤ 31
  pub mid : List ℕ
  pub only : OnlyPiece (slice_index slots j) old mid
  pub shows : Shows mid (slice_index slots j) (one inner) joined joined_slots
  pub freed : Freed (slice_index slots (j + 1)) mid new free
  pub front : after ≡ remove keys j
  pub back : after_slots ≡ remove slots (j + 1)

-- They are written as two.
pub record MendedAsTwo (old new : List ℕ) (j : ℕ) (keys slots : List ℕ) (inner : Bool) (joined joined_slots after after_slots : List ℕ) : Type 0 where
  pub many : 32 ≤ length joined
  pub key : ℕ
  pub halves : Halves old new (slice_index slots j) (slice_index slots (j + 1)) (one inner) key joined joined_slots
  pub front : after ≡ slice_set keys j key
  pub back : after_slots ≡ slots

abbrev pub Mended : (old new free : List ℕ) (j : ℕ) (keys slots : List ℕ) (inner : Bool) (joined joined_slots after after_slots : List ℕ) → Type 0
Mended old new free j keys slots inner joined joined_slots after after_slots =
    MendedAsOne old new free j keys slots inner joined joined_slots after after_slots ⊎ MendedAsTwo old new j keys slots inner joined joined_slots after after_slots
