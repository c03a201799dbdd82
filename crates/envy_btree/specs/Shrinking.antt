-- What a removal makes of a tree.
use Rattle.std.specs.Prelude.{◌≡◌, ℕ, ◌+◌, ◌≤◌, Bool, true, false, Option, None, Some, List, length, slice_index}
use Rattle.envy_heap.specs.Pieces.{one}
use Rattle.envy_btree.specs.declared.node.Node.{Node}
use Rattle.envy_btree.specs.Pairs.{without}
use Rattle.envy_btree.specs.Tree.{Rising, keys_of, values_of, pairs_of, fewest, Shows}
use Rattle.envy_btree.specs.Nodes.{OnlyPiece, width}
use Rattle.envy_btree.specs.Spots.{keys_at, slots_at}
use Rattle.envy_btree.specs.Changes.{Rests, Became, InHand, Mended}

-- a node is written, or stays in hand where it has too few keys
abbrev pub Back : (old new : List ℕ) (piece : ℕ) (inner : Bool) (keys slots : List ℕ) → Option Node → Type 0
Back old new piece inner keys slots None = (15 ≤ length keys) × Shows new piece (one inner) keys slots × OnlyPiece piece old new
Back old new piece inner keys slots (Some n) = (n.inner ≡ inner) × (n.keys.items ≡ keys) × (n.slots.items ≡ slots) × (length keys ≤ 14) × (new ≡ old)

-- whatever pairs a leaf has, P holds of its keys and values without this key
abbrev pub LosesPair : (old : List ℕ) (piece key : ℕ) → (List ℕ → List ℕ → Type 0) → Type 0
LosesPair old piece key P = (low high : ℕ) (es : List (ℕ × ℕ)) → Rising low high es → keys_at old piece ≡ keys_of es → slots_at old piece ≡ values_of es → P (keys_of (without key es)) (values_of (without key es))

-- two of its children are settled first
pub record MendedBack (old new free : List ℕ) (piece j : ℕ) (keys slots : List ℕ) (inner : Bool) (joined joined_slots : List ℕ) (r : Option Node) : Type 0 where
  pub mid : List ℕ
  pub after : List ℕ
  pub after_slots : List ℕ
  pub mended : Mended old mid free j keys slots inner joined joined_slots after after_slots
  pub back : Back mid new piece true after after_slots r

-- the tree without the key is in hand, and is one short at most
pub record Short (old new : List ℕ) (piece level key : ℕ) (t : Rests old piece level) (inner : Bool) (keys slots : List ℕ) : Type 0 where
  pub hand : InHand old new t.free (without key (pairs_of t.depth t.tree)) t.low t.high t.depth t.tree inner keys slots
  pub few : length keys ≤ 14
  pub least : fewest t.root t.depth ≤ width t.depth hand.tree + 1

abbrev pub Shrinks : (old new : List ℕ) (piece level key : ℕ) → Rests old piece level → Option Node → Type 0
Shrinks old new piece level key t None = Became old new t.free (without key (pairs_of t.depth t.tree)) t.root t.low t.high t.depth t.tree
Shrinks old new piece level key t (Some n) = Short old new piece level key t n.inner n.keys.items n.slots.items

-- word 0 of the head once a root with no key is gone
abbrev pub next_root : Bool → List ℕ → ℕ
next_root true slots = slice_index slots 0 + 1
next_root false slots = 0
