-- What is seen of the words, and of a map that they stand for.
use Rattle.std.specs.Prelude.{◌≡◌, ℕ, zero, suc, ◌+◌, ◌-◌, ◌^◌, ◌<◌, ◌≤◌, Bool, false, IsTrue, List, [], ◌∷◌, ◌++◌, length, take, slice_index, Option, None, Some, Result, Ok, Err}
use Rattle.envy_array.specs.Words.{Sheet, Works, Spends}
use Rattle.envy_heap.specs.Pieces.{IsHeap, at}
use Rattle.envy_btree.specs.declared.fault.LookFault.{LookFault}
use Rattle.envy_btree.specs.declared.fault.LookFault.TheVariants.{Off as LookOff, Broken}
use Rattle.envy_btree.specs.declared.way.Way.{Way}
use Rattle.envy_btree.specs.declared.way.Way.TheVariants.{Up, Down}
use Rattle.envy_btree.specs.Index.{Stands}
use Rattle.envy_btree.specs.Nearest.{pairs_from, pairs_to}
use Rattle.envy_btree.specs.Pairs.{Below, Above}
use Rattle.envy_btree.specs.Tree.{Tree, Rising, piece_of, pairs_of, window, keys_of, values_of}

-- A look changes nothing while power is on.
pub record Looks (old new : Sheet) : Type 0 where
  pub works : Works 0 old new
  pub spends : Spends 0 old new
  pub same : IsTrue new.on → (new.words ≡ old.words) × (new.pages ≡ old.pages)

-- `Off` exactly where power is off at exit, unless the words are too few for a map
abbrev pub Powers : {T : Type 0} → Result T LookFault → Sheet → Type 0
Powers (Ok x) new = IsTrue new.on
Powers (Err LookOff) new = new.on ≡ false
Powers (Err Broken) new = 640 ≤ length new.words → IsTrue new.on

-- what is seen of words that stand for a map: they aren't broken
abbrev pub Sees : {T : Type 0} → (T → Type 0) → Result T LookFault → Type 0
Sees P (Ok x) = P x
Sees P (Err LookOff) = Unit {0}
Sees P (Err Broken) = ⊥

-- The words of a map have a node in this piece, under so many levels, under which are the pairs with keys from low
-- to top.
pub record IsUnder (ws : List ℕ) (es : List (ℕ × ℕ)) (piece low top levels : ℕ) : Type 0 where
  pub free : List ℕ
  pub heap : IsHeap ws free
  pub root : Bool
  pub depth : ℕ
  pub tree : Tree depth
  pub few : depth + levels ≤ 6
  pub is : piece_of depth tree ≡ piece
  pub stands : Stands ws free root low (top + 1) depth tree
  pub before : List (ℕ × ℕ)
  pub after : List (ℕ × ℕ)
  pub rises : Rising 0 (2 ^ 64) es
  pub split : es ≡ before ++ (pairs_of depth tree ++ after)
  pub smaller : Below low before
  pub greater : Above top after

-- The words of a map have a leaf in this piece, of count pairs: those with keys from low to top.
pub record IsLeaf (ws : List ℕ) (es : List (ℕ × ℕ)) (piece count low top : ℕ) : Type 0 where
  pub before : List (ℕ × ℕ)
  pub pairs : List (ℕ × ℕ)
  pub after : List (ℕ × ℕ)
  pub rises : Rising 0 (2 ^ 64) es
  pub split : es ≡ before ++ (pairs ++ after)
  pub smaller : Below low before
  pub greater : Above top after
  pub rising : Rising low (top + 1) pairs
  pub long : count ≡ length pairs
  pub keys : keys_of pairs ≡ window ws (at piece 1) count
  pub values : values_of pairs ≡ window ws (at piece 32) count

-- pair i of a leaf
abbrev pub pair_at : List ℕ → ℕ → ℕ → ℕ × ℕ
pair_at ws p i = (slice_index ws (at p 1 + i), slice_index ws (at p 32 + i))

-- place j of those from a place on, or of those before it
abbrev pub place_by : Way → ℕ → ℕ → ℕ
place_by Up place j = place + j
place_by Down place j = place - 1 - j

-- the first n of a row
abbrev pub first_of : (ℕ → ℕ × ℕ) → ℕ → List (ℕ × ℕ)
first_of f zero = []
first_of f (suc n) = first_of f n ++ f n ∷ []

-- the pairs of a map from a key on
abbrev pub pairs_by : Way → ℕ → List (ℕ × ℕ) → List (ℕ × ℕ)
pairs_by Up key es = pairs_from key es
pairs_by Down key es = pairs_to key es

-- what a further key leaves to go
abbrev pub left_by : Way → ℕ → ℕ
left_by Up key = 2 ^ 64 - key
left_by Down key = key + 1

abbrev pub left_after : Way → Option ℕ → ℕ
left_after way None = 0
left_after way (Some key) = left_by way key

abbrev pub pairs_after : Way → Option ℕ → List (ℕ × ℕ) → List (ℕ × ℕ)
pairs_after way None es = []
pairs_after way (Some key) es = pairs_by way key es

-- The first n pairs of the list are written, which are all that there is room for, or none but those that a further
-- key has are left.
abbrev pub IsShown : Way → List (ℕ × ℕ) → List (ℕ × ℕ) → ℕ → Option ℕ → List (ℕ × ℕ) → Type 0
IsShown way es all n None out = take n out ≡ take (length out) all
IsShown way es all n (Some key) out = take n out ++ pairs_by way key es ≡ all
