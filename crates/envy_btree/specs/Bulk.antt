-- What it makes of a tree that pairs are put after all others, as a leaf of their own.
use Rattle.std.specs.Prelude.{◌≡◌, ◌⊎◌, ℕ, ◌^◌, ◌≤◌, nat_lt, List, [], ◌∷◌, ◌++◌, length, slice_index, Option, if◌then◌else◌}
use Rattle.envy_heap.specs.Pieces.{Takes}
use Rattle.envy_btree.specs.Pairs.{Below}
use Rattle.envy_btree.specs.Tree.{Rising, Shows, keys_of, pairs_of, values_of}
use Rattle.envy_btree.specs.Nodes.{OnlyPiece}
use Rattle.envy_btree.specs.Changes.{Outcome, Rests, Way}

-- these pairs are put before the first of the others whose key isn't below this one
abbrev pub with_pairs : ℕ → List (ℕ × ℕ) → List (ℕ × ℕ) → List (ℕ × ℕ)
with_pairs key ps [] = ps
with_pairs key ps (e ∷ es) = if nat_lt e.0 key then e ∷ with_pairs key ps es else ps ++ e ∷ es

-- Pairs from a key on may follow those under this piece, which are enough for a leaf and all below the key.
pub record Brim (ws : List ℕ) (piece level key : ℕ) (ps : List (ℕ × ℕ)) : Type 0 where
  pub way : Way ws piece level key
  pub enough : 15 ≤ length (pairs_of way.rests.depth way.rests.tree)
  pub before : Below key (pairs_of way.rests.depth way.rests.tree)
  pub rising : Rising key way.rests.high ps

-- the pairs are in the tree
abbrev pub Follows : (old new : List ℕ) (piece level key : ℕ) (ps : List (ℕ × ℕ)) → Rests old piece level → Option (ℕ × ℕ) → Type 0
Follows old new piece level key ps t r = Outcome old new t.free (with_pairs key ps (pairs_of t.depth t.tree)) t.root t.low t.high t.depth t.tree r

-- a piece that was taken is a leaf of these pairs
pub record Leafed (old new free : List ℕ) (piece : ℕ) (ps : List (ℕ × ℕ)) : Type 0 where
  pub mid : List ℕ
  pub rest : List ℕ
  pub takes : Takes piece old mid free rest
  pub shows : Shows new piece 0 (keys_of ps) (values_of ps)
  pub only : OnlyPiece piece mid new

-- Pairs from a key on may follow the pairs of a map: where there are others, both are enough for a leaf.
pub record MayFollow (ws : List ℕ) (key : ℕ) (ps es : List (ℕ × ℕ)) : Type 0 where
  pub before : Below key es
  pub rising : Rising key (2 ^ 64) ps
  pub enough : (slice_index ws 0 ≡ 0) ⊎ ((15 ≤ length es) × (15 ≤ length ps))
