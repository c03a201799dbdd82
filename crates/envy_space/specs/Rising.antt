-- The rows of one segment as calls claim them on a board: the first at its fill of 0, each later one higher, until the
-- segment is erased.
use Rattle.std.specs.Prelude.{◌≡◌, ℕ, ◌+◌, ◌*◌, ◌≤◌, ◌==◌, if◌then◌else◌, List, [], ◌∷◌, Result, Ok, Err, slice_index}
use Rattle.envy_base.specs.declared.board.Off.{Off}
use Rattle.envy_map.specs.Fields.{Chart}

-- what a call does to the rows of a segment
pub data Call : Type 0 where
  -- it claims this row of the segment
  Claims : (row : ℕ) → Call
  -- the segment is erased
  Erases : Call
  -- it leaves the segment's fill: a claim or an erase of another, a change of positions
  Leaves : Call
  -- power fails in it: a claim may have raised the segment's fill, or not
  Breaks : Call

-- the board is left so, in segment s
abbrev pub Makes : ℕ → Call → Chart → Chart → Type 0
Makes s (Claims q) old new = (q ≡ s * old.shape.rows + slice_index old.fields.fills s) × (slice_index new.fields.fills s ≡ slice_index old.fields.fills s + 1) × (new.shape ≡ old.shape)
Makes s Erases old new = (slice_index new.fields.fills s ≡ 0) × (new.shape ≡ old.shape)
Makes s Leaves old new = (slice_index new.fields.fills s ≡ slice_index old.fields.fills s) × (new.shape ≡ old.shape)
Makes s Breaks old new = (slice_index old.fields.fills s ≤ slice_index new.fields.fills s) × (new.shape ≡ old.shape)

-- what the claim of a row of a segment does to the rows of segment s, by its answer
abbrev pub claim_in : (s segment : ℕ) → Result ℕ Off → Call
claim_in s segment (Ok q) = if s == segment then Claims q else Leaves
claim_in s segment (Err off) = Breaks

-- what emptying the fill of segment e does to the rows of segment s
abbrev pub erase_in : (s e : ℕ) → Call
erase_in s e = if s == e then Erases else Leaves

-- each call begins with the board that the one before it left
abbrev pub Linked : ℕ → List Call → Chart → Chart → Type 0
Linked s [] old new = new ≡ old
Linked s (call ∷ calls) old new = (next : Chart) × Makes s call old next × Linked s calls next new

-- the segment is erased by none of the calls
abbrev pub KeepsRows : List Call → Type 0
KeepsRows [] = Unit {0}
KeepsRows (Erases ∷ calls) = ⊥
KeepsRows (Claims q ∷ calls) = KeepsRows calls
KeepsRows (Leaves ∷ calls) = KeepsRows calls
KeepsRows (Breaks ∷ calls) = KeepsRows calls
