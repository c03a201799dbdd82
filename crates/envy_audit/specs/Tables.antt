-- The tables that an audit fills from the map.
use Rattle.std.specs.Prelude.{◌≡◌, ◌≢◌, ◌↔◌, ◌⊎◌, ℕ, suc, ◌<◌, Bool, true, false, IsTrue, List, length, slice_index, slice_index_or, slice_set, ⊤, Result, Ok, Err}
use Rattle.envy_base.specs.declared.board.Off.{Off}
use Rattle.envy_base.specs.declared.shape.Shape.{Shape}
use Rattle.envy_base.specs.declared.fields.Place.{Place}
use Rattle.envy_base.specs.declared.fields.Place.TheVariants.{Absent, Row, Frame}
use Rattle.envy_map.specs.Fields.{Chart}
use Rattle.envy_soundness.specs.Sound.{Names, IsPlaced}
use Rattle.envy_audit.specs.Points.{rows_of, Stands}

-- which segments stand at positions
pub record MarksPlaced (c : Chart) (placed : List Bool) : Type 0 where
  pub long : length placed ≡ c.shape.segments
  pub marks : (s : ℕ) → s < c.shape.segments → IsTrue (slice_index_or placed s false) ↔ Stands c.shape c.fields.positions s

-- which of them stand at positions in use
pub record MarksUsed (c : Chart) (used : List Bool) : Type 0 where
  pub long : length used ≡ c.shape.segments
  pub marks : (s : ℕ) → s < c.shape.segments → IsTrue (slice_index_or used s false) ↔ IsPlaced c.shape c.fields.positions s

-- which page keeps a row: its number and 1, or 0 where none does
pub record NotesOwners (c : Chart) (owners : List ℕ) : Type 0 where
  pub long : length owners ≡ rows_of c.shape
  pub notes : (q p : ℕ) → q < rows_of c.shape → (slice_index owners q ≡ suc p) ↔ Names c.fields p q

-- which rows the first origins name
pub record MarksCopied (c : Chart) (fill : ℕ) (copied : List Bool) : Type 0 where
  pub long : length copied ≡ rows_of c.shape
  pub marks : (q : ℕ) → q < rows_of c.shape → IsTrue (slice_index_or copied q false) ↔ ((i : ℕ) × (i < fill) × (slice_index c.fields.origins i ≡ q))

-- the table is filled where nothing was found wrong
abbrev pub Fills : Result Bool Off → Type 0 → Type 0
Fills (Ok answer) P = IsTrue answer → P
Fills (Err off) P = ⊤

-- the row that a page that is there stands in is noted as the page's, unless it is noted as another's
abbrev pub Notes : ℕ → Place → List ℕ → Bool → List ℕ → Type 0
Notes p (Row q) old true new = ((slice_index old q ≡ 0) ⊎ (slice_index old q ≡ suc p)) × (new ≡ slice_set old q (suc p))
Notes p (Row q) old false new = (r : ℕ) × (slice_index old q ≡ suc r) × (r ≢ p)
Notes p Absent old answer new = IsTrue answer × (new ≡ old)
Notes p (Frame k) old answer new = IsTrue answer × (new ≡ old)

-- a row that a page that is there stands in is one of so many
abbrev pub IsWithin : ℕ → Place → Type 0
IsWithin n (Row q) = q < n
IsWithin n Absent = ⊤
IsWithin n (Frame k) = ⊤
