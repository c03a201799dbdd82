-- The points of soundness one by one, in the order in which an audit asks them.
use Rattle.std.specs.Prelude.{◌≡◌, ◌≢◌, ◌⊎◌, ℕ, ◌+◌, ◌-◌, ◌*◌, ◌/◌, ◌%◌, ◌<◌, ◌≤◌, ⊤, List, [], Option, None, Some, slice_index, slice_index_or, count_by}
use Rattle.envy_base.specs.declared.shape.Shape.{Shape}
use Rattle.envy_base.specs.declared.fields.Job.{Job}
use Rattle.envy_base.specs.declared.fields.Job.TheVariants.{Idle, Copy, Switch, Erase}
use Rattle.envy_base.specs.declared.fields.Place.{Place}
use Rattle.envy_base.specs.declared.fields.Place.TheVariants.{Absent, Row, Frame}
use Rattle.envy_base.specs.declared.fields.Slot.TheVariants.{Vacant}
use Rattle.envy_base.specs.declared.fields.Undo.{Undo}
use Rattle.envy_base.specs.declared.fields.Undo.TheVariants.{Clear, Blank, Shadow}
use Rattle.envy_base.specs.State.{ones}
use Rattle.envy_map.specs.Fields.{Chart, sizes_of, place, undo, slot}
use Rattle.envy_soundness.specs.Sound.{Names, IsKept, IsPlaced, IsReserved, IsSpare, slots_of, slot_named, owned_by}
use Rattle.envy_base.specs.Shape.{all_positions_of, IsVersionOf}

-- the number of rows of a board
abbrev pub rows_of : Shape → ℕ
rows_of sh = sh.segments * sh.rows

-- A field decodes, and the numbers in it are in their ranges.

abbrev pub IsJobOf : Shape → Option Job → Type 0
IsJobOf sh None = ⊥
IsJobOf sh (Some Idle) = ⊤
IsJobOf sh (Some (Copy v)) = v < sh.segments
IsJobOf sh (Some (Switch v)) = v < sh.segments
IsJobOf sh (Some Erase) = ⊤

abbrev pub IsPlaceOf : Shape → Option Place → Type 0
IsPlaceOf sh None = ⊥
IsPlaceOf sh (Some Absent) = ⊤
IsPlaceOf sh (Some (Row q)) = q < rows_of sh
IsPlaceOf sh (Some (Frame k)) = k < sh.frames

-- an undo that isn't clear names one of so many slots
abbrev pub IsUndoOf : Shape → ℕ → Option Undo → Type 0
IsUndoOf sh slots None = ⊥
IsUndoOf sh slots (Some Clear) = ⊤
IsUndoOf sh slots (Some (Blank t)) = t < slots
IsUndoOf sh slots (Some (Shadow t q)) = (t < slots) × (q < rows_of sh)

-- (a) The board's own shape is kept, in a version of it; version 3 keeps reserves and sums too. Every field decodes,
-- every number in it is in its range, and an undo that isn't clear names one of the version's slots.
pub record Decodes (c : Chart) : Type 0 where
  pub sizes : c.fields.sizes ≡ sizes_of c.shape
  pub version : IsVersionOf c.shape c.fields.version
  pub reserves : c.fields.version ≡ 3 → c.fields.reserves ≡ c.shape.reserves
  pub sums : c.fields.version ≡ 3 → c.fields.sums ≡ c.shape.sums
  pub job : IsJobOf c.shape c.fields.job
  pub slots : (t : ℕ) → t < slots_of c.fields.version → slot c.fields t ≢ None
  pub undos : (p : ℕ) → p < c.shape.pages → IsUndoOf c.shape (slots_of c.fields.version) (undo c.fields p)
  pub places : (p : ℕ) → p < c.shape.pages → IsPlaceOf c.shape (place c.fields p)
  pub fills : (s : ℕ) → s < c.shape.segments → slice_index c.fields.fills s ≤ c.shape.rows
  pub positions : (k : ℕ) → k < all_positions_of c.shape → slice_index c.fields.positions k < c.shape.segments
  pub backs : (q : ℕ) → q < rows_of c.shape → slice_index c.fields.backs q < c.shape.pages
  pub origins : (i : ℕ) → i < c.shape.rows → slice_index c.fields.origins i < rows_of c.shape

-- (b) No two positions name one segment.
abbrev pub PositionsDiffer : Chart → Type 0
PositionsDiffer c =
    (i j : ℕ) → i < all_positions_of c.shape → j < all_positions_of c.shape → slice_index c.fields.positions i ≡ slice_index c.fields.positions j → i ≡ j

-- (c) No two places name one frame.
abbrev pub FramesDiffer : Chart → Type 0
FramesDiffer c = (p r k : ℕ) → place c.fields p ≡ Some (Frame k) → place c.fields r ≡ Some (Frame k) → p ≡ r

-- (d) Where two references name one row, they are the place and the undo of one page.
abbrev pub RowsDiffer : Chart → Type 0
RowsDiffer c = (p r q : ℕ) → Names c.fields p q → Names c.fields r q → p ≡ r

-- (e) A kept row is below its segment's fill, and was claimed for the page of its reference.
abbrev pub KeptAreClaimed : Chart → Type 0
KeptAreClaimed c =
    (p q : ℕ) → Names c.fields p q → (q % c.shape.rows < slice_index c.fields.fills (q / c.shape.rows)) × (slice_index c.fields.backs q ≡ p)

-- (f) Rows from the fill upward are all ones, except in the spare while it is being erased.
abbrev pub FreeAreOnes : Chart → Type 0
FreeAreOnes c =
    (q : ℕ) → q < rows_of c.shape → slice_index c.fields.fills (q / c.shape.rows) ≤ q % c.shape.rows
    → (slice_index_or c.flash q [] ≡ ones) ⊎ ((c.fields.job ≡ Some Erase) × IsSpare c.shape c.fields.positions (q / c.shape.rows))

-- (g) While there is no job the spare's fill is 0.
abbrev pub IdleSpareIsEmpty : Chart → Type 0
IdleSpareIsEmpty c =
    (e : ℕ) → c.fields.job ≡ Some Idle → IsSpare c.shape c.fields.positions e → slice_index c.fields.fills e ≡ 0

-- a switch from a segment at a position in use is going on
abbrev pub Switches : Chart → ℕ → Type 0
Switches c v = (c.fields.job ≡ Some (Switch v)) × IsPlaced c.shape c.fields.positions v

-- a segment is at a position, in use or in reserve
abbrev pub Stands : Shape → List ℕ → ℕ → Type 0
Stands sh positions s = (k : ℕ) × (k < all_positions_of sh) × (slice_index positions k ≡ s)

-- (h) Kept rows lie in segments at positions, or in the spare while a segment at one is switched.
abbrev pub KeptArePlaced : Chart → Type 0
KeptArePlaced c =
    (p q : ℕ) → Names c.fields p q
    → Stands c.shape c.fields.positions (q / c.shape.rows)
    ⊎ ((v : ℕ) × (c.fields.job ≡ Some (Switch v)) × Stands c.shape c.fields.positions v × IsSpare c.shape c.fields.positions (q / c.shape.rows))

-- What the spare e holds while segment v is switched: copies of rows of v that differ from each other, among
-- them every kept row of v. A copy of a kept row equals it and was claimed for the same page.
pub record CopiesOf (c : Chart) (v e : ℕ) : Type 0 where
  pub rows : (i : ℕ) → i < slice_index c.fields.fills e → slice_index c.fields.origins i / c.shape.rows ≡ v
  pub differ : (i j : ℕ) → i < slice_index c.fields.fills e → j < slice_index c.fields.fills e → slice_index c.fields.origins i ≡ slice_index c.fields.origins j → i ≡ j
  pub all : (p q : ℕ) → Names c.fields p q → q / c.shape.rows ≡ v → (i : ℕ) × (i < slice_index c.fields.fills e) × (slice_index c.fields.origins i ≡ q)
  pub same : (i : ℕ) → i < slice_index c.fields.fills e → IsKept c.fields (slice_index c.fields.origins i) → (slice_index_or c.flash (e * c.shape.rows + i) [] ≡ slice_index_or c.flash (slice_index c.fields.origins i) []) × (slice_index c.fields.backs (e * c.shape.rows + i) ≡ slice_index c.fields.backs (slice_index c.fields.origins i))

-- (i) A segment that is copied stands at a position in use. One that is switched stands at one or is the spare,
-- and where it stands at one the spare holds its copies.
pub record JobStands (c : Chart) : Type 0 where
  pub copied : (v : ℕ) → c.fields.job ≡ Some (Copy v) → IsPlaced c.shape c.fields.positions v
  pub switched : (v : ℕ) → c.fields.job ≡ Some (Switch v) → IsPlaced c.shape c.fields.positions v ⊎ IsSpare c.shape c.fields.positions v
  pub copies : (v e : ℕ) → Switches c v → IsSpare c.shape c.fields.positions e → CopiesOf c v e

-- (j) While a segment at a position in use is switched, a kept row of the spare is no copy of a kept row.
abbrev pub KeptOnce : Chart → Type 0
KeptOnce c =
    (v e i : ℕ) → Switches c v → IsSpare c.shape c.fields.positions e → i < c.shape.rows
    → IsKept c.fields (e * c.shape.rows + i) → IsKept c.fields (slice_index c.fields.origins i) → ⊥

-- (k) No more pages have an undo of an active slot than may.
abbrev pub FewAreOwned : Chart → Type 0
FewAreOwned c = count_by (owned_by c.fields.slots) c.fields.undos ≤ c.shape.shadows

-- (l) An undo that isn't clear names a slot that isn't vacant.
abbrev pub UndosAreInUse : Chart → Type 0
UndosAreInUse c = (p t : ℕ) → slot_named (undo c.fields p) ≡ Some t → slot c.fields t ≢ Some Vacant

-- (m) No kept row lies in a segment at a position in reserve.
abbrev pub ReservesAreUnkept : Chart → Type 0
ReservesAreUnkept c = (p q : ℕ) → Names c.fields p q → IsReserved c.shape c.fields.positions (q / c.shape.rows) → ⊥
