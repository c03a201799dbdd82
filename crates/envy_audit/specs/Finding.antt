-- What a test over a board answers.
use Rattle.std.specs.Prelude.{◌≡◌, ◌≢◌, ◌↔◌, ℕ, ◌-◌, ◌<◌, ◌≤◌, Bool, false, IsTrue, Option, Some, None, Result, Ok, Err, slice_index}
use Rattle.envy_base.specs.declared.board.Off.{Off}
use Rattle.envy_base.specs.declared.fields.Job.TheVariants.{Switch}
use Rattle.envy_base.specs.declared.fields.Slot.{Slot}
use Rattle.envy_map.specs.Fields.{Chart, place, undo, slot}
use Rattle.envy_soundness.specs.Sound.{slots_of, slot_named}
use Rattle.envy_audit.specs.Points.{IsPlaceOf, IsUndoOf, Stands, Switches, rows_of}
use Rattle.envy_base.specs.Shape.{all_positions_of}

-- whether a fact holds, or `Off` where power is off
abbrev pub Tells : Bool → Type 0 → Result Bool Off → Type 0
Tells on P (Ok answer) = IsTrue answer ↔ P
Tells on P (Err off) = on ≡ false

-- the slots and the entries for pages decode within their ranges
pub record PagesDecode (c : Chart) : Type 0 where
  pub slots : (t : ℕ) → t < slots_of c.fields.version → slot c.fields t ≢ None
  pub undos : (p : ℕ) → p < c.shape.pages → IsUndoOf c.shape (slots_of c.fields.version) (undo c.fields p)
  pub places : (p : ℕ) → p < c.shape.pages → IsPlaceOf c.shape (place c.fields p)

-- fills, positions, backs and origins are in their ranges
pub record NumbersFit (c : Chart) : Type 0 where
  pub fills : (s : ℕ) → s < c.shape.segments → slice_index c.fields.fills s ≤ c.shape.rows
  pub positions : (k : ℕ) → k < all_positions_of c.shape → slice_index c.fields.positions k < c.shape.segments
  pub backs : (q : ℕ) → q < rows_of c.shape → slice_index c.fields.backs q < c.shape.pages
  pub origins : (i : ℕ) → i < c.shape.rows → slice_index c.fields.origins i < rows_of c.shape

-- what stands in the slot that the undo of a page names
abbrev pub NamesSlot : Chart → ℕ → Result (Option Slot) Off → Type 0
NamesSlot c p (Ok None) = IsTrue c.on × (slot_named (undo c.fields p) ≡ None)
NamesSlot c p (Ok (Some stands)) =
    IsTrue c.on × (t : ℕ) × (slot_named (undo c.fields p) ≡ Some t) × (slot c.fields t ≡ Some stands)
NamesSlot c p (Err off) = c.on ≡ false

-- the map keeps the board's reserves and sums, if its version has words for them
pub record KeepsExtras (c : Chart) : Type 0 where
  pub reserves : c.fields.version ≡ 3 → c.fields.reserves ≡ c.shape.reserves
  pub sums : c.fields.version ≡ 3 → c.fields.sums ≡ c.shape.sums

-- a segment at a position is switched
abbrev pub IsSwitching : Chart → Type 0
IsSwitching c = (v : ℕ) × (c.fields.job ≡ Some (Switch v)) × Stands c.shape c.fields.positions v

-- the segment at a position in use that is switched
abbrev pub FindsSwitch : Chart → Result (Option ℕ) Off → Type 0
FindsSwitch c (Ok (Some v)) = Switches c v
FindsSwitch c (Ok None) = (v : ℕ) → Switches c v → ⊥
FindsSwitch c (Err off) = c.on ≡ false
