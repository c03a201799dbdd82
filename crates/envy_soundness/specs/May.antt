-- When a reference, a place or an undo may be written.
use Rattle.std.specs.Prelude.{◌≡◌, ◌≢◌, ◌⊎◌, ℕ, ◌*◌, ◌/◌, ◌%◌, ◌<◌, ◌==◌, List, Option, None, Some, slice_index, if◌then◌else◌}
use Rattle.envy_base.specs.declared.shape.Shape.{Shape}
use Rattle.envy_base.specs.declared.fields.Job.TheVariants.{Switch}
use Rattle.envy_base.specs.declared.fields.Place.{Place}
use Rattle.envy_base.specs.declared.fields.Place.TheVariants.{Absent, Row, Frame}
use Rattle.envy_base.specs.declared.fields.Slot.TheVariants.{Active}
use Rattle.envy_base.specs.declared.fields.Undo.{Undo}
use Rattle.envy_base.specs.declared.fields.Undo.TheVariants.{Clear, Blank, Shadow}
use Rattle.envy_map.specs.Fields.{Fields, place, undo, slot}
use Rattle.envy_soundness.specs.Words.{kept, word_at, live_word, durable_word}
use Rattle.envy_soundness.specs.Sound.{Names, IsPlaced, IsSpare, slots_of, slot_named}
use Rattle.envy_base.specs.declared.page.TheConstants.{PAGE_WORDS}

-- no place names the frame
abbrev pub IsUnnamed : Fields → ℕ → Type 0
IsUnnamed f k = (p : ℕ) → place f p ≢ Some (Frame k)

-- A new reference of the page may name the row: it is below its segment's fill and was claimed for the
-- page, no other page names it, and it lies at a position that isn't being switched.
pub record MayName (sh : Shape) (f : Fields) (p q : ℕ) : Type 0 where
  pub range : q < sh.segments * sh.rows
  pub filled : q % sh.rows < slice_index f.fills (q / sh.rows)
  pub claimed : slice_index f.backs q ≡ p
  pub alone : (r : ℕ) → Names f r q → r ≡ p
  pub home : IsPlaced sh f.positions (q / sh.rows)
  pub unswitched : (v : ℕ) → f.job ≡ Some (Switch v) → q / sh.rows ≢ v

-- or the page names it already
abbrev pub MayRefer : Shape → Fields → ℕ → ℕ → Type 0
MayRefer sh f p q = Names f p q ⊎ MayName sh f p q

-- the place of the page may become this
abbrev pub MayTake : Shape → Fields → ℕ → Place → Type 0
MayTake sh f p Absent = Unit {0}
MayTake sh f p (Row q) = MayRefer sh f p q
MayTake sh f p (Frame k) = (k < sh.frames) × ((r : ℕ) → place f r ≡ Some (Frame k) → r ≡ p)

-- the words there are those that loads of the page read
abbrev pub HasPage : Fields → List (List ℕ) → ℕ → Place → Type 0
HasPage f flash p x = (j : ℕ) → j < PAGE_WORDS → word_at f.frames flash (Some x) j ≡ live_word f flash p j

-- or those with word i changed
abbrev pub HasChanged : Fields → List (List ℕ) → ℕ → Place → ℕ → ℕ → Type 0
HasChanged f flash p x i w = (j : ℕ) → j < PAGE_WORDS → word_at f.frames flash (Some x) j ≡ (if j == i then w else live_word f flash p j)

-- what an undo names
abbrev pub named_by : Undo → Option Place
named_by Clear = None
named_by (Blank t) = Some Absent
named_by (Shadow t q) = Some (Row q)

-- slot t is one of the board's, and active
abbrev pub IsOpen : Fields → ℕ → Type 0
IsOpen f t = (t < slots_of f.version) × (slot f t ≡ Some Active)

-- the words there are those that a restart would leave of the page
abbrev pub HasKept : Fields → List (List ℕ) → ℕ → Option Place → Type 0
HasKept f flash p x = (j : ℕ) → j < PAGE_WORDS → word_at f.frames flash x j ≡ durable_word f flash p j

-- the page may go back to what this undo names
abbrev pub MayUndo : Shape → Fields → List (List ℕ) → ℕ → Undo → Type 0
MayUndo sh f flash p Clear = ⊥
MayUndo sh f flash p (Blank t) = IsOpen f t × HasKept f flash p (Some Absent)
MayUndo sh f flash p (Shadow t q) = IsOpen f t × MayRefer sh f p q × HasKept f flash p (Some (Row q))

-- no undo names the slot
abbrev pub IsUnused : Fields → ℕ → Type 0
IsUnused f t = (p : ℕ) → slot_named (undo f p) ≢ Some t

-- A restart reads the page at its place: its undo is clear, or of a slot that isn't active, or names what
-- the place does.
abbrev pub IsSettled : Fields → ℕ → Type 0
IsSettled f p = kept f p ≡ place f p

-- row i of the spare e is the copy of a row of the segment that is being switched to the spare
pub record IsCopied (sh : Shape) (f : Fields) (e i : ℕ) : Type 0 where
  pub switching : (v : ℕ) × (f.job ≡ Some (Switch v)) × IsPlaced sh f.positions v
  pub spare : IsSpare sh f.positions e
  pub row : i < slice_index f.fills e
