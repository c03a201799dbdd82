-- What holds of a board after each device operation of a formatted memory, in groups, each over the
-- parts of the map that it reads.
use Rattle.std.specs.Prelude.{◌≡◌, ◌≢◌, ◌⊎◌, ℕ, ◌+◌, ◌*◌, ◌/◌, ◌%◌, ◌<◌, ◌≤◌, ◌==◌, Bool, true, false, List, [], length, Option, None, Some, slice_index, slice_index_or, count_by, if◌then◌else◌}
use Rattle.envy_base.specs.declared.shape.Shape.{Shape}
use Rattle.envy_base.specs.declared.fields.Job.{Job}
use Rattle.envy_base.specs.declared.fields.Job.TheVariants.{Idle, Copy, Switch, Erase}
use Rattle.envy_base.specs.declared.fields.Place.{Place}
use Rattle.envy_base.specs.declared.fields.Place.TheVariants.{Row, Frame}
use Rattle.envy_base.specs.declared.fields.Slot.{Slot}
use Rattle.envy_base.specs.declared.fields.Slot.TheVariants.{Vacant, Active, Committed}
use Rattle.envy_base.specs.declared.fields.Undo.{Undo}
use Rattle.envy_base.specs.declared.fields.Undo.TheVariants.{Clear, Blank, Shadow}
use Rattle.envy_base.specs.State.{ones}
use Rattle.envy_map.specs.Fields.{Fields, Chart, sizes_of}
use Rattle.envy_soundness.specs.Words.{kept_by}
use Rattle.envy_base.specs.declared.page.TheConstants.{PAGE_WORDS}
use Rattle.envy_base.specs.Shape.{all_positions_of, positions_of, IsVersionOf}

-- a reference: the page's place names the row, or its undo does and the slot is active
abbrev pub Refers : List (Option Slot) → List (Option Undo) → List (Option Place) → ℕ → ℕ → Type 0
Refers slots undos places p q =
    (slice_index_or places p None ≡ Some (Row q))
    ⊎ (kept_by slots (slice_index_or undos p None) (slice_index_or places p None) ≡ Some (Row q))

abbrev pub Names : Fields → ℕ → ℕ → Type 0
Names f p q = Refers f.slots f.undos f.places p q

abbrev pub is_active : Option Slot → Bool
is_active (Some Active) = true
is_active (Some Vacant) = false
is_active (Some Committed) = false
is_active None = false

-- the slot that an undo names
abbrev pub slot_named : Option Undo → Option ℕ
slot_named None = None
slot_named (Some Clear) = None
slot_named (Some (Blank t)) = Some t
slot_named (Some (Shadow t q)) = Some t

-- whether the undo is that of an open transaction
abbrev pub owned_by : List (Option Slot) → Option Undo → Bool
owned_by slots None = false
owned_by slots (Some Clear) = false
owned_by slots (Some (Blank t)) = is_active (slice_index_or slots t None)
owned_by slots (Some (Shadow t q)) = is_active (slice_index_or slots t None)

-- a segment stands at a position in use
abbrev pub IsPlaced : Shape → List ℕ → ℕ → Type 0
IsPlaced sh positions s = (k : ℕ) × (k < positions_of sh) × (slice_index positions k ≡ s)

-- a segment stands at a position in reserve
abbrev pub IsReserved : Shape → List ℕ → ℕ → Type 0
IsReserved sh positions s = (k : ℕ) × (positions_of sh ≤ k) × (k < all_positions_of sh) × (slice_index positions k ≡ s)

-- the spare: the segment that no position names
pub record IsSpare (sh : Shape) (positions : List ℕ) (e : ℕ) : Type 0 where
  pub segment : e < sh.segments
  pub nowhere : (k : ℕ) → k < all_positions_of sh → slice_index positions k ≢ e

-- how many slots a board of this version has
abbrev pub slots_of : ℕ → ℕ
slots_of version = if version == 1 then 16 else 64

-- the board's own shape is kept, in its version, which may be 1 in place of 2; version 3 keeps reserves and sums too
pub record Head (sh : Shape) (version : ℕ) (sizes : List ℕ) (reserves_word sums_word : ℕ) : Type 0 where
  pub versions : IsVersionOf sh version
  pub kept : sizes ≡ sizes_of sh
  pub reserves : version ≡ 3 → reserves_word ≡ sh.reserves
  pub sums : version ≡ 3 → sums_word ≡ sh.sums

-- slots and undos decode; an undo names a slot that isn't vacant; few pages have an active one
pub record Slots (sh : Shape) (version : ℕ) (slots : List (Option Slot)) (undos : List (Option Undo)) : Type 0 where
  pub long : length slots ≡ 64
  pub decode : (t : ℕ) → t < slots_of version → slice_index_or slots t None ≢ None
  pub undos_long : length undos ≡ sh.pages
  pub undos_decode : (p : ℕ) → p < sh.pages → slice_index_or undos p None ≢ None
  pub named : (p t : ℕ) → slot_named (slice_index_or undos p None) ≡ Some t → t < slots_of version
  pub rows : (p t q : ℕ) → slice_index_or undos p None ≡ Some (Shadow t q) → q < sh.segments * sh.rows
  pub in_use : (p t : ℕ) → slot_named (slice_index_or undos p None) ≡ Some t → slice_index_or slots t None ≢ Some Vacant
  pub few : count_by (owned_by slots) undos ≤ sh.shadows

-- places decode, and no two name one frame
pub record Places (sh : Shape) (places : List (Option Place)) : Type 0 where
  pub long : length places ≡ sh.pages
  pub decode : (p : ℕ) → p < sh.pages → slice_index_or places p None ≢ None
  pub rows : (p q : ℕ) → slice_index_or places p None ≡ Some (Row q) → q < sh.segments * sh.rows
  pub frames : (p k : ℕ) → slice_index_or places p None ≡ Some (Frame k) → k < sh.frames
  pub apart : (p r k : ℕ) → slice_index_or places p None ≡ Some (Frame k) → slice_index_or places r None ≡ Some (Frame k) → p ≡ r

-- a kept row is one page's, below its segment's fill, and was claimed for that page
pub record Rows (sh : Shape) (slots : List (Option Slot)) (undos : List (Option Undo)) (places : List (Option Place)) (fills backs : List ℕ) : Type 0 where
  pub apart : (p r q : ℕ) → Refers slots undos places p q → Refers slots undos places r q → p ≡ r
  pub filled : (p q : ℕ) → Refers slots undos places p q → q % sh.rows < slice_index fills (q / sh.rows)
  pub claimed : (p q : ℕ) → Refers slots undos places p q → slice_index backs q ≡ p

-- numbers of segments, positions and rows are in range, and no two positions name one segment
pub record Numbers (sh : Shape) (wears fills positions backs origins frames : List ℕ) : Type 0 where
  pub wears_long : length wears ≡ sh.segments
  pub fills_long : length fills ≡ sh.segments
  pub fills_fit : (s : ℕ) → slice_index fills s ≤ sh.rows
  pub positions_long : length positions ≡ all_positions_of sh
  pub positions_fit : (k : ℕ) → k < all_positions_of sh → slice_index positions k < sh.segments
  pub apart : (i j : ℕ) → i < all_positions_of sh → j < all_positions_of sh → slice_index positions i ≡ slice_index positions j → i ≡ j
  pub backs_long : length backs ≡ sh.segments * sh.rows
  pub backs_fit : (q : ℕ) → q < sh.segments * sh.rows → slice_index backs q < sh.pages
  pub origins_long : length origins ≡ sh.rows
  pub origins_fit : (i : ℕ) → i < sh.rows → slice_index origins i < sh.segments * sh.rows
  pub frames_long : length frames ≡ PAGE_WORDS * sh.frames

-- rows from a fill upward are erased, but in the spare while it is being erased; an idle spare is empty
pub record Blanks (sh : Shape) (job : Option Job) (fills positions : List ℕ) (flash : List (List ℕ)) : Type 0 where
  pub above : (q : ℕ) → q < sh.segments * sh.rows → slice_index fills (q / sh.rows) ≤ q % sh.rows → (slice_index_or flash q [] ≡ ones) ⊎ ((job ≡ Some Erase) × IsSpare sh positions (q / sh.rows))
  pub idle : (e : ℕ) → job ≡ Some Idle → IsSpare sh positions e → slice_index fills e ≡ 0

-- kept rows lie at positions in use, or in the spare that a position is being switched to
pub record Homes (sh : Shape) (job : Option Job) (positions : List ℕ) (slots : List (Option Slot)) (undos : List (Option Undo)) (places : List (Option Place)) : Type 0 where
  pub kept : (p q : ℕ) → Refers slots undos places p q → IsPlaced sh positions (q / sh.rows) ⊎ ((v : ℕ) × (job ≡ Some (Switch v)) × IsPlaced sh positions v × IsSpare sh positions (q / sh.rows))

-- The spare e holds a copy of each kept row of segment v: its row i is a copy of the row origin(i). Of
-- the two no more than one is kept.
pub record Copies (sh : Shape) (slots : List (Option Slot)) (undos : List (Option Undo)) (places : List (Option Place)) (fills backs origins : List ℕ) (flash : List (List ℕ)) (v e : ℕ) : Type 0 where
  pub rows : (i : ℕ) → i < slice_index fills e → slice_index origins i / sh.rows ≡ v
  pub apart : (i j : ℕ) → i < slice_index fills e → j < slice_index fills e → slice_index origins i ≡ slice_index origins j → i ≡ j
  pub all : (p q : ℕ) → Refers slots undos places p q → q / sh.rows ≡ v → (i : ℕ) × (i < slice_index fills e) × (slice_index origins i ≡ q)
  pub same : (p i : ℕ) → i < slice_index fills e → Refers slots undos places p (slice_index origins i) → slice_index_or flash (e * sh.rows + i) [] ≡ slice_index_or flash (slice_index origins i) []
  pub backs_same : (p i : ℕ) → i < slice_index fills e → Refers slots undos places p (slice_index origins i) → slice_index backs (e * sh.rows + i) ≡ slice_index backs (slice_index origins i)
  pub once : (p r i : ℕ) → i < slice_index fills e → Refers slots undos places p (e * sh.rows + i) → Refers slots undos places r (slice_index origins i) → ⊥

-- the job decodes, and the segment that it names is where it should be
pub record Jobs (sh : Shape) (job : Option Job) (positions : List ℕ) (slots : List (Option Slot)) (undos : List (Option Undo)) (places : List (Option Place)) (fills backs origins : List ℕ) (flash : List (List ℕ)) : Type 0 where
  pub decodes : job ≢ None
  pub copying : (v : ℕ) → job ≡ Some (Copy v) → IsPlaced sh positions v
  pub switching : (v : ℕ) → job ≡ Some (Switch v) → IsPlaced sh positions v ⊎ IsSpare sh positions v
  pub copies : (v e : ℕ) → job ≡ Some (Switch v) → IsPlaced sh positions v → IsSpare sh positions e → Copies sh slots undos places fills backs origins flash v e

pub record Sound (sh : Shape) (f : Fields) (flash : List (List ℕ)) : Type 0 where
  pub head : Head sh f.version f.sizes f.reserves f.sums
  pub slots : Slots sh f.version f.slots f.undos
  pub places : Places sh f.places
  pub rows : Rows sh f.slots f.undos f.places f.fills f.backs
  pub numbers : Numbers sh f.wears f.fills f.positions f.backs f.origins f.frames
  pub blanks : Blanks sh f.job f.fills f.positions flash
  pub homes : Homes sh f.job f.positions f.slots f.undos f.places
  pub job : Jobs sh f.job f.positions f.slots f.undos f.places f.fills f.backs f.origins flash

abbrev pub IsSound : Chart → Type 0
IsSound c = Sound c.shape c.fields c.flash

-- a row by its kind: kept where a reference names it, free from its segment's fill upward, else dead
abbrev pub IsKept : Fields → ℕ → Type 0
IsKept f q = (p : ℕ) × Names f p q

abbrev pub IsFree : Shape → Fields → ℕ → Type 0
IsFree sh f q = slice_index f.fills (q / sh.rows) ≤ q % sh.rows
