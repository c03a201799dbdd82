-- What formatting does: the map of an empty array over erased flash, the first word written last.
use Rattle.std.specs.Prelude.{◌≡◌, ◌⊎◌, ℕ, zero, suc, ◌+◌, ◌-◌, ◌*◌, ◌/◌, ◌^◌, ◌<◌, ◌≤◌, ◌≢◌, ◌==◌, Bool, true, false, not, IsTrue, List, [], ◌∷◌, ◌++◌, length, take, min, replicate, Some, slice_index, slice_index_or, Result, Ok, Err, if◌then◌else◌}
use Rattle.std.specs.List.{filter, range_with_len}
use Rattle.envy_base.specs.Counting.{up}
use Rattle.envy_base.specs.State.{State, Only, IsOnes, ones, with_segment}
use Rattle.envy_base.specs.declared.board.Trouble.{Trouble}
use Rattle.envy_base.specs.declared.board.Trouble.TheVariants.{Off as TroubleOff, Bad}
use Rattle.envy_base.specs.declared.fields.Job.TheVariants.{Idle}
use Rattle.envy_base.specs.declared.fields.Place.TheVariants.{Absent}
use Rattle.envy_base.specs.declared.fields.Slot.TheVariants.{Vacant}
use Rattle.envy_base.specs.declared.fields.Undo.TheVariants.{Clear}
use Rattle.envy_base.specs.declared.shape.Shape.{Shape}
use Rattle.envy_map.specs.Codes.{the_magic}
use Rattle.envy_map.specs.Fields.{Fields, Chart, chart, with_fields, sizes_of, slot, place, undo}
use Rattle.envy_map.specs.Writes.{pasted, with_size, with_version, with_job, with_fill, with_wear, with_position}
use Rattle.envy_soundness.specs.Same.{Counted}
use Rattle.envy_soundness.specs.Sound.{IsSound, slots_of}
use Rattle.envy_soundness.specs.Words.{live, durable}
use Rattle.envy_base.specs.declared.page.TheConstants.{PAGE_WORDS}
use Rattle.envy_base.specs.Shape.{all_positions_of}

-- formatting sets a segment aside if its erase is bad: all of its rows count as claimed
abbrev pub is_aside : Shape → List ℕ → ℕ → Bool
is_aside sh fills s = slice_index fills s == sh.rows

-- of the first n segments those that were set aside, and the good ones, each rising
abbrev pub aside_of : Shape → List ℕ → ℕ → List ℕ
aside_of sh fills n = filter (λ s. is_aside sh fills s) (range_with_len 0 n)

abbrev pub good_of : Shape → List ℕ → ℕ → List ℕ
good_of sh fills n = filter (λ s. not (is_aside sh fills s)) (range_with_len 0 n)

abbrev pub aside : Shape → List ℕ → List ℕ
aside sh fills = aside_of sh fills sh.segments

abbrev pub good : Shape → List ℕ → List ℕ
good sh fills = good_of sh fills sh.segments

-- the segments at the positions of a new map: the good ones without the last of them, which is the spare, then those
-- set aside
abbrev pub laid_out : Shape → List ℕ → List ℕ
laid_out sh fills = take (length (good sh fills) - 1) (good sh fills) ++ aside sh fills

-- n flash operations were bad: the count of them rose by n, unless it is at the top
abbrev pub Spoils : ℕ → ℕ → ℕ → Type 0
Spoils n bads then_bads = (bads ≤ then_bads) × (then_bads < 2 ^ 64 - 1 → then_bads ≡ bads + n)

-- But for power the board is sound and stands for zeros: no slot is open, each segment is worn once, and it is
-- empty or was set aside. No more are set aside than there are positions in reserve.
pub record IsEmpty (version : ℕ) (c : Chart) : Type 0 where
  pub magic : c.fields.magic ≡ the_magic
  pub version_is : c.fields.version ≡ version
  pub sound : IsSound c
  pub live_zeros : live c ≡ replicate (PAGE_WORDS * c.shape.pages) 0
  pub durable_zeros : durable c ≡ replicate (PAGE_WORDS * c.shape.pages) 0
  pub job : c.fields.job ≡ Some Idle
  pub slots : (t : ℕ) → t < slots_of version → slot c.fields t ≡ Some Vacant
  pub places : (p : ℕ) → p < c.shape.pages → place c.fields p ≡ Some Absent
  pub undos : (p : ℕ) → p < c.shape.pages → undo c.fields p ≡ Some Clear
  pub wears : (s : ℕ) → s < c.shape.segments → slice_index c.fields.wears s ≡ 1
  pub fills : (s : ℕ) → s < c.shape.segments → (slice_index c.fields.fills s ≡ 0) ⊎ (slice_index c.fields.fills s ≡ c.shape.rows)
  pub few : length (aside c.shape c.fields.fills) ≤ c.shape.reserves
  pub positions : c.fields.positions ≡ laid_out c.shape c.fields.fills

-- one erase of each of the first n segments began
abbrev pub AreErasedOnce : ℕ → List ℕ → List ℕ → Type 0
AreErasedOnce n old new = (s : ℕ) → s < n → slice_index new s ≡ up (slice_index old s)

-- formatting that power stopped left a board that isn't formatted, or the board of before, or an empty one
abbrev pub IsBetween : ℕ → State → State → Type 0
IsBetween version old new = (slice_index new.sram 0 ≡ 0) ⊎ (((new.flash ≡ old.flash) × (new.sram ≡ old.sram)) ⊎ IsEmpty version (chart new))

-- What formatting leaves at every exit. Each segment set aside was answered bad; it fails only if more erases were bad
-- than there are positions in reserve.
abbrev pub Formats : ℕ → State → Result Unit Trouble → State → Type 0
Formats version old (Ok done) new = IsTrue new.on × IsEmpty version (chart new) × Spoils (length (aside new.shape (chart new).fields.fills)) old.bads new.bads
Formats version old (Err TroubleOff) new = (new.on ≡ false) × IsBetween version old new
Formats version old (Err Bad) new = IsTrue new.on × (slice_index new.sram 0 ≡ 0) × (old.bads + old.shape.reserves < 2 ^ 64 - 1 → old.bads + old.shape.reserves < new.bads)

-- the first n of a list are x
abbrev pub filled : {A : Type 0} → List A → A → ℕ → List A
filled [] x n = []
filled (y ∷ ys) x zero = y ∷ ys
filled (y ∷ ys) x (suc n) = x ∷ filled ys x n

abbrev pub with_sizes : Shape → Fields → Fields
with_sizes sh f = with_size 2 (slice_index (sizes_of sh) 2) (with_size 1 (slice_index (sizes_of sh) 1) (with_size 0 (slice_index (sizes_of sh) 0) f))

-- the words that keep reserves and sums, which only version 3 has
abbrev pub with_extras : Shape → ℕ → Fields → Fields
with_extras sh version f = record f { reserves = if version == 3 then sh.reserves else f.reserves; sums = if version == 3 then sh.sums else f.sums }

-- the words that keep the shape, the version and the job of a new map
abbrev pub with_head : Shape → ℕ → Fields → Fields
with_head sh version f = with_job (Some Idle) (with_version version (with_extras sh version (with_sizes sh f)))

-- the first n slots, positions, pages, undos, rows or origins of a new map
abbrev pub with_slots_laid : ℕ → Fields → Fields
with_slots_laid n f = record f { slots = filled f.slots (Some Vacant) n }

abbrev pub with_positions_laid : List ℕ → Fields → Fields
with_positions_laid xs f = record f { positions = xs }

-- whether a segment is of one kind: set aside, or good
abbrev pub is_kind : Bool → Shape → List ℕ → ℕ → Bool
is_kind true sh fills s = is_aside sh fills s
is_kind false sh fills s = not (is_aside sh fills s)

-- of the first n segments those of the kind
abbrev pub kind_of : Bool → Shape → List ℕ → ℕ → List ℕ
kind_of kind sh fills n = filter (λ s. is_kind kind sh fills s) (range_with_len 0 n)

-- segment s came to the next position, or it is of the other kind or there is no position left for it
abbrev pub LaysNext : Bool → ℕ → ℕ → ℕ → Chart → ℕ → Chart → Type 0
LaysNext kind s at end old next new =
    ((is_kind kind old.shape old.fields.fills s ≡ true) × (at < end) × (next ≡ at + 1) × (new ≡ with_fields old (with_position at s old.fields)))
    ⊎ (((is_kind kind old.shape old.fields.fills s ≡ false) ⊎ (end ≤ at)) × (next ≡ at) × (new ≡ old))

-- the positions from one until another name the first segments of the kind
abbrev pub with_kind_laid : Bool → Shape → ℕ → ℕ → Fields → Fields
with_kind_laid kind sh start end f = record f { positions = pasted f.positions start (kind_of kind sh f.fills sh.segments) (min (length (kind_of kind sh f.fills sh.segments)) (end - start)) }

abbrev pub with_places_laid : ℕ → Fields → Fields
with_places_laid n f = record f { places = filled f.places (Some Absent) n }

abbrev pub with_undos_laid : ℕ → Fields → Fields
with_undos_laid n f = record f { undos = filled f.undos (Some Clear) n }

abbrev pub with_backs_laid : ℕ → Fields → Fields
with_backs_laid n f = record f { backs = filled f.backs 0 n }

abbrev pub with_origins_laid : ℕ → Fields → Fields
with_origins_laid n f = record f { origins = filled f.origins 0 n }

-- power failed in a part of formatting, whose first word stayed
pub record IsStopped (n : ℕ) (old new : Chart) : Type 0 where
  pub off : new.on ≡ false
  pub shape : new.shape ≡ old.shape
  pub magic : new.fields.magic ≡ old.fields.magic
  pub counted : Counted 0 n old new

-- The first n segments are worn once, and each is erased and empty, or set aside because its erase was bad.
pub record Cleared (n : ℕ) (old new : Chart) : Type 0 where
  pub shape : new.shape ≡ old.shape
  pub on : IsTrue new.on
  pub fields : new.fields ≡ record old.fields { wears = filled old.fields.wears 1 n; fills = new.fields.fills }
  pub fills_long : length new.fields.fills ≡ length old.fields.fills
  pub fills : (s : ℕ) → s < n → (slice_index new.fields.fills s ≡ 0) ⊎ (slice_index new.fields.fills s ≡ old.shape.rows)
  pub long : length new.flash ≡ length old.flash
  pub erased : (q : ℕ) → q < length old.flash → q / old.shape.rows < n → slice_index new.fields.fills (q / old.shape.rows) ≡ 0 → slice_index_or new.flash q [] ≡ ones
  pub once : AreErasedOnce n old.erases new.erases
  pub others : (s : ℕ) → n ≤ s → slice_index new.erases s ≡ slice_index old.erases s
  pub counted : Counted 0 n old new
  pub bads : Spoils (length (aside_of old.shape new.fields.fills n)) old.bads new.bads
  pub few : length (aside_of old.shape new.fields.fills n) ≤ old.shape.reserves

-- an erase failed in a part of formatting, whose first word stayed, and more than m were bad
pub record IsSpoilt (n m : ℕ) (old new : Chart) : Type 0 where
  pub on : IsTrue new.on
  pub shape : new.shape ≡ old.shape
  pub magic : new.fields.magic ≡ old.fields.magic
  pub counted : Counted 0 n old new
  pub bads : old.bads + m < 2 ^ 64 - 1 → old.bads + m < new.bads

-- an erase of segment s ended, good or bad
pub record ErasedOne (s : ℕ) (is_bad : Bool) (old new : State) : Type 0 where
  pub on : IsTrue new.on
  pub flash : Only old.shape.rows s (λ xs. is_bad ≡ false → IsOnes xs) old.flash new.flash
  pub is : new ≡ record (with_segment old s new.flash) { bads = new.bads }
  pub bads : new.bads ≡ (if is_bad then up old.bads else old.bads)

-- Segment s is worn once, and it is erased and empty, or set aside.
pub record ClearedOne (s : ℕ) (is_bad : Bool) (old new : Chart) : Type 0 where
  pub shape : new.shape ≡ old.shape
  pub on : IsTrue new.on
  pub fields : new.fields ≡ with_fill s (if is_bad then old.shape.rows else 0) (with_wear s 1 old.fields)
  pub flash : Only old.shape.rows s (λ xs. (is_bad ≡ false) → IsOnes xs) old.flash new.flash
  pub bads : new.bads ≡ (if is_bad then up old.bads else old.bads)
  pub once : slice_index new.erases s ≡ up (slice_index old.erases s)
  pub others : (r : ℕ) → r ≢ s → slice_index new.erases r ≡ slice_index old.erases r
  pub counted : Counted 0 1 old new

-- a part of formatting succeeded, in which at most n segments were erased and the first word stayed
pub record Reached (n : ℕ) (old new : Chart) : Type 0 where
  pub on : IsTrue new.on
  pub shape : new.shape ≡ old.shape
  pub magic : new.fields.magic ≡ old.fields.magic
  pub counted : Counted 0 n old new

-- all regions of a new map but its head
abbrev pub with_regions_laid : Shape → ℕ → Fields → Fields
with_regions_laid sh slots f =
    with_origins_laid sh.rows (with_backs_laid (sh.segments * sh.rows) (with_undos_laid (2 * ((sh.pages + 1) / 2)) (with_places_laid (2 * ((sh.pages + 1) / 2)) (with_positions_laid (laid_out sh f.fills) (with_slots_laid slots f)))))

-- the whole map of an empty array, but for its first word, over flash that is erased in the good segments
pub record IsLaid (sh : Shape) (version : ℕ) (f : Fields) (flash : List (List ℕ)) : Type 0 where
  pub version_is : f.version ≡ version
  pub sizes : f.sizes ≡ sizes_of sh
  pub reserves : version ≡ 3 → f.reserves ≡ sh.reserves
  pub sums : version ≡ 3 → f.sums ≡ sh.sums
  pub job : f.job ≡ Some Idle
  pub slots_long : length f.slots ≡ 64
  pub slots : (t : ℕ) → t < slots_of version → slot f t ≡ Some Vacant
  pub wears_long : length f.wears ≡ sh.segments
  pub wears : (s : ℕ) → s < sh.segments → slice_index f.wears s ≡ 1
  pub fills_long : length f.fills ≡ sh.segments
  pub fills : (s : ℕ) → s < sh.segments → (slice_index f.fills s ≡ 0) ⊎ (slice_index f.fills s ≡ sh.rows)
  pub few : length (aside sh f.fills) ≤ sh.reserves
  pub positions_long : length f.positions ≡ all_positions_of sh
  pub positions : f.positions ≡ laid_out sh f.fills
  pub places_long : length f.places ≡ sh.pages
  pub places : (p : ℕ) → p < sh.pages → place f p ≡ Some Absent
  pub undos_long : length f.undos ≡ sh.pages
  pub undos : (p : ℕ) → p < sh.pages → undo f p ≡ Some Clear
  pub backs_long : length f.backs ≡ sh.segments * sh.rows
  pub backs : (q : ℕ) → q < sh.segments * sh.rows → slice_index f.backs q ≡ 0
  pub origins_long : length f.origins ≡ sh.rows
  pub origins : (i : ℕ) → i < sh.rows → slice_index f.origins i ≡ 0
  pub frames_long : length f.frames ≡ PAGE_WORDS * sh.frames
  pub erased : (q : ℕ) → q < sh.segments * sh.rows → slice_index f.fills (q / sh.rows) ≡ 0 → slice_index_or flash q [] ≡ ones
