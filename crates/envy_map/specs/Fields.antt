-- The fields of the SRAM map, and a board read by them.
use Rattle.std.specs.Prelude.{◌≡◌, ◌⊎◌, ◌==◌, Bool, false, ℕ, ◌+◌, ◌-◌, ◌*◌, ◌/◌, ◌%◌, ◌^◌, List, [], ◌∷◌, map, take, drop, Option, None, min, slice_index, slice_index_or, if◌then◌else◌}
use Rattle.envy_base.specs.declared.shape.Shape.{Shape}
use Rattle.envy_base.specs.declared.faults.PlannedFault.{PlannedFault}
use Rattle.envy_base.specs.declared.fields.Job.{Job}
use Rattle.envy_base.specs.declared.fields.Place.{Place}
use Rattle.envy_base.specs.declared.fields.Slot.{Slot}
use Rattle.envy_base.specs.declared.fields.Undo.{Undo}
use Rattle.envy_base.specs.Counting.{up}
use Rattle.envy_base.specs.Map.{slots_at, wear_at, fill_at, position_at, table_at, undo_at, back_at, origin_at, frames_at}
use Rattle.envy_base.specs.State.{Notes, State}
use Rattle.envy_map.specs.Codes.{the_magic, job_of, slot_of, place_of, undo_of, halves}
use Rattle.envy_base.specs.declared.page.TheConstants.{PAGE_WORDS}
use Rattle.envy_base.specs.Shape.{all_positions_of}

-- `None` stands where no encoding gives the number
pub record Fields : Type 0 where
  pub magic : ℕ
  pub version : ℕ
  -- segments and rows, pages and shadows, frames and entries: two numbers to a word
  pub sizes : List ℕ
  pub job : Option Job
  -- under version 3, how many positions are in reserve and whether rows have sums
  pub reserves : ℕ
  pub sums : ℕ
  pub slots : List (Option Slot)
  pub wears : List ℕ
  pub fills : List ℕ
  pub positions : List ℕ
  pub places : List (Option Place)
  pub undos : List (Option Undo)
  pub backs : List ℕ
  pub origins : List ℕ
  -- word i of frame f is number 32 * f + i
  pub frames : List ℕ

-- n words of the map from one on
abbrev pub region : List ℕ → ℕ → ℕ → List ℕ
region xs at n = take n (drop at xs)

-- n packed entries from a word on
abbrev pub packed : List ℕ → ℕ → ℕ → List ℕ
packed xs at n = take n (halves (region xs at ((n + 1) / 2)))

unfoldable pub map_fields : Shape → List ℕ → Fields
map_fields sh sram = record {
  magic = slice_index sram 0;
  version = slice_index sram 1;
  sizes = region sram 2 3;
  job = job_of (slice_index sram 5);
  reserves = slice_index sram 6;
  sums = slice_index sram 7;
  slots = map slot_of (region sram slots_at 64);
  wears = region sram wear_at sh.segments;
  fills = region sram (fill_at sh) sh.segments;
  positions = region sram (position_at sh) (all_positions_of sh);
  places = map place_of (packed sram (table_at sh) sh.pages);
  undos = map undo_of (packed sram (undo_at sh) sh.pages);
  backs = region sram (back_at sh) (sh.segments * sh.rows);
  origins = region sram (origin_at sh) sh.rows;
  frames = region sram (frames_at sh) (PAGE_WORDS * sh.frames);
}

-- the words that keep a shape
abbrev pub sizes_of : Shape → List ℕ
sizes_of sh = (sh.segments * 2 ^ 32 + sh.rows) ∷ (sh.pages * 2 ^ 32 + sh.shadows) ∷ (sh.frames * 2 ^ 32 + sh.entries) ∷ []

-- a word as a number of 32 bits: one that is larger is the largest, which no board has
abbrev pub narrowed : ℕ → ℕ
narrowed w = min w (2 ^ 32 - 1)

-- the shape that words keep: without reserves and sums but under version 3
abbrev pub shape_in : ℕ → List ℕ → ℕ → ℕ → Shape
shape_in version sizes reserves sums = record {
  segments = slice_index sizes 0 / 2 ^ 32;
  rows = slice_index sizes 0 % 2 ^ 32;
  pages = slice_index sizes 1 / 2 ^ 32;
  shadows = slice_index sizes 1 % 2 ^ 32;
  frames = slice_index sizes 2 / 2 ^ 32;
  entries = slice_index sizes 2 % 2 ^ 32;
  reserves = if version == 3 then narrowed reserves else 0;
  sums = if version == 3 then narrowed sums else 0;
}

-- the shape that a map keeps
abbrev pub shape_of : Fields → Shape
shape_of f = shape_in f.version f.sizes f.reserves f.sums

-- a version that a map may have: 1 or 2, or 3 with reserves or sums
abbrev pub IsVersion : ℕ → ℕ → ℕ → Type 0
IsVersion version reserves sums = (version ≡ 1) ⊎ ((version ≡ 2) ⊎ ((version ≡ 3) × ((reserves ≡ 0) × (sums ≡ 0) → ⊥)))

-- the map of a formatted board, of any version
abbrev pub IsFormatted : Fields → Type 0
IsFormatted f = (f.magic ≡ the_magic) × IsVersion f.version f.reserves f.sums

-- A board read by its map. The layers above speak of this alone.
pub record Chart : Type 0 where
  pub shape : Shape
  pub fields : Fields
  pub flash : List (List ℕ)
  pub on : Bool
  pub cuts : ℕ
  pub bads : ℕ
  pub begun : ℕ
  pub erases : List ℕ
  pub pulled : ℕ
  pub plans : ℕ
  pub last_plan : Option PlannedFault
  pub lives : ℕ
  pub given : ℕ
  pub notes : Notes

abbrev pub chart : State → Chart
chart s = record {
  shape = s.shape;
  fields = map_fields s.shape s.sram;
  flash = s.flash;
  on = s.on;
  cuts = s.cuts;
  bads = s.bads;
  begun = s.begun;
  erases = s.erases;
  pulled = s.pulled;
  plans = s.plans;
  last_plan = s.last_plan;
  lives = s.lives;
  given = s.given;
  notes = s.notes;
}

-- after a failure of power
abbrev pub failed : Chart → Chart
failed c = record c { on = false; cuts = up c.cuts }

abbrev pub with_fields : Chart → Fields → Chart
with_fields c f = record c { fields = f }

-- look-ups are total: past the end, and where nothing decodes, there is `None`
abbrev pub place : Fields → ℕ → Option Place
place f p = slice_index_or f.places p None

abbrev pub undo : Fields → ℕ → Option Undo
undo f p = slice_index_or f.undos p None

abbrev pub slot : Fields → ℕ → Option Slot
slot f t = slice_index_or f.slots t None
