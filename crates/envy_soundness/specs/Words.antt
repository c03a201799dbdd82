-- The words that a board stands for: as a load reads them, and as a failure of power leaves them.
use Rattle.std.specs.Prelude.{ℕ, ◌+◌, ◌*◌, ◌/◌, ◌%◌, List, [], map, Option, None, Some, slice_index, slice_index_or}
use Rattle.std.specs.List.{range_with_len}
use Rattle.envy_base.specs.declared.fields.Place.{Place}
use Rattle.envy_base.specs.declared.fields.Place.TheVariants.{Absent, Row, Frame}
use Rattle.envy_base.specs.declared.fields.Slot.{Slot}
use Rattle.envy_base.specs.declared.fields.Slot.TheVariants.{Vacant, Active, Committed}
use Rattle.envy_base.specs.declared.fields.Undo.{Undo}
use Rattle.envy_base.specs.declared.fields.Undo.TheVariants.{Clear, Blank, Shadow}
use Rattle.envy_map.specs.Fields.{Fields, Chart, place, undo}
use Rattle.envy_base.specs.declared.page.TheConstants.{PAGE_WORDS}

abbrev pub if_active : Option Slot → Option Place → Option Place → Option Place
if_active (Some Active) back now = back
if_active (Some Vacant) back now = now
if_active (Some Committed) back now = now
if_active None back now = now

-- where a restart reads a page: what its undo names where the slot is active, else its place
abbrev pub kept_by : List (Option Slot) → Option Undo → Option Place → Option Place
kept_by slots None now = now
kept_by slots (Some Clear) now = now
kept_by slots (Some (Blank t)) now = if_active (slice_index_or slots t None) (Some Absent) now
kept_by slots (Some (Shadow t q)) now = if_active (slice_index_or slots t None) (Some (Row q)) now

abbrev pub kept : Fields → ℕ → Option Place
kept f p = kept_by f.slots (undo f p) (place f p)

-- word i of the page that is there
abbrev pub word_at : List ℕ → List (List ℕ) → Option Place → ℕ → ℕ
word_at frames flash None i = 0
word_at frames flash (Some Absent) i = 0
word_at frames flash (Some (Row q)) i = slice_index (slice_index_or flash q []) i
word_at frames flash (Some (Frame k)) i = slice_index frames (PAGE_WORDS * k + i)

abbrev pub live_word : Fields → List (List ℕ) → ℕ → ℕ → ℕ
live_word f flash p i = word_at f.frames flash (place f p) i

abbrev pub durable_word : Fields → List (List ℕ) → ℕ → ℕ → ℕ
durable_word f flash p i = word_at f.frames flash (kept f p) i

-- the list of the words of so many pages
unfoldable pub words : ℕ → (ℕ → ℕ → ℕ) → List ℕ
words pages word = map (λ a. word (a / PAGE_WORDS) (a % PAGE_WORDS)) (range_with_len 0 (PAGE_WORDS * pages))

-- what loads read
abbrev pub live : Chart → List ℕ
live c = words c.shape.pages (live_word c.fields c.flash)

-- what a restart would leave
abbrev pub durable : Chart → List ℕ
durable c = words c.shape.pages (durable_word c.fields c.flash)
