-- How jobs, slots, places and undos are numbers of SRAM, and how two halves share a word.
use Rattle.std.specs.Prelude.{ℕ, ◌+◌, ◌*◌, ◌/◌, ◌%◌, ◌^◌, ◌<◌, List, [], ◌∷◌, Option, None, Some, ◌==◌, nat_lt, ◌&&◌, if◌then◌else◌}
use Rattle.envy_base.specs.declared.fields.Job.{Job}
use Rattle.envy_base.specs.declared.fields.Job.TheVariants.{Idle, Copy, Switch, Erase}
use Rattle.envy_base.specs.declared.fields.Place.{Place}
use Rattle.envy_base.specs.declared.fields.Place.TheVariants.{Absent, Row, Frame}
use Rattle.envy_base.specs.declared.fields.Slot.{Slot}
use Rattle.envy_base.specs.declared.fields.Slot.TheVariants.{Vacant, Active, Committed}
use Rattle.envy_base.specs.declared.fields.Undo.{Undo}
use Rattle.envy_base.specs.declared.fields.Undo.TheVariants.{Clear, Blank, Shadow}
use Rattle.envy_base.specs.declared.shape.TheConstants.{MOST_ROWS}

-- the first word of a formatted board: the text `eNVyFLSH`, its first letter in the highest byte
abbrev pub the_magic : ℕ
the_magic = 0x654E5679464C5348

abbrev pub job_code : Job → ℕ
job_code Idle = 0
job_code (Copy v) = 1 + 4 * v
job_code (Switch v) = 2 + 4 * v
job_code Erase = 3

-- a job over a segment of some board
abbrev pub IsJob : Job → Type 0
IsJob Idle = Unit {0}
IsJob (Copy v) = v < 4096
IsJob (Switch v) = v < 4096
IsJob Erase = Unit {0}

unfoldable pub job_of : ℕ → Option Job
job_of w =
    if w == 0 then Some Idle
    else (if w == 3 then Some Erase
    else (if (w % 4 == 1) && nat_lt (w / 4) 4096 then Some (Copy (w / 4))
    else (if (w % 4 == 2) && nat_lt (w / 4) 4096 then Some (Switch (w / 4)) else None)))

abbrev pub slot_code : Slot → ℕ
slot_code Vacant = 0
slot_code Active = 1
slot_code Committed = 2

unfoldable pub slot_of : ℕ → Option Slot
slot_of w = if w == 0 then Some Vacant else (if w == 1 then Some Active else (if w == 2 then Some Committed else None))

abbrev pub place_code : Place → ℕ
place_code Absent = 0
place_code (Row q) = 1 + 4 * q
place_code (Frame f) = 2 + 4 * f

-- a row or frame of some board
abbrev pub IsPlace : Place → Type 0
IsPlace Absent = Unit {0}
IsPlace (Row q) = q < MOST_ROWS
IsPlace (Frame f) = f < 65536

unfoldable pub place_of : ℕ → Option Place
place_of w =
    if w == 0 then Some Absent
    else (if (w % 4 == 1) && nat_lt (w / 4) MOST_ROWS then Some (Row (w / 4))
    else (if (w % 4 == 2) && nat_lt (w / 4) 65536 then Some (Frame (w / 4)) else None))

abbrev pub undo_code : Undo → ℕ
undo_code Clear = 0
undo_code (Blank t) = 1 + 4 * t
undo_code (Shadow t q) = 2 + 4 * t + 256 * q

-- one of the 64 slots, and a row of some board
abbrev pub IsUndo : Undo → Type 0
IsUndo Clear = Unit {0}
IsUndo (Blank t) = t < 64
IsUndo (Shadow t q) = (t < 64) × (q < MOST_ROWS)

unfoldable pub undo_of : ℕ → Option Undo
undo_of w =
    if w == 0 then Some Clear
    else (if (w % 4 == 1) && nat_lt (w / 4) 64 then Some (Blank (w / 4))
    else (if (w % 4 == 2) && nat_lt (w / 256) MOST_ROWS then Some (Shadow (w % 256 / 4) (w / 256)) else None))

-- the halves of words, the low one first
abbrev pub halves : List ℕ → List ℕ
halves [] = []
halves (w ∷ ws) = w % 2 ^ 32 ∷ w / 2 ^ 32 ∷ halves ws

-- entry p's half of a word
unfoldable pub half_of : ℕ → ℕ → ℕ
half_of w p = if p % 2 == 0 then w % 2 ^ 32 else w / 2 ^ 32

-- a word with entry p's half changed
unfoldable pub with_half : ℕ → ℕ → ℕ → ℕ
with_half w p v = if p % 2 == 0 then w / 2 ^ 32 * 2 ^ 32 + v else v * 2 ^ 32 + w % 2 ^ 32
