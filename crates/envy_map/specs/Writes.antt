-- What a writer of one field may do.
use Rattle.std.specs.Prelude.{◌≡◌, ◌⊎◌, ℕ, ◌+◌, ◌*◌, ◌<◌, false, IsTrue, List, ◌++◌, take, drop, Option, Some, Result, Ok, Err, slice_set}
use Rattle.envy_base.specs.declared.board.Off.{Off}
use Rattle.envy_base.specs.declared.fields.Job.{Job}
use Rattle.envy_base.specs.declared.fields.Place.{Place}
use Rattle.envy_base.specs.declared.fields.Place.TheVariants.{Absent}
use Rattle.envy_base.specs.declared.fields.Slot.{Slot}
use Rattle.envy_base.specs.declared.fields.Undo.{Undo}
use Rattle.envy_base.specs.declared.fields.Undo.TheVariants.{Clear}
use Rattle.envy_map.specs.Fields.{Fields, Chart, failed, with_fields}
use Rattle.envy_base.specs.declared.page.TheConstants.{PAGE_WORDS}

-- what a reader answers: the field, or `Off` exactly where power is off
abbrev pub Gives : {T : Type 0} → Chart → Option T → Result T Off → Type 0
Gives c field (Ok x) = IsTrue c.on × (field ≡ Some x)
Gives c field (Err off) = c.on ≡ false

-- power was off and nothing changed, or it failed and the fields are some of these
abbrev pub Stopped : (Fields → Type 0) → Chart → Chart → Type 0
Stopped P old new = ((old.on ≡ false) × (new ≡ old)) ⊎ (IsTrue old.on × (f : Fields) × P f × (new ≡ failed (with_fields old f)))

-- one put, which changes the fields so; where it is cut, it changes them or not
abbrev pub Writes : (Fields → Fields) → Chart → Result Unit Off → Chart → Type 0
Writes change old (Ok done) new = IsTrue old.on × (new ≡ with_fields old (change old.fields))
Writes change old (Err off) new = Stopped (λ f. (f ≡ old.fields) ⊎ (f ≡ change old.fields)) old new

abbrev pub with_magic : ℕ → Fields → Fields
with_magic w f = record f { magic = w }

abbrev pub with_version : ℕ → Fields → Fields
with_version n f = record f { version = n }

abbrev pub with_size : ℕ → ℕ → Fields → Fields
with_size i w f = record f { sizes = slice_set f.sizes i w }

abbrev pub with_reserves : ℕ → Fields → Fields
with_reserves n f = record f { reserves = n }

abbrev pub with_sums : ℕ → Fields → Fields
with_sums n f = record f { sums = n }

abbrev pub with_job : Option Job → Fields → Fields
with_job j f = record f { job = j }

abbrev pub with_slot : ℕ → Option Slot → Fields → Fields
with_slot t s f = record f { slots = slice_set f.slots t s }

abbrev pub with_wear : ℕ → ℕ → Fields → Fields
with_wear s n f = record f { wears = slice_set f.wears s n }

abbrev pub with_fill : ℕ → ℕ → Fields → Fields
with_fill s n f = record f { fills = slice_set f.fills s n }

abbrev pub with_position : ℕ → ℕ → Fields → Fields
with_position k s f = record f { positions = slice_set f.positions k s }

abbrev pub with_place : ℕ → Option Place → Fields → Fields
with_place p x f = record f { places = slice_set f.places p x }

abbrev pub with_undo : ℕ → Option Undo → Fields → Fields
with_undo p u f = record f { undos = slice_set f.undos p u }

-- the two places, or the two undos, of word i of their region are cleared
abbrev pub with_places_clear : ℕ → Fields → Fields
with_places_clear i f = record f { places = slice_set (slice_set f.places (2 * i) (Some Absent)) (2 * i + 1) (Some Absent) }

abbrev pub with_undos_clear : ℕ → Fields → Fields
with_undos_clear i f = record f { undos = slice_set (slice_set f.undos (2 * i) (Some Clear)) (2 * i + 1) (Some Clear) }

abbrev pub with_back : ℕ → ℕ → Fields → Fields
with_back q p f = record f { backs = slice_set f.backs q p }

abbrev pub with_origin : ℕ → ℕ → Fields → Fields
with_origin i q f = record f { origins = slice_set f.origins i q }

abbrev pub with_frame_word : ℕ → ℕ → ℕ → Fields → Fields
with_frame_word k i w f = record f { frames = slice_set f.frames (PAGE_WORDS * k + i) w }

-- d with the first n words of s written over it from at on
abbrev pub pasted : List ℕ → ℕ → List ℕ → ℕ → List ℕ
pasted d at s n = take at d ++ take n s ++ drop (at + n) d

-- the first n words of a page stand in a frame
abbrev pub with_frame : ℕ → List ℕ → ℕ → Fields → Fields
with_frame k page n f = record f { frames = pasted f.frames (PAGE_WORDS * k) page n }

-- n turns have been made since old, each with a put; the fields are these now
pub record Going (old now : Chart) (f : Fields) (n : ℕ) : Type 0 where
  pub is : now ≡ with_fields old f
  pub untouched : n ≡ 0 → now ≡ old
  pub powered : 0 < n → IsTrue old.on
