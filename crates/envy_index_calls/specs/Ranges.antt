-- Ranges of the array in which maps lie, and when the calls of a range, or of a transaction of maps, are made.
use Rattle.std.specs.Prelude.{◌≡◌, ◌≢◌, ℕ, ◌+◌, ◌*◌, ◌%◌, ◌<◌, ◌≤◌, Bool, true, false, IsTrue, IfSome, List, length, Option, None, Some, Result, Ok, Err}
use Rattle.envy_base.specs.declared.fields.Slot.TheVariants.{Active}
use Rattle.envy_base.specs.declared.page.TheConstants.{PAGE_WORDS}
use Rattle.envy_map.specs.Fields.{Chart, slot as slot_of}
use Rattle.envy_soundness.specs.Words.{live}
use Rattle.envy_memory.specs.Picture.{Picture}
use Rattle.envy_memory.specs.Sheets.{IsHeld}
use Rattle.envy_range.specs.Ranges.{inside, outside}
use Rattle.envy_calls.specs.declared.code.Code.{Code}
use Rattle.envy_calls.specs.declared.code.Code.TheVariants.{Empty, Off, Range, Closed, SlotOpen}
use Rattle.envy_memory.specs.Opened.{HasOpenFrom}
use Rattle.envy_index_calls.specs.Indexed.{HoldsArray}
use Rattle.envy_index_calls.specs.declared.ranges.EnvyMap.{EnvyMap}
use Rattle.envy_index_calls.specs.declared.ranges.Whose.{Whose}
use Rattle.envy_index_calls.specs.declared.ranges.Whose.TheVariants.{New, Slot, Any}
use Rattle.envy_index_calls.specs.declared.words.TheConstants.{MOST_MAP_PAGES}

-- whole pages of an array of so many words, as many as a map needs, and no more than its most
pub record IsRange (range : EnvyMap) (words : ℕ) : Type 0 where
  pub begins : range.first % PAGE_WORDS ≡ 0
  pub whole : range.words % PAGE_WORDS ≡ 0
  pub least : 640 ≤ range.words
  pub most : range.words ≤ PAGE_WORDS * MOST_MAP_PAGES
  pub fits : range.first + range.words ≤ words

-- the words of a range as loads read them, with what an open transaction put, and the words outside it
abbrev pub words_in : EnvyMap → Picture → List ℕ
words_in range p = inside range.first range.words (live p.chart)

abbrev pub words_beside : EnvyMap → Picture → List ℕ
words_beside range p = outside range.first range.words (live p.chart)

-- the first slot is open
abbrev pub HasFirst : Chart → Bool → Type 0
HasFirst c true = slot_of c.fields 0 ≡ Some Active
HasFirst c false = slot_of c.fields 0 ≢ Some Active

-- a transaction of maps is open: the first slot, and no other
abbrev pub IsOpen : Picture → Type 0
IsOpen p = ∥ IsHeld p.chart true ∥₁

-- what a program promises of a memory: while power is on it stands for an array
abbrev pub MayHold : Picture → Type 0
MayHold p = ∥ (IsTrue p.chart.on → HoldsArray p) ∥₁

-- the first slot that is to be closed for a call of a transaction
abbrev pub first_barred : Whose → ℕ
first_barred New = 0
first_barred (Slot t) = 1
first_barred Any = 1

-- its transaction is open, if the call is one of an open transaction
abbrev pub IsItsOwn : Whose → Chart → Type 0
IsItsOwn New c = Unit {0}
IsItsOwn (Slot t) c = (t ≡ 0) × HasFirst c true
IsItsOwn Any c = Unit {0}

-- it isn't
abbrev pub IsAnothers : Whose → Chart → Type 0
IsAnothers New c = ⊥
IsAnothers (Slot t) c = t ≡ 0 → HasFirst c false
IsAnothers Any c = ⊥

-- no map may lie in the range
abbrev pub IsPast : Option EnvyMap → ℕ → Type 0
IsPast None words = ⊥
IsPast (Some range) words = IsRange range words → ⊥

-- A call is made of this transaction, and of this range if it is one of a map.
pub record MayWork (whose : Whose) (range : Option EnvyMap) (p : Picture) : Type 0 where
  pub array : MayHold p
  pub on : IsTrue p.chart.on
  pub alone : HasOpenFrom (first_barred whose) p.chart false
  pub own : IsItsOwn whose p.chart
  pub fits : IfSome range (λ r. IsRange r (PAGE_WORDS * p.chart.shape.pages))

-- why a call isn't made
abbrev pub Denies : Whose → Option EnvyMap → Picture → Code → Type 0
Denies whose range p Off = p.chart.on ≡ false
Denies whose range p SlotOpen = HasOpenFrom (first_barred whose) p.chart true
Denies whose range p Closed = IsAnothers whose p.chart
Denies whose range p Range = IsPast range (PAGE_WORDS * p.chart.shape.pages)
Denies whose range p code = ⊥

-- the memory is taken out of a place, with its transaction if one is open; or the place stays, and why
abbrev pub LendsFor : Whose → Option EnvyMap → Option Picture → Option Picture → Result (Picture × Bool) Code → Type 0
LendsFor whose range None new (Ok x) = ⊥
LendsFor whose range (Some p) new (Ok x) = (x.0 ≡ p) × MayWork whose range p × HasFirst p.chart x.1 × ∥ IsHeld p.chart x.1 ∥₁
LendsFor whose range None new (Err code) = (new ≡ None) × (code ≡ Empty)
LendsFor whose range (Some p) new (Err code) = (new ≡ Some p) × Denies whose range p code
