-- What a board is, and what each of its calls does.
use Rattle.std.specs.Prelude.{◌≡◌, ◌≢◌, ◌⊎◌, ℕ, ◌-◌, ◌*◌, ◌/◌, ◌^◌, ◌<◌, Bool, true, false, IsTrue, List, [], ◌∷◌, length, slice_set, slice_index, slice_index_or, bit_and, replicate, Option, Some, None, Result, Ok, Err}
use Rattle.envy_base.specs.declared.shape.Shape.{Shape}
use Rattle.envy_base.specs.declared.faults.PlannedFault.{PlannedFault}
use Rattle.envy_base.specs.declared.board.Off.{Off}
use Rattle.envy_base.specs.declared.board.Trouble.{Trouble}
use Rattle.envy_base.specs.declared.board.Trouble.TheVariants.{Off as TroubleOff, Bad}
use Rattle.envy_base.specs.Counting.{up}
use Rattle.envy_base.specs.Map.{words_of}
use Rattle.envy_base.specs.Shape.{IsShape}
use Rattle.envy_base.specs.declared.page.TheConstants.{PAGE_WORDS}

-- a sync of a board whose owner keeps it on a disk: when it succeeded, the bytes that it brought there, and how many calls on
-- a second file had failed before it
pub record SyncNote : Type 0 where
  pub moment : ℕ
  pub bytes : List ℕ
  pub hindrances : ℕ

-- what the owner of a board notes beside it: the last sync that succeeded, and the one before
pub record Notes : Type 0 where
  pub last : SyncNote
  pub before : SyncNote

-- there was no sync
abbrev pub no_sync : SyncNote
no_sync = record { moment = 0; bytes = []; hindrances = 0 }

abbrev pub no_notes : Notes
no_notes = record { last = no_sync; before = no_sync }

pub record State : Type 0 where
  pub shape : Shape
  -- rows of 32 words
  pub flash : List (List ℕ)
  pub sram : List ℕ
  pub on : Bool
  -- failures of power, bad operations, programs begun, and erases begun of each segment
  pub cuts : ℕ
  pub bads : ℕ
  pub begun : ℕ
  pub erases : List ℕ
  -- cuts by hand, plans made and the last of them, returns of power left, and those that the board was made with
  pub pulled : ℕ
  pub plans : ℕ
  pub last_plan : Option PlannedFault
  pub lives : ℕ
  pub given : ℕ
  -- which no call of a board changes
  pub notes : Notes

-- words of 64 bits
abbrev pub AreWords : List ℕ → Type 0
AreWords xs = (i : ℕ) → slice_index xs i < 2 ^ 64

pub record IsPage (xs : List ℕ) : Type 0 where
  pub long : length xs ≡ PAGE_WORDS
  pub words : AreWords xs

abbrev pub ones : List ℕ
ones = replicate PAGE_WORDS (2 ^ 64 - 1)

abbrev pub IsOnes : List ℕ → Type 0
IsOnes xs = xs ≡ ones

-- the bitwise AND, word by word
abbrev pub ands : List ℕ → List ℕ → List ℕ
ands [] ys = []
ands (x ∷ xs) [] = []
ands (x ∷ xs) (y ∷ ys) = bit_and x y ∷ ands xs ys

abbrev pub row_of : State → ℕ → List ℕ
row_of s q = slice_index_or s.flash q []

-- facts that hold of each board
pub record IsBoard (s : State) : Type 0 where
  pub shape : IsShape s.shape
  pub sram : length s.sram ≡ words_of s.shape
  pub rows : length s.flash ≡ s.shape.segments * s.shape.rows
  pub pages : (q : ℕ) → q < length s.flash → IsPage (row_of s q)
  pub words : AreWords s.sram
  pub erases : length s.erases ≡ s.shape.segments

-- what a read answers: this, or `Off` exactly where power is off
abbrev pub Reads : {T : Type 0} → State → T → Result T Off → Type 0
Reads s x (Ok v) = IsTrue s.on × (v ≡ x)
Reads s x (Err off) = s.on ≡ false

-- power fails inside an operation
abbrev pub cut : State → State
cut s = record s { on = false; cuts = up s.cuts }

abbrev pub with_word : State → ℕ → ℕ → State
with_word s w v = record s { sram = slice_set s.sram w v }

-- a `put` of v into word w
abbrev pub Puts : State → ℕ → ℕ → Result Unit Off → State → Type 0
Puts old w v (Ok done) new = IsTrue old.on × (new ≡ with_word old w v)
Puts old w v (Err off) new = ((old.on ≡ false) × (new ≡ old)) ⊎ (IsTrue old.on × ((new ≡ cut old) ⊎ (new ≡ cut (with_word old w v))))

-- a program has begun, and the row holds this
abbrev pub with_row : State → ℕ → List ℕ → State
with_row s q xs = record s { flash = slice_set s.flash q xs; begun = up s.begun }

-- a `program` of row q with the page x
abbrev pub Programs : State → ℕ → List ℕ → Result Unit Trouble → State → Type 0
Programs old q x (Ok done) new = IsTrue old.on × (new ≡ with_row old q (ands (row_of old q) x))
Programs old q x (Err TroubleOff) new = ((old.on ≡ false) × (new ≡ old)) ⊎ (IsTrue old.on × (xs : List ℕ) × IsPage xs × (new ≡ cut (with_row old q xs)))
Programs old q x (Err Bad) new = IsTrue old.on × (xs : List ℕ) × IsPage xs × (new ≡ record (with_row old q xs) { bads = up old.bads })

-- rows differ in segment e alone, and each row there is as P says
pub record Only (rows e : ℕ) (P : List ℕ → Type 0) (old new : List (List ℕ)) : Type 0 where
  pub long : length new ≡ length old
  pub others : (q : ℕ) → q / rows ≢ e → slice_index_or new q [] ≡ slice_index_or old q []
  pub inside : (q : ℕ) → q < length old → q / rows ≡ e → P (slice_index_or new q [])

-- an erase has begun, and the rows are these
abbrev pub with_segment : State → ℕ → List (List ℕ) → State
with_segment s e rows = record s { flash = rows; erases = slice_set s.erases e (up (slice_index s.erases e)) }

-- an `erase` of segment e
abbrev pub Erases : State → ℕ → Result Unit Trouble → State → Type 0
Erases old e (Ok done) new = IsTrue old.on × (rows : List (List ℕ)) × Only old.shape.rows e IsOnes old.flash rows × (new ≡ with_segment old e rows)
Erases old e (Err TroubleOff) new = ((old.on ≡ false) × (new ≡ old)) ⊎ (IsTrue old.on × (rows : List (List ℕ)) × Only old.shape.rows e IsPage old.flash rows × (new ≡ cut (with_segment old e rows)))
Erases old e (Err Bad) new = IsTrue old.on × (rows : List (List ℕ)) × Only old.shape.rows e IsPage old.flash rows × (new ≡ record (with_segment old e rows) { bads = up old.bads })

-- power is cut by hand
abbrev pub pull : State → State
pull s = record s { on = false; cuts = up s.cuts; pulled = up s.pulled }

-- power returns
abbrev pub lit : State → State
lit s = record s { on = true; lives = s.lives - 1 }

-- a failure is planned
abbrev pub planned : PlannedFault → State → State
planned fault s = record s { plans = up s.plans; last_plan = Some fault }

-- a new board of this shape, whose power can return so often
pub record IsMade (sh : Shape) (returns : ℕ) (s : State) : Type 0 where
  pub shape : s.shape ≡ sh
  pub on : IsTrue s.on
  pub lives : s.lives ≡ returns
  pub given : s.given ≡ returns
  pub cuts : s.cuts ≡ 0
  pub bads : s.bads ≡ 0
  pub begun : s.begun ≡ 0
  pub erases : (e : ℕ) → slice_index s.erases e ≡ 0
  pub pulled : s.pulled ≡ 0
  pub plans : s.plans ≡ 0
  pub last_plan : s.last_plan ≡ None
