-- What the calls of a map answer by a code, and what they leave. The map is the whole array's: it is what the committed
-- words of the memory stand for, as an index tree.
use Rattle.std.specs.Prelude.{◌≡◌, ◌≢◌, ◌⊎◌, ℕ, zero, suc, ◌+◌, ◌*◌, ◌<◌, ◌≤◌, Bool, true, false, IsTrue, List, [], length, replicate, slice_set, sum, Option, None, Some, Result, Ok, Err}
use Rattle.envy_array.specs.Array.{Array}
use Rattle.envy_array.specs.Words.{Sheet}
use Rattle.envy_base.specs.Counting.{Rose}
use Rattle.envy_base.specs.declared.board.Trouble.{Trouble}
use Rattle.envy_base.specs.declared.board.Trouble.TheVariants.{Off as TroubleOff, Bad as TroubleBad}
use Rattle.envy_base.specs.declared.fields.Slot.TheVariants.{Active}
use Rattle.envy_base.specs.declared.page.TheConstants.{PAGE_WORDS}
use Rattle.envy_map.specs.Fields.{Chart, slot as slot_of}
use Rattle.envy_meaning.specs.Stands.{Stands}
use Rattle.envy_soundness.specs.Words.{durable}
use Rattle.envy_memory.specs.Below.{flush_programs, flush_erases}
use Rattle.envy_memory.specs.Calls.{fresh}
use Rattle.envy_memory.specs.Opened.{HasOpenFrom}
use Rattle.envy_memory.specs.Picture.{Picture}
use Rattle.envy_memory.specs.Sheets.{fixed_of}
use Rattle.envy_btree.specs.Answers.{IsFull, IsWritten}
use Rattle.envy_btree.specs.Index.{IsIndex}
use Rattle.envy_btree.specs.Pairs.{assoc, with_pair, without}
use Rattle.envy_btree.specs.declared.fault.LookFault.{LookFault}
use Rattle.envy_btree.specs.declared.fault.LookFault.TheVariants.{Off as LookOff, Broken as LookBroken}
use Rattle.envy_btree.specs.declared.fault.TreeFault.{TreeFault}
use Rattle.envy_btree.specs.declared.fault.TreeFault.TheVariants.{Off as FaultOff, Full as FaultFull, Bad as FaultBad}
use Rattle.envy_calls.specs.Codes.{number_of}
use Rattle.envy_calls.specs.declared.code.Code.{Code}
use Rattle.envy_calls.specs.declared.code.Code.TheVariants.{Done, Empty, Off, Bad, Absent, MapFull, SlotOpen, MapSetup, BrokenMap}
use Rattle.envy_index_calls.specs.declared.words.TheConstants.{MOST_MAP_PAGES}
use Rattle.envy_index_calls.specs.declared.pairs.EnvyPair.{EnvyPair}
use Rattle.envy_index_calls.specs.declared.pairs.EnvyOld.{EnvyOld}
use Rattle.envy_index_calls.specs.Scanned.{pairs_in}

-- pairs of a key and a value, by rising key
abbrev pub Pairs : Type 0
Pairs = List (ℕ × ℕ)

-- The memory stands for an array, with whatever slots are open, and its committed words for the map of these pairs.
pub record HoldsMap (p : Picture) (es : Pairs) : Type 0 where
  pub array : Array
  pub stands : Stands p.chart array
  pub map : IsIndex (durable p.chart) es

-- what a program promises of a memory in which it changes a map, and of one that it asks for pairs or in which it makes a map
abbrev pub HoldsSomeMap : Picture → Type 0
HoldsSomeMap p = (es : Pairs) × HoldsMap p es

abbrev pub HoldsArray : Picture → Type 0
HoldsArray p = (m : Array) × Stands p.chart m

-- no slot is open
abbrev pub IsShut : Picture → Type 0
IsShut p = Stands p.chart (fresh p.chart.shape.shadows (durable p.chart))

-- no slot is open, and the words stand for this map
pub record Serves (p : Picture) (es : Pairs) : Type 0 where
  pub shut : IsShut p
  pub map : IsIndex (durable p.chart) es

-- no slot is open, and the committed words are those of before
pub record Rests (p q : Picture) : Type 0 where
  pub shut : IsShut q
  pub same : durable q.chart ≡ durable p.chart

-- A call is made: a map fits, and no slot is open.
pub record MayServe (p : Picture) : Type 0 where
  pub pages : 20 ≤ p.chart.shape.pages
  pub shadows : 32 ≤ p.chart.shape.shadows
  pub few : p.chart.shape.pages ≤ MOST_MAP_PAGES
  pub array : Array
  pub stands : Stands p.chart array
  pub slots : array.slots ≡ replicate 64 None

-- Why a call isn't made: nothing changes then. A map needs 20 pages and 32 shadows, and has no more pages than its most.
abbrev pub Declines : Picture → Code → Type 0
Declines p MapSetup = (p.chart.shape.pages < 20) ⊎ (MOST_MAP_PAGES < p.chart.shape.pages) ⊎ (p.chart.shape.shadows < 32)
Declines p SlotOpen = HasOpenFrom 0 p.chart true × (20 ≤ p.chart.shape.pages) × (p.chart.shape.pages ≤ MOST_MAP_PAGES) × (32 ≤ p.chart.shape.shadows)
Declines p code = ⊥

-- What every call does: sizes stay, and so do cuts by hand, plans, returns of power, and what the board's owner notes; power that
-- was on and is off failed in the call. No more flash work began than so many puts may begin.
pub record Works (puts : ℕ) (p q : Picture) : Type 0 where
  pub shape : q.chart.shape ≡ p.chart.shape
  pub cuts : p.chart.cuts ≤ q.chart.cuts
  pub bads : p.chart.bads ≤ q.chart.bads
  pub cut : IsTrue p.chart.on → q.chart.on ≡ false → Rose p.chart.cuts q.chart.cuts
  pub fixed : fixed_of q.chart ≡ fixed_of p.chart
  pub notes : q.chart.notes ≡ p.chart.notes
  pub programs : q.chart.begun ≤ p.chart.begun + puts * flush_programs p.chart.shape.rows
  pub erases : sum q.chart.erases ≤ sum p.chart.erases + puts * flush_erases

-- A map is made by a transaction that puts four words, and it counts as a put itself.
abbrev pub creation_puts : ℕ
creation_puts = 5

-- The memory is taken out of a place, with no slot open; or the place stays, and why.
abbrev pub Lends : Option Picture → Option Picture → Result (Picture × Bool) Code → Type 0
Lends None new (Ok x) = ⊥
Lends (Some p) new (Ok x) = (x.0 ≡ p) × (x.1 ≡ false) × MayServe p
Lends None new (Err code) = (new ≡ None) × (code ≡ Empty)
Lends (Some p) new (Err code) = (new ≡ Some p) × Declines p code

-- In a place: its memory's change of a map, which tells this of each map that the memory holds, and is worth so many puts at
-- most; without a memory that is the answer.
abbrev pub Asks : (ℕ → ℕ) → Option Picture → Option Picture → ℕ → (Pairs → Picture → Picture → Code → Type 0) → Type 0
Asks puts None new number Tells = (new ≡ None) × (number ≡ number_of Empty)
Asks puts (Some p) new number Tells = (q : Picture) × (code : Code) × (new ≡ Some q) × (number ≡ number_of code) × Works (puts (PAGE_WORDS * p.chart.shape.pages)) p q × ((es : Pairs) → HoldsMap p es → Tells es p q code)

-- power failed in a call that changes no word
abbrev pub Loses : Picture → Picture → Type 0
Loses p q = (q.chart.on ≡ false) × (durable q.chart ≡ durable p.chart)

-- What a look-up leaves, whatever the words are, and why it answers so: no word changes. After `BrokenMap` the words stand
-- for no map.
abbrev pub Leaves : Picture → Picture → Code → Type 0
Leaves p q Done = Rests p q
Leaves p q BrokenMap = Rests p q × (HoldsSomeMap p → ⊥)
Leaves p q Off = Loses p q
Leaves p q code = (q ≡ p) × Declines p code

-- the same of a look-up that may find nothing
abbrev pub LeavesOrMisses : Picture → Picture → Code → Type 0
LeavesOrMisses p q Absent = Rests p q
LeavesOrMisses p q code = Leaves p q code

-- In a place: what its memory's look-up leaves, and what it tells of each map that the memory holds; without a memory that is
-- the answer.
abbrev pub Looks : (Picture → Picture → Code → Type 0) → Option Picture → Option Picture → ℕ → (Pairs → Code → Type 0) → Type 0
Looks Left None new number Tells = (new ≡ None) × (number ≡ number_of Empty)
Looks Left (Some p) new number Tells = (q : Picture) × (code : Code) × (new ≡ Some q) × (number ≡ number_of code) × Works 0 p q × Left p q code × ((es : Pairs) → HoldsMap p es → Tells es code)

-- The codes of the tree's answers, and what stands at the caller's pointer then.

abbrev pub look_code : LookFault → Code
look_code LookOff = Off
look_code LookBroken = BrokenMap

abbrev pub TellsValue : Result (Option ℕ) LookFault → Code → ℕ → ℕ → Type 0
TellsValue (Ok (Some value)) code before after = (code ≡ Done) × (after ≡ value)
TellsValue (Ok None) code before after = (code ≡ Absent) × (after ≡ before)
TellsValue (Err fault) code before after = (code ≡ look_code fault) × (after ≡ before)

abbrev pub TellsCount : Result ℕ LookFault → Code → ℕ → ℕ → Type 0
TellsCount (Ok n) code before after = (code ≡ Done) × (after ≡ n)
TellsCount (Err fault) code before after = (code ≡ look_code fault) × (after ≡ before)

abbrev pub TellsPair : Result (Option (ℕ × ℕ)) LookFault → Code → EnvyPair → EnvyPair → Type 0
TellsPair (Ok (Some e)) code before after = (code ≡ Done) × (after ≡ record { key = e.0; value = e.1 })
TellsPair (Ok None) code before after = (code ≡ Absent) × (after ≡ before)
TellsPair (Err fault) code before after = (code ≡ look_code fault) × (after ≡ before)

abbrev pub fault_code : TreeFault → Code
fault_code FaultOff = Off
fault_code FaultFull = MapFull
fault_code FaultBad = Bad

-- the old value of a key, as a caller in C has it
abbrev pub old_of : Option ℕ → EnvyOld
old_of None = record { value = 0; had = 0 }
old_of (Some value) = record { value = value; had = 1 }

abbrev pub TellsInsert : Result (Option ℕ) TreeFault → Code → EnvyOld → EnvyOld → Type 0
TellsInsert (Ok was) code before after = (code ≡ Done) × (after ≡ old_of was)
TellsInsert (Err fault) code before after = (code ≡ fault_code fault) × (after ≡ before)

abbrev pub TellsRemoval : Result (Option ℕ) TreeFault → Code → ℕ → ℕ → Type 0
TellsRemoval (Ok (Some value)) code before after = (code ≡ Done) × (after ≡ value)
TellsRemoval (Ok None) code before after = (code ≡ Absent) × (after ≡ before)
TellsRemoval (Err fault) code before after = (code ≡ fault_code fault) × (after ≡ before)

abbrev pub made_code : Result Unit Trouble → Code
made_code (Ok done) = Done
made_code (Err TroubleOff) = Off
made_code (Err TroubleBad) = Bad

-- the value of the key
abbrev pub Gets : ℕ → ℕ → Pairs → Code → Type 0
Gets key value es Done = assoc key es ≡ Some value
Gets key value es Absent = assoc key es ≡ None
Gets key value es code = Unit {0}

-- how many pairs there are
abbrev pub Counts : ℕ → Pairs → Code → Type 0
Counts n es Done = n ≡ length es
Counts n es code = Unit {0}

-- one of the pairs, or none: which of them, Is says
abbrev pub Finds : (Pairs → Option (ℕ × ℕ) → Type 0) → EnvyPair → Pairs → Code → Type 0
Finds Is pair es Done = Is es (Some (pair.key, pair.value))
Finds Is pair es Absent = Is es None
Finds Is pair es code = Unit {0}

-- These of the pairs, in order: as many as the array has room for, or all. The rest of the array stays.
abbrev pub Scans : (Pairs → Pairs) → List EnvyPair → List EnvyPair → ℕ → Pairs → Code → Type 0
Scans which was now n es Done = IsWritten (which es) (pairs_in was) (pairs_in now) n
Scans which was now n es code = Unit {0}

-- the key has this value from then on; where power failed it has either
abbrev pub Inserts : ℕ → ℕ → EnvyOld → Pairs → Picture → Picture → Code → Type 0
Inserts key value old es p q Done = (old ≡ old_of (assoc key es)) × (IsFull (durable p.chart) key es → ⊥) × Serves q (with_pair key value es)
Inserts key value old es p q MapFull = IsFull (durable p.chart) key es × Serves q es
Inserts key value old es p q Bad = Rose p.chart.bads q.chart.bads × Serves q es
Inserts key value old es p q Off = (q.chart.on ≡ false) × (IsIndex (durable q.chart) es ⊎ IsIndex (durable q.chart) (with_pair key value es))
Inserts key value old es p q code = (q ≡ p) × Declines p code

-- the key is out of the map from then on; where power failed it is in or out
abbrev pub Removes : ℕ → ℕ → Pairs → Picture → Picture → Code → Type 0
Removes key value es p q Done = (assoc key es ≡ Some value) × Serves q (without key es)
Removes key value es p q Absent = (assoc key es ≡ None) × Serves q es
Removes key value es p q Bad = Rose p.chart.bads q.chart.bads × Serves q es
Removes key value es p q Off = (q.chart.on ≡ false) × (IsIndex (durable q.chart) es ⊎ IsIndex (durable q.chart) (without key es))
Removes key value es p q code = (q ≡ p) × Declines p code

-- the words, of which the first n are 0 and the others stay; of a map of no pairs the first four are
abbrev pub blanked_to : ℕ → List ℕ → List ℕ
blanked_to zero words = words
blanked_to (suc n) words = slice_set (blanked_to n words) n 0

abbrev pub blanked : List ℕ → List ℕ
blanked words = blanked_to 4 words

-- the same in a transaction of words
abbrev pub Blanks : Sheet → Result Unit Trouble → Sheet → Type 0
Blanks old (Ok done) new = IsTrue new.on × (new.kept ≡ blanked old.kept)
Blanks old (Err TroubleBad) new = IsTrue new.on × Rose old.bads new.bads × (new.kept ≡ old.kept)
Blanks old (Err TroubleOff) new = (new.on ≡ false) × ((new.kept ≡ old.kept) ⊎ (new.kept ≡ blanked old.kept))

-- It was tried in a transaction, which is open but where power is off; and how that ends.
abbrev pub IsTried : Result Unit Trouble → Sheet → Type 0
IsTried (Ok done) s = IsTrue s.started
IsTried (Err TroubleBad) s = IsTrue s.started
IsTried (Err TroubleOff) s = s.on ≡ false

abbrev pub EndsTry : Result Unit Trouble → Sheet → Result Unit Trouble → Sheet → Type 0
EndsTry tried old (Ok done) new = IsTrue new.on × (tried ≡ Ok tt) × (new.kept ≡ old.words)
EndsTry tried old (Err TroubleBad) new = IsTrue new.on × (tried ≡ Err TroubleBad) × (new.kept ≡ old.kept)
EndsTry tried old (Err TroubleOff) new = (new.on ≡ false) × ((new.kept ≡ old.kept) ⊎ ((tried ≡ Ok tt) × (new.kept ≡ old.words)))

-- a map of no pairs, whatever the array held
abbrev pub Creates : Picture → Picture → Code → Type 0
Creates p q Done = Serves q [] × (durable q.chart ≡ blanked (durable p.chart))
Creates p q Bad = IsShut q × Rose p.chart.bads q.chart.bads × (durable q.chart ≡ durable p.chart)
Creates p q Off = (q.chart.on ≡ false) × ((durable q.chart ≡ durable p.chart) ⊎ (durable q.chart ≡ blanked (durable p.chart)))
Creates p q code = (q ≡ p) × Declines p code

abbrev pub DoesCreate : Option Picture → Option Picture → ℕ → Type 0
DoesCreate None new number = (new ≡ None) × (number ≡ number_of Empty)
DoesCreate (Some p) new number = (q : Picture) × (code : Code) × (new ≡ Some q) × (number ≡ number_of code) × Works creation_puts p q × Creates p q code
