-- The number of each answer. No two answers share one.
use Rattle.std.specs.Prelude.{ℕ, ◌+◌, nat_lt, if◌then◌else◌, Result, Ok, Err}
use Rattle.envy_base.specs.declared.board.Trouble.{Trouble}
use Rattle.envy_base.specs.declared.board.Trouble.TheVariants.{Off as TroubleOff, Bad as TroubleBad}
use Rattle.envy_audit.specs.declared.verdict.Rule.{Rule}
use Rattle.envy_audit.specs.Judging.{number_of as rule_place}
use Rattle.envy_policy.specs.Setup.{rule_of, shape_rule}
use Rattle.envy_engine.specs.declared.did.Did.{Did}
use Rattle.envy_engine.specs.declared.did.Did.TheVariants.{Idle, Flushed, Began, Moved, Copied, Switched, Placed, Erased}
use Rattle.envy_memory.specs.declared.faults.LoadFault.{LoadFault}
use Rattle.envy_memory.specs.declared.faults.LoadFault.TheVariants.{Off as LoadOff, Range as LoadRange}
use Rattle.envy_memory.specs.declared.faults.StoreFault.{StoreFault}
use Rattle.envy_memory.specs.declared.faults.StoreFault.TheVariants.{Off as StoreOff, Range as StoreRange, Held as StoreHeld, Bad as StoreBad}
use Rattle.envy_memory.specs.declared.faults.BeginFault.{BeginFault}
use Rattle.envy_memory.specs.declared.faults.BeginFault.TheVariants.{Off as BeginOff, Busy as BeginBusy}
use Rattle.envy_memory.specs.declared.faults.PutFault.{PutFault}
use Rattle.envy_memory.specs.declared.faults.PutFault.TheVariants.{Off as PutOff, Range as PutRange, Closed as PutClosed, Held as PutHeld, Full as PutFull, Bad as PutBad}
use Rattle.envy_memory.specs.declared.faults.EndFault.{EndFault}
use Rattle.envy_memory.specs.declared.faults.EndFault.TheVariants.{Off as EndOff, Closed as EndClosed}
use Rattle.envy_memory.specs.declared.faults.FormatFault.{FormatFault}
use Rattle.envy_memory.specs.declared.faults.FormatFault.TheVariants.{Off as FormatOff, Setup as FormatSetup, OtherShape as FormatShape, Memory as FormatMemory, Bad as FormatBad}
use Rattle.envy_calls.specs.declared.code.Code.{Code}
use Rattle.envy_calls.specs.declared.code.Code.TheVariants.{Done, Empty, Off, Range, Held, Full, Busy, Closed, Bad, NoMemory, Open, Zero, Dead, Powered, FlashSize, SramSize, ErasesSize, Policy, Unformatted, Older, OtherShape, Setup, Broken, Small, ImageShort, ImageMark, ImageOther, ImageShape, Absent, MapFull, SlotOpen, MapSetup, BrokenMap, BadAborted}

-- the place of a point of soundness in the order of the audit
abbrev pub number_of_rule : Rule → ℕ
number_of_rule = rule_place

-- the number of the answer that a setup breaks a rule, and of the one that the shape of an image does; for rules after 17
-- they come after all others

abbrev pub answer_of_setup : ℕ → ℕ
answer_of_setup rule = if nat_lt 17 rule then 40 + rule else 20 + rule

abbrev pub answer_of_image : ℕ → ℕ
answer_of_image rule = if nat_lt 17 rule then 42 + rule else 46 + rule

-- the number of the answer that a point of soundness fails
abbrev pub answer_of_rule : ℕ → ℕ
answer_of_rule place = if nat_lt 11 place then 51 + place else 31 + place

abbrev pub number_of : Code → ℕ
number_of Done = 0
number_of Empty = 1
number_of Off = 2
number_of Range = 3
number_of Held = 4
number_of Full = 5
number_of Busy = 6
number_of Closed = 7
number_of Bad = 8
number_of NoMemory = 9
number_of Open = 10
number_of Zero = 11
number_of Dead = 12
number_of Powered = 13
number_of FlashSize = 14
number_of SramSize = 15
number_of ErasesSize = 16
number_of Policy = 17
number_of Unformatted = 18
number_of Older = 19
number_of OtherShape = 20
number_of (Setup fault) = answer_of_setup (rule_of fault)
number_of (Broken rule) = answer_of_rule (number_of_rule rule)
number_of Small = 43
number_of ImageShort = 44
number_of ImageMark = 45
number_of ImageOther = 46
number_of (ImageShape fault) = answer_of_image (shape_rule fault)
number_of Absent = 54
number_of MapFull = 55
number_of SlotOpen = 56
number_of MapSetup = 57
number_of BrokenMap = 62
number_of BadAborted = 80

-- the code of what a call of the memory answers

abbrev pub load_code : Result ℕ LoadFault → Code
load_code (Ok w) = Done
load_code (Err LoadOff) = Off
load_code (Err LoadRange) = Range

abbrev pub store_code : Result Unit StoreFault → Code
store_code (Ok done) = Done
store_code (Err StoreOff) = Off
store_code (Err StoreRange) = Range
store_code (Err (StoreHeld u)) = Held
store_code (Err StoreBad) = Bad

abbrev pub begin_code : Result ℕ BeginFault → Code
begin_code (Ok t) = Done
begin_code (Err BeginOff) = Off
begin_code (Err BeginBusy) = Busy

abbrev pub put_code : Result Unit PutFault → Code
put_code (Ok done) = Done
put_code (Err PutOff) = Off
put_code (Err PutRange) = Range
put_code (Err PutClosed) = Closed
put_code (Err (PutHeld u)) = Held
put_code (Err PutFull) = Full
put_code (Err PutBad) = Bad

abbrev pub end_code : Result Unit EndFault → Code
end_code (Ok done) = Done
end_code (Err EndOff) = Off
end_code (Err EndClosed) = Closed

abbrev pub tick_code : Result Did Trouble → Code
tick_code (Ok did) = Done
tick_code (Err TroubleOff) = Off
tick_code (Err TroubleBad) = Bad

abbrev pub format_code : FormatFault → Code
format_code FormatOff = Off
format_code (FormatSetup fault) = Setup fault
format_code FormatShape = OtherShape
format_code FormatMemory = NoMemory
format_code FormatBad = Bad

-- what a step of work did, by its number
abbrev pub did_number : Did → ℕ
did_number Idle = 0
did_number Flushed = 1
did_number Began = 2
did_number Moved = 3
did_number Copied = 4
did_number Switched = 5
did_number Placed = 6
did_number Erased = 7

-- what stands at a pointer of the caller after a call: a word, a slot that was opened or that holds the page, or what
-- a step of work did; else what stood there

abbrev pub loaded : ℕ → Result ℕ LoadFault → ℕ
loaded before (Ok w) = w
loaded before (Err fault) = before

abbrev pub store_holder : ℕ → Result Unit StoreFault → ℕ
store_holder before (Ok done) = before
store_holder before (Err StoreOff) = before
store_holder before (Err StoreRange) = before
store_holder before (Err (StoreHeld u)) = u
store_holder before (Err StoreBad) = before

abbrev pub opened : ℕ → Result ℕ BeginFault → ℕ
opened before (Ok t) = t
opened before (Err fault) = before

abbrev pub put_holder : ℕ → Result Unit PutFault → ℕ
put_holder before (Ok done) = before
put_holder before (Err PutOff) = before
put_holder before (Err PutRange) = before
put_holder before (Err PutClosed) = before
put_holder before (Err (PutHeld u)) = u
put_holder before (Err PutFull) = before
put_holder before (Err PutBad) = before

abbrev pub worked : ℕ → Result Did Trouble → ℕ
worked before (Ok did) = did_number did
worked before (Err trouble) = before
