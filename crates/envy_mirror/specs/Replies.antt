-- What a memory answers to a command, whatever the call.
use Rattle.std.specs.Prelude.{ℕ, ◌/◌, Bool, true, false, List, slice_set, Option, None, Some, Result, Ok, Err}
use Rattle.envy_array.specs.Step.{Command, Load, Look, Store, Begin, Put, Commit, Abort, Tick, Answer, Word, Done, Started, Range, Held, Closed, Full, Busy, is_accepted}
use Rattle.envy_base.specs.declared.board.Trouble.{Trouble}
use Rattle.envy_base.specs.declared.board.Trouble.TheVariants.{Off as TroubleOff, Bad as TroubleBad}
use Rattle.envy_engine.specs.declared.did.Did.{Did}
use Rattle.envy_memory.specs.declared.faults.LoadFault.{LoadFault}
use Rattle.envy_memory.specs.declared.faults.LoadFault.TheVariants.{Off as LoadOff, Range as LoadRange}
use Rattle.envy_memory.specs.declared.faults.StoreFault.{StoreFault}
use Rattle.envy_memory.specs.declared.faults.StoreFault.TheVariants.{Off as StoreOff, Range as StoreRange, Held as StoreHeld, Bad as StoreBad}
use Rattle.envy_memory.specs.declared.faults.BeginFault.{BeginFault}
use Rattle.envy_memory.specs.declared.faults.BeginFault.TheVariants.{Off as BeginOff, Busy as BeginBusy}
use Rattle.envy_memory.specs.declared.faults.PutFault.{PutFault}
use Rattle.envy_memory.specs.declared.faults.PutFault.TheVariants.{Off as PutOff, Range as PutRange, Closed as PutClosed, Held as PutHeld, Full as PutFull, Bad as PutBad}
use Rattle.envy_memory.specs.declared.faults.EndFault.{EndFault}
use Rattle.envy_memory.specs.declared.faults.EndFault.TheVariants.{Off as EndOff, Closed as EndClosed}
use Rattle.envy_mirror.specs.declared.call.Kind.{Kind}
use Rattle.envy_mirror.specs.declared.call.Kind.TheVariants.{Off as KindOff, Bad as KindBad, Refused, Accepted}
use Rattle.envy_base.specs.declared.page.TheConstants.{PAGE_WORDS}

-- power is off; a flash operation failed; or the plain array's answer
pub data Reply : Type 0 where
  Off : Reply
  Bad : Reply
  Said : (answer : Answer) → Reply

abbrev pub load_reply : Result ℕ LoadFault → Reply
load_reply (Ok w) = Said (Word w)
load_reply (Err LoadOff) = Off
load_reply (Err LoadRange) = Said Range

abbrev pub store_reply : Result Unit StoreFault → Reply
store_reply (Ok done) = Said Done
store_reply (Err StoreOff) = Off
store_reply (Err StoreRange) = Said Range
store_reply (Err (StoreHeld u)) = Said (Held u)
store_reply (Err StoreBad) = Bad

abbrev pub begin_reply : Result ℕ BeginFault → Reply
begin_reply (Ok t) = Said (Started t)
begin_reply (Err BeginOff) = Off
begin_reply (Err BeginBusy) = Said Busy

abbrev pub put_reply : Result Unit PutFault → Reply
put_reply (Ok done) = Said Done
put_reply (Err PutOff) = Off
put_reply (Err PutRange) = Said Range
put_reply (Err PutClosed) = Said Closed
put_reply (Err (PutHeld u)) = Said (Held u)
put_reply (Err PutFull) = Said Full
put_reply (Err PutBad) = Bad

abbrev pub end_reply : Result Unit EndFault → Reply
end_reply (Ok done) = Said Done
end_reply (Err EndOff) = Off
end_reply (Err EndClosed) = Said Closed

abbrev pub tick_reply : Result Did Trouble → Reply
tick_reply (Ok did) = Said Done
tick_reply (Err TroubleOff) = Off
tick_reply (Err TroubleBad) = Bad

abbrev pub is_said : Reply → Bool
is_said Off = false
is_said Bad = false
is_said (Said answer) = true

abbrev pub is_bad : Reply → Bool
is_bad Off = false
is_bad Bad = true
is_bad (Said answer) = false

abbrev pub kind_if : Bool → Kind
kind_if true = Accepted
kind_if false = Refused

abbrev pub kind_of : Reply → Kind
kind_of Off = KindOff
kind_of Bad = KindBad
kind_of (Said answer) = kind_if (is_accepted answer)

-- the page that a command writes to
abbrev pub written_by : Command → Option ℕ
written_by (Load a) = None
written_by (Look a) = None
written_by (Store a w) = Some (a / PAGE_WORDS)
written_by Begin = None
written_by (Put t a w) = Some (a / PAGE_WORDS)
written_by (Commit t) = None
written_by (Abort t) = None
written_by Tick = None

abbrev pub set_mark : Option ℕ → List Bool → List Bool
set_mark None marks = marks
set_mark (Some p) marks = slice_set marks p true

abbrev pub mark_if : Bool → Option ℕ → List Bool → List Bool
mark_if true page marks = set_mark page marks
mark_if false page marks = marks

-- the page of a store or put that is accepted becomes stale
abbrev pub marked : Command → Reply → List Bool → List Bool
marked command Off marks = marks
marked command Bad marks = marks
marked command (Said answer) marks = mark_if (is_accepted answer) (written_by command) marks
