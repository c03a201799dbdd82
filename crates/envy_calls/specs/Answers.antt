-- What a call answers by a number, and what it leaves in the place for a memory: all that the memory's call says of
-- the answer that the number stands for. Where the place holds no memory that is the answer, and nothing changes.
use Rattle.std.specs.Prelude.{◌≡◌, ◌≢◌, ◌↔◌, ℕ, false, IsErrOf, OnOk, slice_index, nat_lt, if◌then◌else◌, Option, None, Some, Result, Ok, Err}
use Rattle.envy_array.specs.Array.{Array}
use Rattle.envy_base.specs.declared.board.Trouble.{Trouble}
use Rattle.envy_base.specs.declared.board.Trouble.TheVariants.{Off as TroubleOff, Bad as TroubleBad}
use Rattle.envy_array.specs.declared.counts.Counts.{Counts as CountsOf}
use Rattle.envy_meaning.specs.Stands.{Stands}
use Rattle.envy_soundness.specs.Words.{durable}
use Rattle.envy_engine.specs.declared.did.Did.{Did}
use Rattle.envy_memory.specs.Below.{IsPast, IsOwned, IsBusy, IsShut, IsShutTo, IsKeptFrom, IsFull, LoadsBelow, StoresBelow, BeginsBelow, PutsBelow, CommitsBelow, AbortsBelow, TicksBelow}
use Rattle.envy_memory.specs.Calls.{Loads, Looks, Stores, Begins, Puts, Commits, Aborts, Ticks, IsCut, HasFailed, Undisturbed}
use Rattle.envy_memory.specs.Picture.{Picture, counts_of}
use Rattle.envy_memory.specs.declared.faults.LoadFault.{LoadFault}
use Rattle.envy_memory.specs.declared.faults.LoadFault.TheVariants.{Off as LoadOff, Range as LoadRange}
use Rattle.envy_memory.specs.declared.faults.StoreFault.{StoreFault}
use Rattle.envy_memory.specs.declared.faults.StoreFault.TheVariants.{Off as StoreOff, Range as StoreRange, Held as StoreHeld, Bad as StoreBad}
use Rattle.envy_memory.specs.declared.faults.BeginFault.{BeginFault}
use Rattle.envy_memory.specs.declared.faults.BeginFault.TheVariants.{Off as BeginOff, Busy as BeginBusy}
use Rattle.envy_memory.specs.declared.faults.PutFault.{PutFault}
use Rattle.envy_memory.specs.declared.faults.PutFault.TheVariants.{Off as PutOff, Range as PutRange, Closed as PutClosed, Held as PutHeld, Full as PutFull, Bad as PutBad}
use Rattle.envy_memory.specs.declared.faults.EndFault.{EndFault}
use Rattle.envy_memory.specs.declared.faults.EndFault.TheVariants.{Off as EndOff, Closed as EndClosed}
use Rattle.envy_calls.specs.Codes.{number_of, load_code, store_code, begin_code, put_code, end_code, tick_code, loaded, store_holder, opened, put_holder, worked}
use Rattle.envy_calls.specs.declared.code.Code.TheVariants.{Done, Empty}
use Rattle.envy_calls.specs.declared.counters.EnvyCounts.{EnvyCounts}

-- slots are numbered from 0 to 63, and no other number names one
abbrev pub slot_named : ℕ → ℕ
slot_named t = if nat_lt t 64 then t else 64

pub record LoadsTo (p q : Picture) (a code before after : ℕ) : Type 0 where
  pub answer : Result ℕ LoadFault
  pub coded : code ≡ number_of (load_code answer)
  pub written : after ≡ loaded before answer
  pub step : (m : Array) → Stands p.chart m → Loads m a answer q.chart
  pub off : (answer ≡ Err LoadOff) ↔ (q.chart.on ≡ false)
  pub range : (answer ≡ Err LoadRange) ↔ IsPast a p
  pub below : LoadsBelow a answer p q

pub record LooksAt (p : Picture) (a code before after : ℕ) : Type 0 where
  pub answer : Result ℕ LoadFault
  pub coded : code ≡ number_of (load_code answer)
  pub written : after ≡ loaded before answer
  pub word : OnOk answer (answer ≡ Ok (slice_index (durable p.chart) a))
  pub step : (m : Array) → Stands p.chart m → Looks m a answer p.chart
  pub off : (answer ≡ Err LoadOff) ↔ (p.chart.on ≡ false)
  pub range : (answer ≡ Err LoadRange) ↔ IsPast a p

pub record StoresTo (p q : Picture) (a w code before after : ℕ) : Type 0 where
  pub answer : Result Unit StoreFault
  pub coded : code ≡ number_of (store_code answer)
  pub written : after ≡ store_holder before answer
  pub step : (m : Array) → Stands p.chart m → Stores m a w answer q.chart
  pub off : (answer ≡ Err StoreOff) ↔ (q.chart.on ≡ false)
  pub cut : IsCut p.chart q.chart
  pub range : (answer ≡ Err StoreRange) ↔ IsPast a p
  pub held : (u : ℕ) → (answer ≡ Err (StoreHeld u)) ↔ IsOwned u a p
  pub bad : IsErrOf answer StoreBad → HasFailed p.chart q.chart
  pub complete : Undisturbed p.chart q.chart → (answer ≢ Err StoreOff) × (answer ≢ Err StoreBad)
  pub below : StoresBelow a answer p q

pub record BeginsTo (p q : Picture) (code before after : ℕ) : Type 0 where
  pub answer : Result ℕ BeginFault
  pub coded : code ≡ number_of (begin_code answer)
  pub written : after ≡ opened before answer
  pub step : (m : Array) → Stands p.chart m → Begins m answer q.chart
  pub off : (answer ≡ Err BeginOff) ↔ (q.chart.on ≡ false)
  pub cut : IsCut p.chart q.chart
  pub busy : (answer ≡ Err BeginBusy) ↔ IsBusy p
  pub complete : Undisturbed p.chart q.chart → answer ≢ Err BeginOff
  pub below : BeginsBelow answer p q

pub record PutsTo (p q : Picture) (t a w code before after : ℕ) : Type 0 where
  pub answer : Result Unit PutFault
  pub coded : code ≡ number_of (put_code answer)
  pub written : after ≡ put_holder before answer
  pub step : (m : Array) → Stands p.chart m → Puts m t a w answer q.chart
  pub off : (answer ≡ Err PutOff) ↔ (q.chart.on ≡ false)
  pub cut : IsCut p.chart q.chart
  pub range : (answer ≡ Err PutRange) ↔ IsPast a p
  pub closed : (answer ≡ Err PutClosed) ↔ IsShutTo t a p
  pub held : (u : ℕ) → (answer ≡ Err (PutHeld u)) ↔ IsKeptFrom u t a p
  pub full : (answer ≡ Err PutFull) ↔ IsFull t a p
  pub bad : IsErrOf answer PutBad → HasFailed p.chart q.chart
  pub complete : Undisturbed p.chart q.chart → (answer ≢ Err PutOff) × (answer ≢ Err PutBad)
  pub below : PutsBelow t a answer p q

pub record CommitsTo (p q : Picture) (t code : ℕ) : Type 0 where
  pub answer : Result Unit EndFault
  pub coded : code ≡ number_of (end_code answer)
  pub step : (m : Array) → Stands p.chart m → Commits m t answer q.chart
  pub off : (answer ≡ Err EndOff) ↔ (q.chart.on ≡ false)
  pub cut : IsCut p.chart q.chart
  pub closed : (answer ≡ Err EndClosed) ↔ IsShut t p
  pub complete : Undisturbed p.chart q.chart → answer ≢ Err EndOff
  pub below : CommitsBelow t answer p q

pub record AbortsTo (p q : Picture) (t code : ℕ) : Type 0 where
  pub answer : Result Unit EndFault
  pub coded : code ≡ number_of (end_code answer)
  pub step : (m : Array) → Stands p.chart m → Aborts m t answer q.chart
  pub off : (answer ≡ Err EndOff) ↔ (q.chart.on ≡ false)
  pub cut : IsCut p.chart q.chart
  pub closed : (answer ≡ Err EndClosed) ↔ IsShut t p
  pub complete : Undisturbed p.chart q.chart → answer ≢ Err EndOff
  pub below : AbortsBelow t answer p q

pub record TicksTo (p q : Picture) (code before after : ℕ) : Type 0 where
  pub answer : Result Did Trouble
  pub coded : code ≡ number_of (tick_code answer)
  pub written : after ≡ worked before answer
  pub step : (m : Array) → Stands p.chart m → Ticks m answer q.chart
  pub off : (answer ≡ Err TroubleOff) ↔ (q.chart.on ≡ false)
  pub cut : IsCut p.chart q.chart
  pub bad : IsErrOf answer TroubleBad → HasFailed p.chart q.chart
  pub complete : Undisturbed p.chart q.chart → (answer ≢ Err TroubleOff) × (answer ≢ Err TroubleBad)
  pub below : TicksBelow answer p q

-- In a place: the call of the memory that it holds.

abbrev pub DoesLoad : Option Picture → Option Picture → ℕ → ℕ → ℕ → ℕ → Type 0
DoesLoad None new a code before after = (new ≡ None) × (code ≡ number_of Empty) × (after ≡ before)
DoesLoad (Some p) new a code before after = (q : Picture) × (new ≡ Some q) × LoadsTo p q a code before after

abbrev pub DoesLook : Option Picture → Option Picture → ℕ → ℕ → ℕ → ℕ → Type 0
DoesLook None new a code before after = (new ≡ None) × (code ≡ number_of Empty) × (after ≡ before)
DoesLook (Some p) new a code before after = (new ≡ Some p) × LooksAt p a code before after

abbrev pub DoesStore : Option Picture → Option Picture → ℕ → ℕ → ℕ → ℕ → ℕ → Type 0
DoesStore None new a w code before after = (new ≡ None) × (code ≡ number_of Empty) × (after ≡ before)
DoesStore (Some p) new a w code before after = (q : Picture) × (new ≡ Some q) × StoresTo p q a w code before after

abbrev pub DoesBegin : Option Picture → Option Picture → ℕ → ℕ → ℕ → Type 0
DoesBegin None new code before after = (new ≡ None) × (code ≡ number_of Empty) × (after ≡ before)
DoesBegin (Some p) new code before after = (q : Picture) × (new ≡ Some q) × BeginsTo p q code before after

abbrev pub DoesPut : Option Picture → Option Picture → ℕ → ℕ → ℕ → ℕ → ℕ → ℕ → Type 0
DoesPut None new t a w code before after = (new ≡ None) × (code ≡ number_of Empty) × (after ≡ before)
DoesPut (Some p) new t a w code before after = (q : Picture) × (new ≡ Some q) × PutsTo p q (slot_named t) a w code before after

abbrev pub DoesCommit : Option Picture → Option Picture → ℕ → ℕ → Type 0
DoesCommit None new t code = (new ≡ None) × (code ≡ number_of Empty)
DoesCommit (Some p) new t code = (q : Picture) × (new ≡ Some q) × CommitsTo p q (slot_named t) code

abbrev pub DoesAbort : Option Picture → Option Picture → ℕ → ℕ → Type 0
DoesAbort None new t code = (new ≡ None) × (code ≡ number_of Empty)
DoesAbort (Some p) new t code = (q : Picture) × (new ≡ Some q) × AbortsTo p q (slot_named t) code

abbrev pub DoesTick : Option Picture → Option Picture → ℕ → ℕ → ℕ → Type 0
DoesTick None new code before after = (new ≡ None) × (code ≡ number_of Empty) × (after ≡ before)
DoesTick (Some p) new code before after = (q : Picture) × (new ≡ Some q) × TicksTo p q code before after

abbrev pub counts_for_c : CountsOf → EnvyCounts
counts_for_c x = record {
  hits = x.hits;
  misses = x.misses;
  flushes = x.flushes;
  copies = x.copies;
  moves = x.moves;
  erases = x.erases;
  swaps = x.swaps;
}

abbrev pub DoesCount : Option Picture → ℕ → EnvyCounts → EnvyCounts → Type 0
DoesCount None code before after = (code ≡ number_of Empty) × (after ≡ before)
DoesCount (Some p) code before after = (code ≡ number_of Done) × (after ≡ counts_for_c (counts_of p.parts))
