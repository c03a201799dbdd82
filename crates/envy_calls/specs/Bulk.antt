-- What reading and putting several words answer by a number, and what they leave in the place for a memory.
use Rattle.std.specs.Prelude.{◌≡◌, ◌≢◌, ◌↔◌, ◌+◌, ◌/◌, ℕ, zero, suc, false, OnOk, OnErr, length, slice_index, List, Option, None, Some, Result, Ok, Err}
use Rattle.envy_array.specs.Array.{Array}
use Rattle.envy_array.specs.Step.{Step, Put, Store, Done as DoneOf}
use Rattle.envy_meaning.specs.Stands.{Stands}
use Rattle.envy_memory.specs.LoadRuns.{AreLive, Crosses, LoadsRun}
use Rattle.envy_memory.specs.Picture.{Picture}
use Rattle.envy_memory.specs.PutRuns.{EndsRun, PutsRun}
use Rattle.envy_memory.specs.Rooms.{LacksRoom}
use Rattle.envy_memory.specs.Runs.{RunsPast, pages_met}
use Rattle.envy_memory.specs.StoreRuns.{EndsStores, StoresRun}
use Rattle.envy_memory.specs.declared.faults.LoadFault.{LoadFault}
use Rattle.envy_memory.specs.declared.faults.LoadFault.TheVariants.{Off as LoadOff, Range as LoadRange}
use Rattle.envy_memory.specs.declared.faults.PutFault.{PutFault}
use Rattle.envy_memory.specs.declared.faults.PutFault.TheVariants.{Full as PutFull}
use Rattle.envy_memory.specs.declared.faults.StoreFault.{StoreFault}
use Rattle.envy_calls.specs.Answers.{slot_named}
use Rattle.envy_calls.specs.Codes.{number_of, put_code, put_holder, store_code, store_holder}
use Rattle.envy_calls.specs.declared.code.Code.{Code}
use Rattle.envy_calls.specs.declared.code.Code.TheVariants.{Done, Empty, Off, Range}
use Rattle.envy_base.specs.declared.page.TheConstants.{PAGE_WORDS}

-- slot t put the first k of these words, one after another, in a plain array
abbrev pub Written : ℕ → List ℕ → ℕ → ℕ → Array → Array → Type 0
Written zero words t a m n = n ≡ m
Written (suc k) words t a m n = (l : Array) × Written k words t a m l × Step l (Put t (a + k) (slice_index words k)) DoneOf n

abbrev pub read_code : Result Unit LoadFault → Code
read_code (Ok done) = Done
read_code (Err LoadOff) = Off
read_code (Err LoadRange) = Range

-- the first k of these words were stored, one after another, in a plain array
abbrev pub Stored : ℕ → List ℕ → ℕ → Array → Array → Type 0
Stored zero words a m n = n ≡ m
Stored (suc k) words a m n = (l : Array) × Stored k words a m l × Step l (Store (a + k) (slice_index words k)) DoneOf n

-- what a run of loads answers by a number
pub record ReadsTo (p q : Picture) (a code : ℕ) (before after : List ℕ) : Type 0 where
  pub answer : Result Unit LoadFault
  pub coded : code ≡ number_of (read_code answer)
  pub long : length after ≡ length before
  pub step : (m : Array) → Stands p.chart m → LoadsRun m a after answer q.chart
  pub words : OnOk answer (AreLive p.chart a after)
  pub off : (answer ≡ Err LoadOff) ↔ (q.chart.on ≡ false)
  pub range : (answer ≡ Err LoadRange) ↔ RunsPast a (length before) p
  pub visits : OnOk answer (Crosses (pages_met a (length before)) (a / PAGE_WORDS) p.parts.cache q.parts.cache)
  pub kept : q ≡ record p { parts = record p.parts { cache = q.parts.cache } }
  pub refused : OnErr answer ((q ≡ p) × (after ≡ before))

-- So many were put, and what ended it. A run that lacks room is refused before its first word.
pub record WritesTo (p q : Picture) (t a : ℕ) (words : List ℕ) (code done before after : ℕ) : Type 0 where
  pub answer : Result Unit PutFault
  pub coded : code ≡ number_of (put_code answer)
  pub written : after ≡ put_holder before answer
  pub full : (answer ≡ Err PutFull) ↔ LacksRoom t a (length words) p
  pub refused : (answer ≡ Err PutFull) → (done ≡ 0) × (q ≡ p)
  pub between : Picture
  pub puts : PutsRun done words t a p between
  pub array : (m : Array) → Stands p.chart m → (n : Array) × Written done words t a m n × Stands between.chart n
  pub ends : (answer ≢ Err PutFull) → EndsRun between q t a words done answer

-- so many were stored, and what ended it
pub record StoresTo (p q : Picture) (a : ℕ) (words : List ℕ) (code done before after : ℕ) : Type 0 where
  pub answer : Result Unit StoreFault
  pub coded : code ≡ number_of (store_code answer)
  pub written : after ≡ store_holder before answer
  pub between : Picture
  pub stores : StoresRun done words a p between
  pub array : (m : Array) → Stands p.chart m → (n : Array) × Stored done words a m n × Stands between.chart n
  pub ends : EndsStores between q a words done answer

-- In a place: the calls of the memory that it holds.

abbrev pub DoesRead : Option Picture → Option Picture → ℕ → ℕ → List ℕ → List ℕ → Type 0
DoesRead None new a code before after = (new ≡ None) × (code ≡ number_of Empty) × (after ≡ before)
DoesRead (Some p) new a code before after = (q : Picture) × (new ≡ Some q) × ReadsTo p q a code before after

abbrev pub DoesWrite : Option Picture → Option Picture → ℕ → ℕ → List ℕ → ℕ → ℕ → ℕ → ℕ → Type 0
DoesWrite None new t a words code done before after = (new ≡ None) × (code ≡ number_of Empty) × (done ≡ 0) × (after ≡ before)
DoesWrite (Some p) new t a words code done before after = (q : Picture) × (new ≡ Some q) × WritesTo p q (slot_named t) a words code done before after

abbrev pub DoesStoreRun : Option Picture → Option Picture → ℕ → List ℕ → ℕ → ℕ → ℕ → ℕ → Type 0
DoesStoreRun None new a words code done before after = (new ≡ None) × (code ≡ number_of Empty) × (done ≡ 0) × (after ≡ before)
DoesStoreRun (Some p) new a words code done before after = (q : Picture) × (new ≡ Some q) × StoresTo p q a words code done before after
