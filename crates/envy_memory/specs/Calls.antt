-- What each call of a memory may answer, and what it leaves, from a board that stood for the array m.
use Rattle.std.specs.Prelude.{◌≡◌, ℕ, ◌-◌, ◌^◌, ◌<◌, true, false, IsTrue, List, replicate, None, Some, Result, Ok, Err}
use Rattle.envy_array.specs.Array.{Array}
use Rattle.envy_base.specs.Counting.{up}
use Rattle.envy_array.specs.Step.{Load, Look, Store, Begin, Put, Commit, Abort, Tick, Word, Done, Started, Range, Held, Closed, Full, Busy}
use Rattle.envy_base.specs.declared.faults.PlannedFault.{PlannedFault}
use Rattle.envy_base.specs.declared.board.Trouble.{Trouble}
use Rattle.envy_base.specs.declared.board.Trouble.TheVariants.{Off as TroubleOff, Bad as TroubleBad}
use Rattle.envy_map.specs.Fields.{Chart}
use Rattle.envy_soundness.specs.Same.{Counted, Wears}
use Rattle.envy_meaning.specs.Stands.{Steps, IsLost, Fails}
use Rattle.envy_engine.specs.declared.did.Did.{Did}
use Rattle.envy_memory.specs.declared.faults.LoadFault.{LoadFault}
use Rattle.envy_memory.specs.declared.faults.LoadFault.TheVariants.{Off as LoadOff, Range as LoadRange}
use Rattle.envy_memory.specs.declared.faults.StoreFault.{StoreFault}
use Rattle.envy_memory.specs.declared.faults.StoreFault.TheVariants.{Off as StoreOff, Range as StoreRange, Held as StoreHeld, Bad as StoreBad}
use Rattle.envy_memory.specs.declared.faults.BeginFault.{BeginFault}
use Rattle.envy_memory.specs.declared.faults.BeginFault.TheVariants.{Off as BeginOff, Busy as BeginBusy}
use Rattle.envy_memory.specs.declared.faults.PutFault.{PutFault}
use Rattle.envy_memory.specs.declared.faults.PutFault.TheVariants.{Off as PutOff, Range as PutRange, Closed as PutClosed, Held as PutHeld, Full as PutFull, Bad as PutBad}
use Rattle.envy_memory.specs.declared.faults.EndFault.{EndFault}
use Rattle.envy_memory.specs.declared.faults.EndFault.TheVariants.{Off as EndOff, Closed as EndClosed}

-- A call that answers made the step of the plain array with that answer. Where a flash operation failed it made
-- none; where power failed, a restart finds the call done or not done.
abbrev pub Loads : Array → ℕ → Result ℕ LoadFault → Chart → Type 0
Loads m a (Ok w) new = Steps m (Load a) (Word w) new
Loads m a (Err LoadRange) new = Steps m (Load a) Range new
Loads m a (Err LoadOff) new = ⊥

abbrev pub Looks : Array → ℕ → Result ℕ LoadFault → Chart → Type 0
Looks m a (Ok w) new = Steps m (Look a) (Word w) new
Looks m a (Err LoadRange) new = Steps m (Look a) Range new
Looks m a (Err LoadOff) new = ⊥

abbrev pub Stores : Array → ℕ → ℕ → Result Unit StoreFault → Chart → Type 0
Stores m a w (Ok done) new = Steps m (Store a w) Done new
Stores m a w (Err StoreRange) new = Steps m (Store a w) Range new
Stores m a w (Err (StoreHeld u)) new = Steps m (Store a w) (Held u) new
Stores m a w (Err StoreBad) new = Fails m (Store a w) new
Stores m a w (Err StoreOff) new = IsLost m (Store a w) new

abbrev pub Begins : Array → Result ℕ BeginFault → Chart → Type 0
Begins m (Ok t) new = Steps m Begin (Started t) new
Begins m (Err BeginBusy) new = Steps m Begin Busy new
Begins m (Err BeginOff) new = IsLost m Begin new

abbrev pub Puts : Array → ℕ → ℕ → ℕ → Result Unit PutFault → Chart → Type 0
Puts m t a w (Ok done) new = Steps m (Put t a w) Done new
Puts m t a w (Err PutRange) new = Steps m (Put t a w) Range new
Puts m t a w (Err PutClosed) new = Steps m (Put t a w) Closed new
Puts m t a w (Err (PutHeld u)) new = Steps m (Put t a w) (Held u) new
Puts m t a w (Err PutFull) new = Steps m (Put t a w) Full new
Puts m t a w (Err PutBad) new = Fails m (Put t a w) new
Puts m t a w (Err PutOff) new = IsLost m (Put t a w) new

abbrev pub Commits : Array → ℕ → Result Unit EndFault → Chart → Type 0
Commits m t (Ok done) new = Steps m (Commit t) Done new
Commits m t (Err EndClosed) new = Steps m (Commit t) Closed new
Commits m t (Err EndOff) new = IsLost m (Commit t) new

abbrev pub Aborts : Array → ℕ → Result Unit EndFault → Chart → Type 0
Aborts m t (Ok done) new = Steps m (Abort t) Done new
Aborts m t (Err EndClosed) new = Steps m (Abort t) Closed new
Aborts m t (Err EndOff) new = IsLost m (Abort t) new

abbrev pub Ticks : Array → Result Did Trouble → Chart → Type 0
Ticks m (Ok did) new = Steps m Tick Done new
Ticks m (Err TroubleBad) new = Fails m Tick new
Ticks m (Err TroubleOff) new = IsLost m Tick new

-- what every call does to power, counts and wear: at most k programs and j erases; nothing where power was off
pub record Works (k j : ℕ) (old new : Chart) : Type 0 where
  pub shape : new.shape ≡ old.shape
  pub counted : Counted k j old new
  pub worn : Wears old new
  pub idle : old.on ≡ false → new ≡ old

-- power that was on at entry and is off at exit failed in the call
abbrev pub IsCut : Chart → Chart → Type 0
IsCut old new = IsTrue old.on → new.on ≡ false → old.cuts < 2 ^ 64 - 1 → old.cuts < new.cuts

-- a bad operation came in the call
abbrev pub HasFailed : Chart → Chart → Type 0
HasFailed old new = old.bads < 2 ^ 64 - 1 → old.bads < new.bads

-- power was on, and neither it nor a flash operation failed
pub record Undisturbed (old new : Chart) : Type 0 where
  pub on : IsTrue old.on
  pub cuts : new.cuts ≡ old.cuts
  pub bads : new.bads ≡ old.bads
  pub low_cuts : old.cuts < 2 ^ 64 - 1
  pub low_bads : old.bads < 2 ^ 64 - 1

-- the array of these words, with no slot open
abbrev pub fresh : ℕ → List ℕ → Array
fresh shadows words = record { words = words; slots = replicate 64 None; shadows = shadows }

-- power is cut by hand
abbrev pub pulled : Chart → Chart
pulled c = record c { on = false; cuts = up c.cuts; pulled = up c.pulled }

-- power returns
abbrev pub lit : Chart → Chart
lit c = record c { on = true; lives = c.lives - 1 }

-- a failure is planned
abbrev pub planned : PlannedFault → Chart → Chart
planned fault c = record c { plans = up c.plans; last_plan = Some fault }
