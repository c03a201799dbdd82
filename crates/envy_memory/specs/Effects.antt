-- What calls do to the parts of a memory: accesses, counters, held frames, heats, turns, lives, job and stages.
use Rattle.std.specs.Prelude.{◌≡◌, ◌⊎◌, ℕ, ◌<◌, ◌==◌, Bool, true, false, IsTrue, [], ◌∷◌, ◌++◌, length, Option, None, Some, is_none, Result, Ok, Err, if◌then◌else◌}
use Rattle.envy_base.specs.Counting.{up}
use Rattle.envy_base.specs.declared.fields.Job.TheVariants.{Idle as IdleJob}
use Rattle.envy_base.specs.declared.fields.Place.{Place}
use Rattle.envy_base.specs.declared.fields.Place.TheVariants.{Absent, Row, Frame}
use Rattle.envy_map.specs.Fields.{Chart, place}
use Rattle.envy_engine.specs.Counts.{Counting}
use Rattle.envy_table.specs.Hits.{Accesses}
use Rattle.envy_engine.specs.Putting.{PutsBy}
use Rattle.envy_engine.specs.Storing.{StoresBy}
use Rattle.envy_engine.specs.Ticks.{IsNoneDue}
use Rattle.envy_txn.specs.Owners.{Ownership, owner_of}
use Rattle.envy_memory.specs.Calls.{Works}
use Rattle.envy_memory.specs.Picture.{Picture}
use Rattle.envy_memory.specs.declared.faults.LoadFault.{LoadFault}
use Rattle.envy_memory.specs.declared.faults.StoreFault.{StoreFault}
use Rattle.envy_memory.specs.declared.faults.StoreFault.TheVariants.{Off as StoreOff, Range as StoreRange, Held as StoreHeld, Bad as StoreBad}
use Rattle.envy_memory.specs.declared.faults.PutFault.{PutFault}
use Rattle.envy_memory.specs.declared.faults.PutFault.TheVariants.{Off as PutOff, Range as PutRange, Closed as PutClosed, Held as PutHeld, Full as PutFull, Bad as PutBad}

-- one host access to page p was counted, and its entry holds it now
abbrev pub Visits : ℕ → Picture → Picture → Type 0
Visits p old new = Accesses p old.parts.cache new.parts.cache

-- A call that isn't refused and met power is one access. A refused call changes nothing at all.
abbrev pub LoadVisits : ℕ → Result ℕ LoadFault → Picture → Picture → Type 0
LoadVisits p (Ok w) old new = Visits p old new
LoadVisits p (Err fault) old new = new ≡ old

abbrev pub StoreVisits : ℕ → Result Unit StoreFault → Picture → Picture → Type 0
StoreVisits p (Ok done) old new = Visits p old new
StoreVisits p (Err StoreBad) old new = Visits p old new
StoreVisits p (Err StoreOff) old new = (IsTrue old.chart.on × Visits p old new) ⊎ ((old.chart.on ≡ false) × (new ≡ old))
StoreVisits p (Err StoreRange) old new = new ≡ old
StoreVisits p (Err (StoreHeld u)) old new = new ≡ old

abbrev pub PutVisits : ℕ → Result Unit PutFault → Picture → Picture → Type 0
PutVisits p (Ok done) old new = Visits p old new
PutVisits p (Err PutBad) old new = Visits p old new
PutVisits p (Err PutOff) old new = (IsTrue old.chart.on × Visits p old new) ⊎ ((old.chart.on ≡ false) × (new ≡ old))
PutVisits p (Err PutRange) old new = new ≡ old
PutVisits p (Err PutClosed) old new = new ≡ old
PutVisits p (Err (PutHeld u)) old new = new ≡ old
PutVisits p (Err PutFull) old new = new ≡ old

-- the counters of flash work, and the erases since the last swap; no swap begins
abbrev pub Counts : Picture → Picture → Type 0
Counts old new = Counting old.chart old.parts new.chart new.parts

abbrev pub is_frame : Option Place → Bool
is_frame None = false
is_frame (Some Absent) = false
is_frame (Some (Row q)) = false
is_frame (Some (Frame k)) = true

-- The flushes after an accepted store or put to page p: one more exactly where the page is in no frame and all
-- frames are held, or where it is in a frame and comes to its first owner.
abbrev pub flushes_after : Bool → ℕ → Picture → ℕ
flushes_after first p old =
    if is_frame (place old.chart.fields p) then (if first then up old.parts.flushes else old.parts.flushes)
    else (if length old.parts.frames.held == old.chart.shape.frames then up old.parts.flushes else old.parts.flushes)

-- no page has an owner by these pairs but by them
abbrev pub is_unowned : Ownership → ℕ → Bool
is_unowned o p = is_none (owner_of o.pairs p)

-- An accepted put to a page that slot t owns is a store. The first one gives the page to the slot, as the newest
-- owned page.
abbrev pub PutEffect : ℕ → ℕ → Picture → Picture → Type 0
PutEffect t p old new =
    ((owner_of old.owned.pairs p ≡ Some t) × StoresBy p old.chart old.parts new.chart new.parts × (new.owned ≡ old.owned))
    ⊎ ((owner_of old.owned.pairs p ≡ None) × PutsBy t p old.chart old.parts new.chart new.parts
    × (new.owned ≡ record old.owned { pairs = old.owned.pairs ++ (record { page = p; slot = t }) ∷ [] }))

-- a tick finds nothing to do
pub record IsIdle (old : Picture) : Type 0 where
  pub on : IsTrue old.chart.on
  pub job : old.chart.fields.job ≡ Some IdleJob
  pub stages : old.parts.stages ≡ []
  pub few : length old.parts.frames.held < old.mark
  pub none : IsNoneDue old.limit old.chart old.parts.reloc.since

-- what a tick does to power, counts and wear: one program or one erase at most; nothing where power was off
abbrev pub TicksOnce : Chart → Chart → Type 0
TicksOnce old new = Works 1 0 old new ⊎ Works 0 1 old new
