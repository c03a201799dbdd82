-- What each call of a memory does below the array: to power, flash, counters, cache, frames, policy and job. The calls'
-- own clauses say what is done to the array, and when each answer comes.
use Rattle.std.specs.Prelude.{◌≡◌, ◌≢◌, ◌↔◌, ◌+◌, ◌*◌, ◌/◌, ◌<◌, ◌≤◌, not, ℕ, false, IsTrue, IsErrOf, OnOk, IfOk, MatchResult, length, None, Some, Result, Ok, Err}
use Rattle.std.specs.List.{filter}
use Rattle.envy_base.specs.declared.board.Trouble.{Trouble}
use Rattle.envy_base.specs.declared.board.Trouble.TheVariants.{Bad as TroubleBad}
use Rattle.envy_base.specs.declared.fields.Slot.TheVariants.{Active}
use Rattle.envy_map.specs.Fields.{slot as slot_of, undo as undo_of}
use Rattle.envy_map.specs.Writes.{with_slot}
use Rattle.envy_table.specs.Hits.{Rests}
use Rattle.envy_engine.specs.Counts.{Counting}
use Rattle.envy_engine.specs.Flushing.{Ends, Stops}
use Rattle.envy_engine.specs.Storing.{Rows, StoresBy}
use Rattle.envy_engine.specs.Ticks.{TicksBy, TicksBad, CountsTick}
use Rattle.envy_engine.specs.declared.did.Did.{Did}
use Rattle.envy_engine.specs.declared.did.Did.TheVariants.{Idle}
use Rattle.envy_txn.specs.Owners.{owner_of, names_slot, others_of}
use Rattle.envy_memory.specs.Calls.{Works}
use Rattle.envy_memory.specs.Effects.{LoadVisits, StoreVisits, PutVisits, PutEffect, Counts, IsIdle, TicksOnce, flushes_after, is_unowned}
use Rattle.envy_memory.specs.Picture.{Picture}
use Rattle.envy_memory.specs.declared.faults.LoadFault.{LoadFault}
use Rattle.envy_memory.specs.declared.faults.StoreFault.{StoreFault}
use Rattle.envy_memory.specs.declared.faults.StoreFault.TheVariants.{Bad as StoreBad}
use Rattle.envy_memory.specs.declared.faults.BeginFault.{BeginFault}
use Rattle.envy_memory.specs.declared.faults.BeginFault.TheVariants.{Busy as BeginBusy}
use Rattle.envy_memory.specs.declared.faults.PutFault.{PutFault}
use Rattle.envy_memory.specs.declared.faults.PutFault.TheVariants.{Bad as PutBad}
use Rattle.envy_memory.specs.declared.faults.EndFault.{EndFault}
use Rattle.envy_memory.specs.declared.faults.EndFault.TheVariants.{Closed as EndClosed}
use Rattle.envy_base.specs.declared.page.TheConstants.{PAGE_WORDS}

-- When a call is refused: power is on, and ..

-- .. the address lies past the last page
abbrev pub IsPast : ℕ → Picture → Type 0
IsPast a p = IsTrue p.chart.on × (PAGE_WORDS * p.chart.shape.pages ≤ a)

-- .. slot u owns the page
abbrev pub IsOwned : ℕ → ℕ → Picture → Type 0
IsOwned u a p = IsTrue p.chart.on × (a < PAGE_WORDS * p.chart.shape.pages) × (owner_of p.owned.pairs (a / PAGE_WORDS) ≡ Some u)

-- .. all slots are open
abbrev pub IsBusy : Picture → Type 0
IsBusy p = IsTrue p.chart.on × ((u : ℕ) → u < 64 → slot_of p.chart.fields u ≡ Some Active)

-- .. slot t isn't open
abbrev pub IsShut : ℕ → Picture → Type 0
IsShut t p = IsTrue p.chart.on × (slot_of p.chart.fields t ≢ Some Active)

-- .. the address lies within the array, and slot t isn't open
abbrev pub IsShutTo : ℕ → ℕ → Picture → Type 0
IsShutTo t a p = IsTrue p.chart.on × (a < PAGE_WORDS * p.chart.shape.pages) × (slot_of p.chart.fields t ≢ Some Active)

-- .. the slot is open, and slot u, another one, owns the page
abbrev pub IsKeptFrom : ℕ → ℕ → ℕ → Picture → Type 0
IsKeptFrom u t a p =
    IsTrue p.chart.on × (a < PAGE_WORDS * p.chart.shape.pages) × (slot_of p.chart.fields t ≡ Some Active) × (owner_of p.owned.pairs (a / PAGE_WORDS) ≡ Some u) × (u ≢ t)

-- .. the slot is open, no slot owns the page, and no more pages may be owned
abbrev pub IsFull : ℕ → ℕ → Picture → Type 0
IsFull t a p =
    IsTrue p.chart.on × (a < PAGE_WORDS * p.chart.shape.pages) × (slot_of p.chart.fields t ≡ Some Active) × (owner_of p.owned.pairs (a / PAGE_WORDS) ≡ None)
    × (length p.owned.pairs ≡ p.chart.shape.shadows)

-- The most programs and erases that one flush may begin, with a cleaning and the end of a swap before it, by the rows of
-- a segment.
abbrev pub flush_programs : ℕ → ℕ
flush_programs rows = 4 * rows + 16

abbrev pub flush_erases : ℕ
flush_erases = 6

pub record LoadsBelow (a : ℕ) (answer : Result ℕ LoadFault) (p q : Picture) : Type 0 where
  pub visits : LoadVisits (a / PAGE_WORDS) answer p q
  pub kept : q ≡ record p { parts = record p.parts { cache = q.parts.cache } }

pub record StoresBelow (a : ℕ) (answer : Result Unit StoreFault) (p q : Picture) : Type 0 where
  pub unpowered : p.chart.on ≡ false → q ≡ p
  pub works : Works (flush_programs p.chart.shape.rows) flush_erases p.chart q.chart
  pub counts : Counts p q
  pub visits : StoreVisits (a / PAGE_WORDS) answer p q
  pub flushes : OnOk answer (q.parts.flushes ≡ flushes_after false (a / PAGE_WORDS) p)
  pub does : OnOk answer (StoresBy (a / PAGE_WORDS) p.chart p.parts q.chart q.parts)
  pub ends : OnOk answer (Ends p.chart p.parts q.chart q.parts)
  pub stops : IsErrOf answer StoreBad → Stops (a / PAGE_WORDS) p.chart p.parts q.chart q.parts
  pub kept : q ≡ record p { chart = q.chart; sram = q.sram; parts = q.parts }

pub record BeginsBelow (answer : Result ℕ BeginFault) (p q : Picture) : Type 0 where
  pub unpowered : p.chart.on ≡ false → q ≡ p
  pub works : Works 0 0 p.chart q.chart
  pub slot : IfOk answer (λ t. q.chart.fields ≡ with_slot t (Some Active) p.chart.fields)
  pub kept : q ≡ record p { chart = q.chart; sram = q.sram }
  pub refused : (answer ≡ Err BeginBusy) → q ≡ p

pub record PutsBelow (t a : ℕ) (answer : Result Unit PutFault) (p q : Picture) : Type 0 where
  pub unpowered : p.chart.on ≡ false → q ≡ p
  pub works : Works (flush_programs p.chart.shape.rows) flush_erases p.chart q.chart
  pub counts : Counts p q
  pub visits : PutVisits (a / PAGE_WORDS) answer p q
  pub flushes : OnOk answer (q.parts.flushes ≡ flushes_after (is_unowned p.owned (a / PAGE_WORDS)) (a / PAGE_WORDS) p)
  pub does : OnOk answer (PutEffect t (a / PAGE_WORDS) p q)
  pub ends : OnOk answer (Ends p.chart p.parts q.chart q.parts)
  pub stops : IsErrOf answer PutBad → Stops (a / PAGE_WORDS) p.chart p.parts q.chart q.parts × (q.owned ≡ p.owned)
  pub kept : q ≡ record p { chart = q.chart; sram = q.sram; parts = q.parts; owned = q.owned }

pub record CommitsBelow (t : ℕ) (answer : Result Unit EndFault) (p q : Picture) : Type 0 where
  pub unpowered : p.chart.on ≡ false → q ≡ p
  pub works : Works 0 0 p.chart q.chart
  pub rows : OnOk answer (Rows p.chart q.chart)
  pub owned : OnOk answer (q.owned ≡ record p.owned { pairs = others_of t p.owned.pairs })
  pub kept : q ≡ record p { chart = q.chart; sram = q.sram; owned = q.owned; parts = record p.parts { space = q.parts.space } }
  pub refused : (answer ≡ Err EndClosed) → q ≡ p

pub record AbortsBelow (t : ℕ) (answer : Result Unit EndFault) (p q : Picture) : Type 0 where
  pub unpowered : p.chart.on ≡ false → q ≡ p
  pub works : Works 0 0 p.chart q.chart
  pub rows : OnOk answer (Rows p.chart q.chart)
  pub rests : Rests p.parts.cache q.parts.cache
  pub held : OnOk answer (q.parts.frames.held ≡ filter (λ h. not (names_slot t (undo_of p.chart.fields h.page))) p.parts.frames.held)
  pub owned : OnOk answer (q.owned ≡ record p.owned { pairs = others_of t p.owned.pairs })
  pub kept : q ≡ record p { chart = q.chart; sram = q.sram; owned = q.owned; parts = record p.parts { frames = q.parts.frames; space = q.parts.space; cache = q.parts.cache } }
  pub refused : (answer ≡ Err EndClosed) → q ≡ p

pub record TicksBelow (answer : Result Did Trouble) (p q : Picture) : Type 0 where
  pub unpowered : p.chart.on ≡ false → q ≡ p
  pub works : TicksOnce p.chart q.chart
  pub does : IfOk answer (λ did. TicksBy p.limit p.mark did p.chart p.parts q.chart q.parts)
  pub idle : (answer ≡ Ok Idle) ↔ IsIdle p
  pub stops : IsErrOf answer TroubleBad → TicksBad p.mark p.chart p.parts q.chart q.parts
  pub counts : MatchResult answer (λ _. CountsTick p.chart p.parts q.chart q.parts) (λ _. Counting p.chart p.parts q.chart q.parts)
  pub rests : Rests p.parts.cache q.parts.cache
  pub kept : q ≡ record p { chart = q.chart; sram = q.sram; parts = q.parts }
