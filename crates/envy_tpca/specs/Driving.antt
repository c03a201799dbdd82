-- What driving a load may answer, and what it leaves.
use Rattle.std.specs.Prelude.{◌≡◌, ℕ, zero, suc, ◌+◌, ◌*◌, ◌%◌, ◌-◌, ◌^◌, ◌<◌, ◌≤◌, ◌==◌, ◌&&◌, not, Bool, Option, Some, slice_index, if◌then◌else◌}
use Rattle.envy_base.specs.declared.faults.PlannedFault.{PlannedFault}
use Rattle.envy_base.specs.declared.faults.PlannedFault.TheVariants.{Cut}
use Rattle.envy_array.specs.declared.area.Area.{Area}
use Rattle.envy_array.specs.declared.counts.Counts.{Counts}
use Rattle.envy_soundness.specs.Words.{durable}
use Rattle.envy_memory.specs.Picture.{Picture, counts_of}
use Rattle.envy_tpca.specs.declared.sums.Sums.{Sums}
use Rattle.envy_tpca.specs.Load.{Draws, first}
use Rattle.envy_tpca.specs.Since.{Rises}
use Rattle.envy_tpca.specs.Tpc.{Tpc, deltas}
use Rattle.envy_tpca.specs.Trying.{Rests}

-- the load was made with the sizes of the area
pub record IsLoadOf (area : Area) (load : Draws) : Type 0 where
  pub branches : load.branches ≡ area.branches
  pub accounts : load.accounts ≡ area.accounts

-- The words that a restart finds are those after as many transfers as word 0 says, each of them counted once.
pub record HasCounted (area : Area) (load : Draws) (p : Picture) : Type 0 where
  pub few : slice_index (durable p.chart) 0 ≤ area.transfers
  pub words : Tpc area p.chart.shape.pages load (slice_index (durable p.chart) 0) (durable p.chart)

-- a cut is planned before transfer i
abbrev pub is_planned : ℕ → ℕ → Bool
is_planned every i = not (every == 0) && (i % every == 0)

-- how many cuts are planned before the first n transfers
unfoldable pub plans_in : ℕ → ℕ → ℕ
plans_in every zero = 0
plans_in every (suc n) = plans_in every n + (if is_planned every n then 1 else 0)

-- the cut that is planned before transfer i
abbrev pub cut_before : ℕ → PlannedFault
cut_before i = Cut (1 + (37 * i) % 512) i

-- the last failure that is planned before the first n transfers, from the one of before
unfoldable pub last_cut : ℕ → ℕ → Option PlannedFault → Option PlannedFault
last_cut every zero before = before
last_cut every (suc n) before = if is_planned every n then Some (cut_before n) else last_cut every n before

-- so it is after some of the transfers of an area
abbrev pub PlansCuts : Area → ℕ → Option PlannedFault → Option PlannedFault → Type 0
PlansCuts area every old new = (n : ℕ) × (n ≤ area.transfers) × (new ≡ last_cut every n old)

-- one load for each balance and for the delta of each transfer
abbrev pub loads_of : Area → ℕ
loads_of area = 11 * area.branches + area.branches * area.accounts + area.transfers

-- The counters were told before so many loads: all but hits and misses are those of now, and these two together are
-- lower by the loads. Silent where one of them stopped at the top.
pub record IsToldBefore (loads : ℕ) (told now : Counts) : Type 0 where
  pub others : told ≡ record now { hits = told.hits; misses = told.misses }
  pub hits : told.hits ≤ now.hits
  pub misses : told.misses ≤ now.misses
  pub accesses : now.hits < 2 ^ 64 - 1 → now.misses < 2 ^ 64 - 1 → told.hits + told.misses + loads ≡ now.hits + now.misses

-- Each sum is the sum of the deltas that the load gave.
pub record AddsUp (area : Area) (load : Draws) (sums : Sums) : Type 0 where
  pub branches : sums.branches ≡ deltas (first area.transfers load)
  pub tellers : sums.tellers ≡ deltas (first area.transfers load)
  pub accounts : sums.accounts ≡ deltas (first area.transfers load)
  pub history : sums.history ≡ deltas (first area.transfers load)
  pub deltas : sums.deltas ≡ deltas (first area.transfers load)

-- a transfer loads three balances, and puts them, four words of its history and the number of transfers
abbrev pub accesses_of : Area → ℕ
accesses_of area = 11 * area.transfers

-- Where power never failed, the hits and misses told are those of before and the accesses of the transfers. Silent where
-- one of them stopped at the top.
abbrev pub CountsAccesses : Area → Picture → Counts → Picture → Type 0
CountsAccesses area old told new =
    old.chart.cuts < 2 ^ 64 - 1 → new.chart.cuts ≡ old.chart.cuts → told.hits < 2 ^ 64 - 1 → told.misses < 2 ^ 64 - 1 → told.hits + told.misses ≡ (counts_of old.parts).hits + (counts_of old.parts).misses + accesses_of area

-- All transfers are done: the board stands for the words after them, with no slot open. Power returned so often as
-- lives were used, and a cut was planned before each transfer that is a multiple of `every`.
pub record IsDriven (area : Area) (load : Draws) (every : ℕ) (old : Picture) (sums : Sums) (new : Picture) : Type 0 where
  pub rests : Rests (durable new.chart) new
  pub words : Tpc area new.chart.shape.pages load area.transfers (durable new.chart)
  pub adds_up : AddsUp area load sums
  pub cuts : sums.cuts + new.chart.lives ≡ old.chart.lives
  pub plans : Rises (plans_in every area.transfers) old.chart.plans new.chart.plans
  pub last_plan : new.chart.last_plan ≡ last_cut every area.transfers old.chart.last_plan
  pub counts : IsToldBefore (loads_of area) sums.counts (counts_of new.parts)
  pub accesses : CountsAccesses area old sums.counts new
