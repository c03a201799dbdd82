-- All transfers of a load, one after another.
use Rattle.std.specs.Prelude.{◌≡◌, ℕ, ◌^◌, ◌≤◌, Result, Ok, Err, ℤ}
use Rattle.envy_array.specs.Area.{Fits}
use Rattle.envy_array.specs.declared.area.Area.{Area}
use Rattle.envy_soundness.specs.Words.{durable}
use Rattle.envy_memory.specs.Picture.{Picture}
use Rattle.envy_tpca.specs.declared.fault.DriveFault.{DriveFault}
use Rattle.envy_tpca.specs.declared.places.Places.{Places}
use Rattle.envy_tpca.specs.Driving.{IsLoadOf, plans_in, last_cut}
use Rattle.envy_tpca.specs.Load.{Draws, after, first}
use Rattle.envy_tpca.specs.Since.{Since}
use Rattle.envy_tpca.specs.Tpc.{Tpc, deltas, places_of}
use Rattle.envy_tpca.specs.Trying.{Rests, IsEnd}
use Rattle.envy_base.specs.declared.shape.TheConstants.{MOST_ROWS}

-- the area fits, the load was made for it, five pages may be owned, and the memory rests on the words of no transfer
pub record MayDrive (area : Area) (l : Places) (load : Draws) (p : Picture) : Type 0 where
  pub fits : Fits area p.chart.shape.pages
  pub low : p.chart.shape.pages ≤ MOST_ROWS
  pub places : l ≡ places_of area
  pub sizes : IsLoadOf area load
  pub room : 5 ≤ p.chart.shape.shadows
  pub rests : Rests (durable p.chart) p
  pub words : Tpc area p.chart.shape.pages load 0 (durable p.chart)

-- the words after the first i transfers are found, and so many plans were made since
pub record IsAt (area : Area) (load : Draws) (every i : ℕ) (old new : Picture) : Type 0 where
  pub words : Tpc area old.chart.shape.pages load i (durable new.chart)
  pub since : Since (plans_in every i) old new
  pub last_plan : new.chart.last_plan ≡ last_cut every i old.chart.last_plan

-- a transfer that was begun may be done or not; its plan is made
pub record IsWithin (area : Area) (load : Draws) (every : ℕ) (old new : Picture) : Type 0 where
  pub done : ℕ
  pub planned : ℕ
  pub few : done ≤ area.transfers
  pub few_planned : planned ≤ area.transfers
  pub words : Tpc area old.chart.shape.pages load done (durable new.chart)
  pub since : Since (plans_in every planned) old new
  pub last_plan : new.chart.last_plan ≡ last_cut every planned old.chart.last_plan

abbrev pub AfterAll : Area → Draws → ℕ → Picture → Result ℤ DriveFault → Draws → Picture → Type 0
AfterAll area load every old (Ok sum) then_load new =
    (sum ≡ deltas (first area.transfers load)) × (then_load ≡ after area.transfers load) × Rests (durable new.chart) new × IsAt area load every area.transfers old new
AfterAll area load every old (Err fault) then_load new = IsEnd fault old new × IsWithin area load every old new
