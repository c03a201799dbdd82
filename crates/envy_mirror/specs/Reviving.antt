-- Power asked for where no side is Good, and given or not; and power cut by hand.
use Rattle.std.specs.Prelude.{◌≡◌, ℕ, ◌-◌, ◌^◌, ◌<◌, Bool, true, false, List, length, replicate, Result, Ok, Err, IsTrue, ◌&&◌, ◌||◌, if◌then◌else◌, zero, suc}
use Rattle.envy_array.specs.Array.{Array, undone}
use Rattle.envy_base.specs.declared.faults.PlannedFault.{PlannedFault}
use Rattle.envy_soundness.specs.Sound.{IsSound}
use Rattle.envy_meaning.specs.Stands.{Stands}
use Rattle.envy_soundness.specs.Words.{durable}
use Rattle.envy_memory.specs.Calls.{fresh, planned}
use Rattle.envy_memory.specs.Restarts.{Restarts}
use Rattle.envy_memory.specs.declared.faults.ReviveFault.{ReviveFault}
use Rattle.envy_memory.specs.declared.faults.ReviveFault.TheVariants.{Dead, Off}
use Rattle.envy_mirror.specs.Asking.{cut_by_hand}
use Rattle.envy_mirror.specs.Catching.{Wakes}
use Rattle.envy_mirror.specs.Pair.{Side, Pair, is_good, side_at, IsDark}
use Rattle.envy_mirror.specs.Mirroring.{Mirrors}
use Rattle.envy_mirror.specs.declared.standing.Standing.{Standing}
use Rattle.envy_mirror.specs.declared.standing.Standing.TheVariants.{Good, Behind, Gone}
use Rattle.envy_mirror.specs.declared.standing.Which.{Which}
use Rattle.envy_mirror.specs.declared.standing.Which.TheVariants.{First, Second}

-- the side that was Good last, and the marks of the other
abbrev pub Returns : Result Unit ReviveFault → Side → List Bool → Side → List Bool → Type 0
Returns (Ok done) old stale new left = (new.standing ≡ Good) × Stands new.memory.chart (fresh old.memory.chart.shape.shadows (durable old.memory.chart)) × Restarts old.memory new.memory × Wakes old.memory new.memory × (left ≡ replicate (length stale) true)
Returns (Err Dead) old stale new left = (old.memory.chart.lives ≡ 0) × (new ≡ old) × (left ≡ stale)
Returns (Err Off) old stale new left = (new.standing ≡ Gone) × (new.memory.chart.on ≡ false) × Wakes old.memory new.memory × (old.memory.chart.cuts < 2 ^ 64 - 1 → old.memory.chart.cuts < new.memory.chart.cuts) × (left ≡ stale)

-- the side that was Good last is revived, and the other stays
abbrev pub RevivesBy : Which → Result Unit ReviveFault → Pair → Pair → Type 0
RevivesBy First result old new = Returns result old.first old.stale new.first new.stale × (new ≡ record old { first = new.first; stale = new.stale })
RevivesBy Second result old new = Returns result old.second old.stale new.second new.stale × (new ≡ record old { second = new.second; stale = new.stale })

-- a side that has power is Gone without it; a Gone side stays
abbrev pub cut_side_by : Standing → Side → Side
cut_side_by Good side = record { memory = cut_by_hand side.memory; standing = Gone }
cut_side_by Behind side = record { memory = cut_by_hand side.memory; standing = Gone }
cut_side_by Gone side = side

abbrev pub cut_side : Side → Side
cut_side side = cut_side_by side.standing side

abbrev pub which : ℕ → Which
which zero = First
which (suc n) = Second

abbrev pub other_than : Which → Which
other_than First = Second
other_than Second = First

abbrev pub with_side : Which → Side → Pair → Pair
with_side First side p = record p { first = side }
with_side Second side p = record p { second = side }

-- a failure of a side is planned
abbrev pub plan_side : Which → PlannedFault → Pair → Pair
plan_side one fault p = let side = side_at one p in with_side one (record side { memory = record side.memory { chart = planned fault side.memory.chart } }) p

-- the side is cut; where both were Good, the other was Good last
abbrev pub cut_pair : Which → Pair → Pair
cut_pair one p = record (with_side one (cut_side (side_at one p)) p) { last = if is_good p.first && is_good p.second then other_than one else p.last }

-- Where a side is left the pair stands for the array; else the one that was Good last has what a restart finds.
pub record LeavesCut (m : Array) (new : Pair) : Type 0 where
  pub lit : IsTrue (is_good new.first || is_good new.second) → Mirrors new m
  pub dark : IsDark new → IsSound (side_at new.last new).memory.chart × (durable (side_at new.last new).memory.chart ≡ undone m)
