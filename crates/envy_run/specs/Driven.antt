-- What driving a load and telling its sums leaves, on a memory of zeros.
use Rattle.std.specs.Prelude.{◌≡◌, ◌⊎◌, ℕ, ◌+◌, ◌≤◌, false}
use Rattle.envy_array.specs.declared.area.Area.{Area}
use Rattle.envy_io.specs.Streams.{Drain}
use Rattle.envy_memory.specs.Picture.{Picture}
use Rattle.envy_tpca.specs.declared.sums.Sums.{Sums}
use Rattle.envy_tpca.specs.Driving.{HasCounted, IsDriven, PlansCuts, plans_in}
use Rattle.envy_tpca.specs.Load.{Draws}
use Rattle.envy_tpca.specs.Since.{IsPast, Keeps}
use Rattle.envy_run.specs.Drives.{report}
use Rattle.envy_run.specs.Writing.{WritesAs}
use Rattle.envy_run.specs.declared.endings.Ending.{Ending}
use Rattle.envy_run.specs.declared.endings.Ending.TheVariants.{FlashFailed, PowerLost}

-- the load was driven to its end, and its report is written, or a front of it
pub record HasTold (area : Area) (load : Draws) (every : ℕ) (first now : Picture) (ending : Ending) (to sink : Drain) : Type 0 where
  pub sums : Sums
  pub driven : IsDriven area load every first sums now
  pub writes : WritesAs (report area sums) ending to sink

-- power doesn't return, or a flash operation failed; nothing is written
abbrev pub IsCause : Ending → Picture → Picture → Type 0
IsCause ending first now = ((ending ≡ PowerLost) × (now.chart.on ≡ false) × (now.chart.lives ≡ 0)) ⊎ ((ending ≡ FlashFailed) × IsPast first.chart.bads now.chart.bads)

pub record HasBroken (area : Area) (load : Draws) (first now : Picture) (ending : Ending) (to sink : Drain) : Type 0 where
  pub counted : HasCounted area load now
  pub cause : IsCause ending first now
  pub sink_same : sink ≡ to

pub record AfterLoad (area : Area) (load : Draws) (every : ℕ) (first now : Picture) (ending : Ending) (to sink : Drain) : Type 0 where
  pub ends : HasTold area load every first now ending to sink ⊎ HasBroken area load first now ending to sink
  pub keeps : Keeps first now
  pub plans : now.chart.plans ≤ first.chart.plans + plans_in every area.transfers
  pub last_plan : PlansCuts area every first.chart.last_plan now.chart.last_plan
