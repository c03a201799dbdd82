-- What a memory keeps while a load is driven, and what it counts.
use Rattle.std.specs.Prelude.{◌≡◌, ℕ, ◌+◌, ◌-◌, ◌^◌, ◌<◌, ◌≤◌}
use Rattle.envy_engine.specs.Counts.{Tallies}
use Rattle.envy_memory.specs.Picture.{Picture}

-- a count rose, or stood at the top
abbrev pub IsPast : ℕ → ℕ → Type 0
IsPast old new = old < 2 ^ 64 - 1 → old < new

-- a count rose by n at most
abbrev pub RisesWithin : ℕ → ℕ → ℕ → Type 0
RisesWithin n old new = old ≤ new × new ≤ old + n

-- a count rose by n, or stopped at the top
pub record Rises (n old new : ℕ) : Type 0 where
  pub least : old ≤ new
  pub most : new ≤ old + n
  pub exact : old + n < 2 ^ 64 → new ≡ old + n

-- Power was never cut by hand, and no life was won. Flushes, copies and moves count the programs that began since, and
-- the erases those that began.
pub record Keeps (first now : Picture) : Type 0 where
  pub shape : now.chart.shape ≡ first.chart.shape
  pub given : now.chart.given ≡ first.chart.given
  pub pulled : now.chart.pulled ≡ first.chart.pulled
  pub lives : now.chart.lives ≤ first.chart.lives
  pub cuts : first.chart.cuts ≤ now.chart.cuts
  pub bads : first.chart.bads ≤ now.chart.bads
  pub tallies : Tallies first.chart first.parts now.chart now.parts

-- and n failures were planned; where none was, the last one is that of before
pub record Since (n : ℕ) (first now : Picture) : Type 0 where
  pub keeps : Keeps first now
  pub plans : Rises n first.chart.plans now.chart.plans
  pub unplanned : n ≡ 0 → now.chart.last_plan ≡ first.chart.last_plan
