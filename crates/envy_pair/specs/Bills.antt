-- What the counts of both boards license: replies, cuts by hand, plans, and how often a side went Gone.
use Rattle.std.specs.Prelude.{◌≡◌, ℕ, ◌+◌, ◌≤◌}
use Rattle.envy_engine.specs.Counts.{Tally3}
use Rattle.envy_memory.specs.Picture.{Picture}
use Rattle.envy_memory.specs.Rises.{RoseBy, RoseOver}
use Rattle.envy_mirror.specs.Pair.{Pair}

-- how often these came to one board
pub record Toll : Type 0 where
  -- power was cut by hand
  pub pulls : ℕ
  -- a failure was planned
  pub plans : ℕ
  -- power failed
  pub fails : ℕ
  -- a flash operation failed
  pub bads : ℕ

-- what one board's counts show of that
pub record Charged (toll : Toll) (old new : Picture) : Type 0 where
  pub shape : new.chart.shape ≡ old.chart.shape
  pub given : new.chart.given ≡ old.chart.given
  pub lives : new.chart.lives ≤ old.chart.lives
  pub pulled : RoseBy toll.pulls old.chart.pulled new.chart.pulled
  pub plans : RoseBy toll.plans old.chart.plans new.chart.plans
  pub cuts : RoseOver (toll.pulls + toll.fails) old.chart.cuts new.chart.cuts
  pub bads : RoseOver toll.bads old.chart.bads new.chart.bads
  -- flushes, copies and moves count the programs that began
  pub programs : Tally3 old.parts.flushes old.parts.reloc.copied old.parts.reloc.moved old.chart.begun new.parts.flushes new.parts.reloc.copied new.parts.reloc.moved new.chart.begun

-- how often these came in lines and replies, and to the sides
pub record Sums : Type 0 where
  pub lines : ℕ
  pub powers : ℕ
  pub plans : ℕ
  pub losts : ℕ
  pub faults : ℕ
  pub first_falls : ℕ
  pub second_falls : ℕ

-- Both boards' counts pay for the sums. Power is cut by hand for a line `power`, or on a side whose flash failed where the
-- other did the command; each reply `fault` has a flash operation of its own that failed besides. Each `lost` has a failure
-- of power. A side goes Gone where its power fails or is cut. None of these comes twice in a line.
pub record Bill (sums : Sums) (old new : Pair) : Type 0 where
  pub first : Toll
  pub second : Toll
  pub to_first : Charged first old.first.memory new.first.memory
  pub to_second : Charged second old.second.memory new.second.memory
  pub pulls : first.pulls + second.pulls + sums.faults ≤ sums.powers + (first.bads + second.bads)
  pub faults : sums.faults ≤ first.bads + second.bads
  pub losts : sums.losts ≤ first.fails + second.fails
  pub plans : first.plans + second.plans ≡ sums.plans
  pub first_falls : sums.first_falls ≤ first.pulls + first.fails
  pub second_falls : sums.second_falls ≤ second.pulls + second.fails
  pub few_pulls : first.pulls + second.pulls ≤ sums.lines
  pub few_faults : sums.faults ≤ sums.lines
  pub few_losts : sums.losts ≤ sums.lines
  pub few_first : sums.first_falls ≤ sums.lines
  pub few_second : sums.second_falls ≤ sums.lines
