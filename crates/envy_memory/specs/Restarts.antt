-- What a memory is after power returned.
use Rattle.std.specs.Prelude.{◌≡◌, []}
use Rattle.envy_frames.specs.Agreement.{held_by_default}
use Rattle.envy_policy.specs.History.{started}
use Rattle.envy_table.specs.Hits.{Empties}
use Rattle.envy_engine.specs.Restarts.{IsRestarted}
use Rattle.envy_memory.specs.Calls.{lit}
use Rattle.envy_memory.specs.Picture.{Picture}

-- The board was restarted as power came back to it. The counters stay, and the cache is empty. Heats, turns and lives are
-- at their start, no stage or move is pending, no erase has begun since, no page has an owner, and the held frames are
-- those that the table names, in rising order of page with their default homes.
pub record Restarts (old new : Picture) : Type 0 where
  pub restarted : IsRestarted (lit old.chart) new.chart
  pub empties : Empties old.parts.cache new.parts.cache
  pub chooser : new.parts.chooser ≡ started old.parts.chooser.policy old.parts.chooser.pages old.parts.chooser.positions
  pub stages : new.parts.stages ≡ []
  pub moves : new.parts.reloc.moves ≡ []
  pub since : new.parts.reloc.since ≡ 0
  pub held : new.parts.frames.held ≡ held_by_default new.chart.shape new.chart.fields.places
  pub owners : new.owned.pairs ≡ []
