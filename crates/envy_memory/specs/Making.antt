-- Parts that are read anew.
use Rattle.std.specs.Prelude.{◌≡◌, []}
use Rattle.envy_frames.specs.Agreement.{held_by_default}
use Rattle.envy_map.specs.Fields.{Chart}
use Rattle.envy_policy.specs.History.{started}
use Rattle.envy_table.specs.Hits.{Empties}
use Rattle.envy_engine.specs.Restarts.{SameCounts}
use Rattle.envy_engine.specs.declared.parts.Parts.{Parts}

-- Parts that were read anew from a board: the counts stay.
pub record StartsAnew (was : Parts) (c : Chart) (now : Parts) : Type 0 where
  pub empties : Empties was.cache now.cache
  pub chooser : now.chooser ≡ started was.chooser.policy was.chooser.pages was.chooser.positions
  pub stages : now.stages ≡ []
  pub moves : now.reloc.moves ≡ []
  pub since : now.reloc.since ≡ 0
  pub held : now.frames.held ≡ held_by_default c.shape c.fields.places
  pub counts : SameCounts was now
