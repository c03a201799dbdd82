-- What a worker leaves at each exit.
use Rattle.std.specs.Prelude.{◌≡◌, ◌-◌, ◌^◌, ◌<◌, IsTrue}
use Rattle.envy_soundness.specs.Frames.{FramesStay}
use Rattle.envy_map.specs.Fields.{Chart}
use Rattle.envy_table.specs.Hits.{Rests}
use Rattle.envy_engine.specs.Agreement.{Steady}
use Rattle.envy_engine.specs.Counts.{Counting}
use Rattle.envy_engine.specs.declared.parts.Parts.{Parts}

-- the parts agree with the board, the counts kept up with its flash work, and no access was counted
pub record LeavesParts (old : Chart) (was : Parts) (new : Chart) (now : Parts) : Type 0 where
  pub steady : Steady new now
  pub counting : Counting old was new now
  pub rests : Rests was.cache now.cache

-- the same pages are held and stand in frames, and no flush was counted
pub record KeepsFrames (old : Chart) (was : Parts) (new : Chart) (now : Parts) : Type 0 where
  pub frames : now.frames ≡ was.frames
  pub here : IsTrue new.on → FramesStay old.fields.places new.fields.places
  pub flushes : now.flushes ≡ was.flushes

-- a bad operation is counted, but for a count at its top
abbrev pub CountsBad : Chart → Chart → Type 0
CountsBad old new = old.bads < 2 ^ 64 - 1 → old.bads < new.bads
