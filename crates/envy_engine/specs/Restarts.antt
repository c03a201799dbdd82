-- A board that was settled after power came.
use Rattle.std.specs.Prelude.{◌≡◌, ◌⊎◌, ℕ, ◌<◌, [], None, Some}
use Rattle.envy_base.specs.declared.fields.Job.TheVariants.{Idle, Erase}
use Rattle.envy_base.specs.declared.fields.Slot.TheVariants.{Vacant}
use Rattle.envy_base.specs.declared.fields.Undo.TheVariants.{Clear}
use Rattle.envy_map.specs.Fields.{Chart, undo, slot}
use Rattle.envy_reloc.specs.Settling.{Settles as SettlesJob}
use Rattle.envy_txn.specs.Ending.{Settles as SettlesOwners}
use Rattle.envy_frames.specs.Agreement.{held_by_default}
use Rattle.envy_soundness.specs.Words.{live, durable}
use Rattle.envy_policy.specs.History.{started}
use Rattle.envy_table.specs.Hits.{Empties}
use Rattle.envy_engine.specs.declared.parts.Parts.{Parts}

-- no transaction is open, each undo is clear, and a job is to erase the spare at most
pub record IsSettled (c : Chart) : Type 0 where
  pub undos : (p : ℕ) → p < c.shape.pages → undo c.fields p ≡ Some Clear
  pub slots : (t : ℕ) → t < 64 → slot c.fields t ≡ Some Vacant
  pub job : (c.fields.job ≡ Some Idle) ⊎ (c.fields.job ≡ Some Erase)

-- First the transactions that power left open were undone, and then the job was settled. Nothing else of the map
-- changed, and flash is as before.
pub record IsRestarted (old new : Chart) : Type 0 where
  pub undone : Chart
  pub undoes : SettlesOwners old undone
  pub settles : SettlesJob undone.shape undone.fields.job undone.fields new.fields
  pub flash : new.flash ≡ old.flash

-- loads read what the restart found, and nothing is left open
pub record SettlesAll (old new : Chart) : Type 0 where
  pub live : live new ≡ durable old
  pub settled : IsSettled new
  pub restarted : IsRestarted old new

-- all parts were read anew: frames are held with default homes, and heats, stages, entries and moves are gone
pub record IsRebuilt (c : Chart) (was now : Parts) : Type 0 where
  pub held : now.frames.held ≡ held_by_default c.shape c.fields.places
  pub heats : now.chooser ≡ started was.chooser.policy was.chooser.pages was.chooser.positions
  pub stages : now.stages ≡ []
  pub empties : Empties was.cache now.cache
  pub since : now.reloc ≡ record was.reloc { moves = []; aside = None; mark = 0; since = 0 }

-- no count changed
pub record SameCounts (was now : Parts) : Type 0 where
  pub hits : now.cache.hits ≡ was.cache.hits
  pub misses : now.cache.misses ≡ was.cache.misses
  pub flushes : now.flushes ≡ was.flushes
  pub copied : now.reloc.copied ≡ was.reloc.copied
  pub moved : now.reloc.moved ≡ was.reloc.moved
  pub erased : now.reloc.erased ≡ was.reloc.erased
  pub swaps : now.swaps ≡ was.swaps
