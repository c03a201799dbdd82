-- A memory that is kept in a file, before its first line.
use Rattle.std.specs.Prelude.{◌≡◌, ℕ, ◌+◌, ◌^◌, ◌<◌, ◌≤◌, IsTrue, Bool, false, List, ◌∷◌, length}
use Rattle.envy_base.specs.Shape.{version_of}
use Rattle.envy_array.specs.Array.{Array, undone}
use Rattle.envy_begun.specs.declared.open_fault.OpenFault.{OpenFault}
use Rattle.envy_begun.specs.declared.open_fault.OpenFault.TheVariants.{Failed, Memory, NotMade}
use Rattle.envy_journal.specs.Held.{most_held}
use Rattle.envy_journal.specs.Reading.{operations}
use Rattle.envy_synced.specs.Disk.{IsLast, IsSynced}
use Rattle.envy_soundness.specs.Sound.{IsSound}
use Rattle.envy_meaning.specs.Stands.{Stands}
use Rattle.envy_soundness.specs.Words.{durable}
use Rattle.envy_map.specs.Codes.{the_magic}
use Rattle.envy_map.specs.Fields.{Chart}
use Rattle.envy_memory.specs.Formats.{IsStarted}
use Rattle.envy_memory.specs.Picture.{Picture}
use Rattle.envy_policy.specs.declared.setup.Setup.{Setup}

-- A memory of this setup that stands for an array, which a restart would find. The board was on the disk as it was behind
-- the last sync, and a restart would have found the same words on it.
pub record HasBegun (setup : Setup) (array : Array) (p : Picture) : Type 0 where
  pub was : Chart
  pub synced : IsSynced was
  pub last : IsLast was p.chart
  pub magic : was.fields.magic ≡ the_magic
  pub version : was.fields.version ≡ version_of was.shape
  pub sound : IsSound was
  pub words : durable was ≡ undone array
  pub stands : Stands p.chart array
  pub begins : IsStarted setup p
  pub shape : p.chart.shape ≡ setup.shape

-- the journal that the last sync brought to the disk has the operations of a file, each as it was
abbrev pub HasOperationsOf : List ℕ → Chart → Type 0
HasOperationsOf file c = operations c.notes.last.bytes ≡ operations file

-- the file failed, or with so many bytes held back from it, and no more than a log holds, is at the end of its range
abbrev pub HasStopped : {D : Type 0} → (D → List ℕ) → (D → Bool) → ℕ → D → Type 0
HasStopped seen has_failed held device = (held ≤ most_held) × (length (seen device) + held < 2 ^ 60 → IsTrue (has_failed device))

-- why a new memory isn't there: the file stopped, or memory ran out or no second file was made and the last call on the file
-- was done
abbrev pub IsStopped : {D : Type 0} → (D → List ℕ) → (D → Bool) → OpenFault → D → Type 0
IsStopped seen has_failed (Failed held) device = HasStopped seen has_failed held device
IsStopped seen has_failed Memory device = has_failed device ≡ false
IsStopped seen has_failed NotMade device = has_failed device ≡ false
IsStopped seen has_failed other device = ⊥
