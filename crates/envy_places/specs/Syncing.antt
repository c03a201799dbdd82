-- What a sync answers by a number, and what it leaves, by what the board says of being on a disk.
use Rattle.std.specs.Prelude.{◌≡◌, ℕ, IfOk, OnOk, Option, None, Some, Result, Ok, Err, if◌then◌else◌}
use Rattle.envy_base.specs.declared.board.Off.{Off as OffBoard}
use Rattle.envy_calls.specs.Codes.{number_of}
use Rattle.envy_calls.specs.declared.code.Code.{Code}
use Rattle.envy_calls.specs.declared.code.Code.TheVariants.{Done, Empty, Off}
use Rattle.envy_disk.specs.Disk.{SyncsChart}
use Rattle.envy_disk.specs.declared.durable_board.Compaction.{Compaction}
use Rattle.envy_disk.specs.declared.durable_board.Compaction.TheVariants as compaction
use Rattle.envy_map.specs.Fields.{Chart}
use Rattle.envy_memory.specs.Picture.{Picture}
use Rattle.envy_places.specs.Codes.{number_of_place}
use Rattle.envy_places.specs.Places.{held}
use Rattle.envy_places.specs.declared.code.PlaceCode.{PlaceCode}
use Rattle.envy_places.specs.declared.code.PlaceCode.TheVariants.{Of, Appended}
use Rattle.envy_places.specs.declared.place.MemoryPlace.{MemoryPlace}
use Rattle.envy_places.specs.declared.place.MemoryPlace.TheVariants.{File}

abbrev pub sync_code : Result Unit OffBoard → Code
sync_code (Ok done) = Done
sync_code (Err off) = Off

-- What the sync brought to the disk is what the board holds; or the file failed, and power is off. No word changes.
pub record SyncsTo (Synced : Chart → Type 0) (p q : Picture) (code : ℕ) : Type 0 where
  pub answer : Result Unit OffBoard
  pub coded : code ≡ number_of (sync_code answer)
  pub syncs : SyncsChart p.chart answer q.chart
  pub synced : OnOk answer (Synced q.chart)
  pub kept : q ≡ record p { chart = q.chart }

-- in a place: the call of the memory that it holds
abbrev pub DoesSync : (Chart → Type 0) → Option Picture → Option Picture → ℕ → Type 0
DoesSync Synced None new code = (new ≡ None) × (code ≡ number_of Empty)
DoesSync Synced (Some p) new code = (q : Picture) × (new ≡ Some q) × SyncsTo Synced p q code

abbrev pub compaction_code : Result Compaction OffBoard → PlaceCode
compaction_code (Ok compaction.Done) = Of Done
compaction_code (Ok compaction.Appended) = Appended
compaction_code (Err off) = Of Off

-- A sync that leaves no more in the file than a snapshot, or says that this was hindered since the last one.
pub record CompactsTo (Synced Compact : Chart → Type 0) (Hindered : Chart → Chart → Type 0) (p q : Picture) (code : ℕ) : Type 0 where
  pub answer : Result Compaction OffBoard
  pub coded : code ≡ number_of_place (compaction_code answer)
  pub syncs : SyncsChart p.chart answer q.chart
  pub synced : OnOk answer (Synced q.chart)
  pub compact : IfOk answer (λ made. made ≡ compaction.Done → Compact q.chart)
  pub hindered : IfOk answer (λ made. made ≡ compaction.Appended → Hindered p.chart q.chart)
  pub kept : q ≡ record p { chart = q.chart }

abbrev pub DoesCompact : (Chart → Type 0) → (Chart → Type 0) → (Chart → Chart → Type 0) → Option Picture → Option Picture → ℕ → Type 0
DoesCompact Synced Compact Hindered None new code = (new ≡ None) × (code ≡ number_of Empty)
DoesCompact Synced Compact Hindered (Some p) new code = (q : Picture) × (new ≡ Some q) × CompactsTo Synced Compact Hindered p q code

-- whether a memory is held whose power is on, as a number
abbrev pub DoesTellPower : Option Picture → ℕ → Type 0
DoesTellPower None code = code ≡ number_of Empty
DoesTellPower (Some p) code = code ≡ (if p.chart.on then number_of Done else number_of Off)

-- In a place over a file it is this. Another place stays as it is, since nothing is left to bring to a disk: the answer
-- tells whether power is on.
abbrev pub OnFile : {R F S : Type 0} → (Option Picture → Option Picture → ℕ → Type 0) → MemoryPlace R F S → MemoryPlace R F S → ℕ → Type 0
OnFile Does (File slot) new code = (after : Option Picture) × (new ≡ File after) × Does slot after code
OnFile Does old new code = (new ≡ old) × DoesTellPower (held old) code
