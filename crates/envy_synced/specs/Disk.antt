-- What a kept board notes of the disk.
use Rattle.std.specs.Prelude.{◌≡◌, ◌⊎◌, ℕ, ◌<◌, ◌≤◌, false, IsTrue, List, length}
use Rattle.envy_base.specs.State.{Notes, State, SyncNote, IsBoard}
use Rattle.envy_map.specs.Fields.{Chart, map_fields}
use Rattle.envy_journal.specs.declared.log.Log.{Log}
use Rattle.envy_journal.specs.declared.operation.Operation.{Operation}
use Rattle.envy_journal.specs.Content.{holds}
use Rattle.envy_journal.specs.Head.{HasHead, StandsFor}
use Rattle.envy_journal.specs.Journal.{IsFileOf, kept}
use Rattle.envy_journal.specs.Log.{kept_bytes}
use Rattle.envy_journal.specs.Reading.{operations, IsUnbroken}
use Rattle.envy_journal.specs.Snapshot.{most_of}
use Rattle.envy_disk.specs.Disk.{with_notes}

-- the sync behind which a log was so
abbrev pub sync_of : {D : Type 0} → (D → List ℕ) → (D → ℕ) → (D → ℕ) → Log D → SyncNote
sync_of seen moment hindered log = record { moment = moment log.device; bytes = kept_bytes seen log; hindrances = hindered log.device }

-- what is noted of the last sync and of the one before
abbrev pub notes_of : {D : Type 0} → (D → List ℕ) → (D → ℕ) → (D → ℕ) → Log D → Log D → Notes
notes_of seen moment hindered was before = record { last = sync_of seen moment hindered was; before = sync_of seen moment hindered before }

abbrev pub disk_state : {D : Type 0} → (D → List ℕ) → (D → ℕ) → (D → ℕ) → Log D → Log D → State → State
disk_state seen moment hindered was before s = with_notes s (notes_of seen moment hindered was before)

-- what a crash since the last sync leaves: what it brought to the disk, or, where power is off, what the board holds now
abbrev pub Ends : State → List Operation → List ℕ → Type 0
Ends s last file = StandsFor s.shape last file ⊎ ((s.on ≡ false) × IsFileOf s file)

-- a log, as it was behind the last sync that succeeded, and behind the one before
pub record IsKept {D : Type 0} (seen : D → List ℕ) (moment hindered : D → ℕ) (left_since : D → ℕ → List ℕ → Type 0) (now was before : Log D) (s : State) : Type 0 where
  pub same : IsTrue s.on → kept seen now ≡ kept seen was
  pub unhindered : IsTrue s.on → hindered now.device ≡ hindered was.device
  pub later : moment was.device ≤ moment now.device
  pub earlier : moment before.device ≤ moment was.device
  pub each : (file : List ℕ) → left_since now.device (moment was.device) file → ∥ Ends s (kept seen was) file ∥₁
  pub since : (file : List ℕ) → left_since now.device (moment before.device) file → ∥ StandsFor s.shape (kept seen before) file ⊎ Ends s (kept seen was) file ∥₁

-- the file opens as this board: its sizes, its map and its flash
pub record Reopens (c : Chart) (file : List ℕ) : Type 0 where
  pub head : HasHead c.shape file
  pub fields : map_fields c.shape (holds c.shape (operations file)).sram ≡ c.fields
  pub flash : (holds c.shape (operations file)).flash ≡ c.flash
  pub ends : IsUnbroken file

-- a board just behind a sync: what the sync brought to the disk is what it holds
pub record IsSynced (c : Chart) : Type 0 where
  pub fields : map_fields c.shape (holds c.shape (operations c.notes.last.bytes)).sram ≡ c.fields
  pub flash : (holds c.shape (operations c.notes.last.bytes)).flash ≡ c.flash

-- the journal that the last sync brought to the disk is no longer than a snapshot
abbrev pub IsCompact : Chart → Type 0
IsCompact c = length c.notes.last.bytes ≤ most_of c.shape

-- a call on a second file failed between the last sync of the one board and that of the other
abbrev pub IsHindered : Chart → Chart → Type 0
IsHindered old new = old.notes.last.hindrances < new.notes.last.hindrances

-- the last sync of `now` is that of `was`
pub record IsLast (was now : Chart) : Type 0 where
  pub shape : was.shape ≡ now.shape
  pub sync : now.notes.last ≡ was.notes.last

-- the sync of `now` before its last one is the last of `was`
pub record IsBefore (was now : Chart) : Type 0 where
  pub shape : was.shape ≡ now.shape
  pub sync : now.notes.before ≡ was.notes.last

-- What a crash has left of a kept board that is `now`, by the moment since which it was. Since the last sync, behind which the
-- board was `was`: a file that opens as this, with the operations that were on the disk then; or, where power is off, one that
-- opens as the board of now. Since the sync before, behind which it was `first`: that, or one of these.
pub record CrashLeaves (left_since : ℕ → List ℕ → Type 0) (moment : ℕ) (now : Chart) : Type 0 where
  pub time : now.notes.last.moment ≤ moment
  pub last : (was : Chart) → IsSynced was → IsLast was now → (file : List ℕ) → left_since was.notes.last.moment file → ∥ Reopens was file ⊎ ((now.on ≡ false) × Reopens now file) ∥₁
  pub reads : (was : Chart) → IsLast was now → (file : List ℕ) → left_since was.notes.last.moment file → ∥ StandsFor was.shape (operations was.notes.last.bytes) file ⊎ ((now.on ≡ false) × Reopens now file) ∥₁
  pub one_before : (first was : Chart) → IsSynced first → IsSynced was → IsBefore first now → IsLast was now → (file : List ℕ) → left_since first.notes.last.moment file → ∥ Reopens first file ⊎ (Reopens was file ⊎ ((now.on ≡ false) × Reopens now file)) ∥₁

pub lawful_disk : (notes : Notes) (s : State) → IsBoard s → IsBoard (with_notes s notes)
lawful_disk notes s is = record { shape = is.shape; sram = is.sram; rows = is.rows; pages = is.pages; words = is.words; erases = is.erases }
