-- What is held, made anew: each segment is erased, each row programmed that isn't blank, and each word put.
use Rattle.std.specs.Prelude.{◌≡◌, ℕ, ◌+◌, ◌-◌, ◌<◌, ◌≤◌, Bool, List, [], ◌∷◌, ◌++◌, length, slice_index_or}
use Rattle.envy_base.specs.State.{State, ones, row_of}
use Rattle.envy_device.specs.Device.{LeavesOnly}
use Rattle.envy_journal.specs.declared.log.Log.{Log}
use Rattle.envy_journal.specs.Journal.{IsLogged}
use Rattle.envy_journal.specs.Log.{Begins, IsCounted, IsTied, kept_bytes, held_bytes}

-- how many bytes of what is held are in the file
abbrev pub spilled : {D : Type 0} → Log D → ℕ
spilled log = log.end - (log.gate + 1)

-- a board of these sizes whose first rows are erased, of which the first are as in s, with the first words as in s
pub record IsPart (s : State) (erased rows words : ℕ) (t : State) : Type 0 where
  pub shape : t.shape ≡ s.shape
  pub flash : length t.flash ≡ length s.flash
  pub sram : length t.sram ≡ length s.sram
  pub programmed : (q : ℕ) → q < rows → row_of t q ≡ row_of s q
  pub blank : (q : ℕ) → rows ≤ q → q < erased → row_of t q ≡ ones
  pub put : (w : ℕ) → w < words → slice_index_or t.sram w 0 ≡ slice_index_or s.sram w 0

-- a log of such a board that holds so many bytes at most
pub record Remakes {D : Type 0} (seen : D → List ℕ) (may_leave : D → List ℕ → Type 0) (left_since : D → ℕ → List ℕ → Type 0) (synced : D → ℕ) (bytewise : D → Bool) (s : State) (erased rows words most : ℕ) (log : Log D) : Type 0 where
  pub board : State
  pub part : IsPart s erased rows words board
  pub logged : IsLogged seen may_leave left_since synced log board
  pub counted : IsCounted seen may_leave bytewise log
  pub size : length (held_bytes seen log) ≤ most

-- what is kept stays, also in each file that a crash leaves meanwhile or has left since the last sync
pub record StaysKept {D : Type 0} (seen : D → List ℕ) (moment : D → ℕ) (left_since : D → ℕ → List ℕ → Type 0) (synced : D → ℕ) (old new : Log D) : Type 0 where
  pub kept : kept_bytes seen new ≡ kept_bytes seen old
  pub tied : IsTied seen left_since synced new
  pub moments : LeavesOnly moment left_since old.device new.device (Begins (kept_bytes seen old ++ 0 ∷ []))
