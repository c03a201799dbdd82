-- A log behind a sync, whether it was compacted or not.
use Rattle.std.proofs.Common.{◌≡◌, ◌⊎◌, ⊎_elim, inl, inr, ℕ, ◌+◌, ◌≤◌, Bool, false, List, [], ◌∷◌, ◌++◌, length, take, refl, sym, ◌∙◌, ap, subst}
use Rattle.envy_base.specs.State.{State}
use Rattle.envy_device.specs.Device.{LeavesOnly}
use Rattle.envy_journal.specs.declared.operation.Operation.{Operation}
use Rattle.envy_journal.specs.declared.log.Log.{Log}
use Rattle.envy_journal.specs.Content.{holds}
use Rattle.envy_journal.specs.Head.{StandsFor}
use Rattle.envy_journal.specs.Journal.{IsAllKept, IsAtRest, IsFileOf, IsLogged, StandsSince, kept, done}
use Rattle.envy_journal.specs.Log.{Begins, IsBeforeOrAfter, kept_bytes, held_bytes}
use Rattle.envy_journal.specs.Reading.{operations, Leads}
use Rattle.envy_journal.proofs.Logged.{crash_kept, crash_synced, stands_tied}
use Rattle.envy_journal.proofs.Moments.{widened}
use Rattle.envy_journal.proofs.Settled.{logged_begun, done_begun, held_begun}

module _ {D : Type 0} (seen : D → List ℕ) (may_leave : D → List ℕ → Type 0) (left_since : D → ℕ → List ℕ → Type 0) (last : D → ℕ) (log : Log D) (s : State) (is : IsLogged seen may_leave left_since last log s) where
  -- a file of all operations is one of what the board holds
  all_file : (c : List ℕ) → StandsFor s.shape (done seen log) c → IsFileOf s c
  all_file c stands = record { head = stands.head; content = is.content ∙ ap (λ (p : List Operation). holds s.shape p) (sym stands.reads); ends = stands.ends }

  module _ (moment : D → ℕ) (device : D) where
    -- the log was synced
    module _ (only : LeavesOnly moment left_since log.device device (IsBeforeOrAfter (kept_bytes seen log) (held_bytes seen log))) where
      -- a crash while the second file is made leaves the old file or the whole new one
      pub crash_file : LeavesOnly moment left_since log.device device (λ c. StandsFor s.shape (kept seen log) c ⊎ IsFileOf s c)
      crash_file =
          widened moment left_since log.device device (IsBeforeOrAfter (kept_bytes seen log) (held_bytes seen log)) (λ c. StandsFor s.shape (kept seen log) c ⊎ IsFileOf s c) only
          (λ c left. ⊎_elim (λ was. inl was) (λ now. inr (all_file c now)) (crash_synced seen may_leave left_since last log s is c left))

      -- so it stands for what was kept or for all that was done
      pub crash_all : (now : List Operation) → now ≡ done seen log → LeavesOnly moment left_since log.device device (λ c. StandsFor s.shape (kept seen log) c ⊎ StandsFor s.shape now c)
      crash_all now same =
          subst (λ (p : List Operation). LeavesOnly moment left_since log.device device (λ c. StandsFor s.shape (kept seen log) c ⊎ StandsFor s.shape p c)) (sym same)
          (widened moment left_since log.device device (IsBeforeOrAfter (kept_bytes seen log) (held_bytes seen log)) (λ c. StandsFor s.shape (kept seen log) c ⊎ StandsFor s.shape (done seen log) c) only
          (crash_synced seen may_leave left_since last log s is))

    -- it was compacted
    pub crash_compacted : LeavesOnly moment left_since log.device device (λ c. may_leave log.device c ⊎ IsFileOf s c) → LeavesOnly moment left_since log.device device (λ c. StandsFor s.shape (kept seen log) c ⊎ IsFileOf s c)
    crash_compacted only =
        let sound = is.sound in
        widened moment left_since log.device device (λ c. may_leave log.device c ⊎ IsFileOf s c) (λ c. StandsFor s.shape (kept seen log) c ⊎ IsFileOf s c) only
        (λ c left. ⊎_elim (λ was. inl (crash_kept seen may_leave left_since last log s is c (sound.durable c was))) (λ now. inr now) left)

  -- the log behind it
  module _ (moment : D → ℕ) (new : Log D) (rest : IsAtRest seen may_leave moment last new.device new.gate) (end : new.end ≡ new.gate + 1) (used : new.used ≡ 0)
      (leads : Leads false 33 (take new.gate (seen new.device)) (operations (take new.gate (seen new.device))) false) (file : IsFileOf s (take new.gate (seen new.device))) (size : length (seen new.device) ≡ new.size)
      (now_only : (c : List ℕ) → left_since new.device (moment new.device) c → may_leave new.device c) (room : length new.buffer.items ≡ length log.buffer.items) where
    abbrev p : List Operation
    p = operations (take new.gate (seen new.device))

    enough : 263 ≤ length new.buffer.items
    enough = subst (λ (n : ℕ). 263 ≤ n) (sym room) is.room

    -- behind a compaction the log stands for the board again
    pub logged_compacted : IsLogged seen may_leave left_since last new s
    logged_compacted = logged_begun seen may_leave left_since moment last new p rest end used leads now_only enough size s file.content file.head

    -- each crash since leaves a file that stands for it
    pub stands_compacted : StandsSince seen left_since last new s
    stands_compacted =
        let sound = logged_compacted.sound in
        stands_tied seen may_leave left_since last new s logged_compacted new s refl refl sound.tied

    -- a compaction keeps all that was done
    pub kept_compacted : (was_dead dead : Bool) → was_dead ≡ false → dead ≡ false → IsAllKept seen s.shape was_dead dead log new
    kept_compacted was_dead dead alive still = record {
      alive = alive;
      still_alive = still;
      none_held = held_begun seen may_leave left_since moment last new p rest end used leads now_only enough;
      all = done_begun seen may_leave left_since moment last new p rest end used leads now_only enough;
      same = sym file.content ∙ is.content;
    }

    -- each crash of it leaves what was kept before or what is kept now
    pub crash_kept_now : LeavesOnly moment left_since log.device new.device (λ c. may_leave log.device c ⊎ c ≡ seen new.device) → LeavesOnly moment left_since log.device new.device (λ c. StandsFor s.shape (kept seen log) c ⊎ StandsFor s.shape (kept seen new) c)
    crash_kept_now only =
        let sound = is.sound in
        let now_sound = logged_compacted.sound in
        widened moment left_since log.device new.device (λ c. may_leave log.device c ⊎ c ≡ seen new.device) (λ c. StandsFor s.shape (kept seen log) c ⊎ StandsFor s.shape (kept seen new) c) only
        (λ c left. ⊎_elim (λ was. inl (crash_kept seen may_leave left_since last log s is c (sound.durable c was)))
        (λ now. inr (crash_kept seen may_leave left_since last new s logged_compacted c (subst (λ (l : List ℕ). Begins (kept_bytes seen new ++ 0 ∷ []) l) (sym now) now_sound.closed))) left)
