-- What the notes of a kept board tell.
use Rattle.std.proofs.Common.{◌≡◌, ◌⊎◌, ◌∙◌, ◌<◌, ◌≤◌, inl, inr, ℕ, List, false, length, refl, sym, ap, subst, arith}
use Rattle.std.proofs.Math.Logic.{∥∥₁_map}
use Rattle.std.proofs.lemmas.List.{length-take}
use Rattle.envy_base.specs.declared.shape.Shape.{Shape}
use Rattle.envy_base.specs.State.{State, SyncNote}
use Rattle.envy_map.specs.Fields.{Chart, chart, map_fields}
use Rattle.envy_journal.specs.declared.log.Log.{Log}
use Rattle.envy_journal.specs.declared.operation.Operation.{Operation}
use Rattle.envy_journal.specs.Content.{Content, content_of, holds}
use Rattle.envy_journal.specs.Head.{HasHead, StandsFor}
use Rattle.envy_journal.specs.Journal.{IsFileOf, kept}
use Rattle.envy_journal.specs.Log.{kept_bytes}
use Rattle.envy_journal.specs.Reading.{operations}
use Rattle.envy_journal.specs.Snapshot.{most_of}
use Rattle.envy_synced.specs.Disk.{CrashLeaves, disk_state, Ends, IsKept, Reopens, IsCompact, IsSynced, IsLast, IsBefore}

-- the operations that a sync brought to the disk open as the board was
reopens_synced : (was : Chart) (sh : Shape) (bytes file : List ℕ) → IsSynced was → was.shape ≡ sh → bytes ≡ was.notes.last.bytes → StandsFor sh (operations bytes) file → Reopens was file
reopens_synced was sh bytes file is shape brought stands =
    let same : operations file ≡ operations was.notes.last.bytes = stands.reads ∙ ap operations brought in
    record {
      head = subst (λ (x : Shape). HasHead x file) (sym shape) stands.head;
      fields = ap (λ (p : List Operation). map_fields was.shape (holds was.shape p).sram) same ∙ is.fields;
      flash = ap (λ (p : List Operation). (holds was.shape p).flash) same ∙ is.flash;
      ends = stands.ends;
    }

reopens_now : (s t : State) (file : List ℕ) → IsFileOf s file → t.shape ≡ s.shape → content_of t ≡ content_of s → Reopens (chart t) file
reopens_now s t file is shape content = record {
  head = subst (λ (x : Shape). HasHead x file) (sym shape) is.head;
  fields = subst (λ (x : Shape). map_fields x (holds x (operations file)).sram ≡ map_fields x t.sram) (sym shape) (ap (λ (x : Content). map_fields s.shape x.sram) (sym (content ∙ is.content)));
  flash = subst (λ (x : Shape). (holds x (operations file)).flash ≡ t.flash) (sym shape) (ap (λ (x : Content). x.flash) (sym (content ∙ is.content)));
  ends = is.ends;
}

-- a board just behind a compaction
pub compact_now : {D : Type 0} (seen : D → List ℕ) (moment hindered : D → ℕ) (log before : Log D) (s : State) → length (seen log.device) ≤ most_of s.shape → IsCompact (chart (disk_state seen moment hindered log before s))
compact_now seen moment hindered log before s short = let few = length-take log.gate (seen log.device) in omega (arith, few, short)

-- a board just behind a sync
pub synced_now : {D : Type 0} (seen : D → List ℕ) (moment hindered : D → ℕ) (log before : Log D) (s : State) → content_of s ≡ holds s.shape (kept seen log) → IsSynced (chart (disk_state seen moment hindered log before s))
synced_now seen moment hindered log before s content = record {
  fields = ap (λ (x : Content). map_fields s.shape x.sram) (sym content);
  flash = ap (λ (x : Content). x.flash) (sym content);
}

module _ {D : Type 0} (seen : D → List ℕ) (moment hindered : D → ℕ) (left_since : D → ℕ → List ℕ → Type 0) (now was before : Log D) (s : State) (is : IsKept seen moment hindered left_since now was before s) where
  abbrev told : State
  told = disk_state seen moment hindered was before s

  told_ends : (c : Chart) (file : List ℕ) → IsSynced c → IsLast c (chart told) → Ends s (kept seen was) file → Reopens c file ⊎ ((told.on ≡ false) × Reopens (chart told) file)
  told_ends c file good last (inl stands) = inl (reopens_synced c s.shape (kept_bytes seen was) file good last.shape (ap (λ (y : SyncNote). y.bytes) last.sync) stands)
  told_ends c file good last (inr (off, holding)) = inr (off, reopens_now s told file holding refl refl)

  -- a crash since the last sync leaves a file that reopens to what was synced then
  told_last : (c : Chart) (file : List ℕ) → IsSynced c → IsLast c (chart told) → left_since now.device c.notes.last.moment file → ∥ Reopens c file ⊎ ((told.on ≡ false) × Reopens (chart told) file) ∥₁
  told_last c file good last left = ∥∥₁_map (is.each file (subst (λ (t : ℕ). left_since now.device t file) (ap (λ (y : SyncNote). y.moment) (sym last.sync)) left)) (λ e. told_ends c file good last e)

  told_stands : (c : Chart) (file : List ℕ) → IsLast c (chart told) → Ends s (kept seen was) file → StandsFor c.shape (operations c.notes.last.bytes) file ⊎ ((told.on ≡ false) × Reopens (chart told) file)
  told_stands c file last (inl stands) =
      inl (subst (λ (sh : Shape). StandsFor sh (operations c.notes.last.bytes) file) (sym last.shape)
      (subst (λ (p : List Operation). StandsFor s.shape p file) (ap (λ (y : SyncNote). operations y.bytes) last.sync) stands))
  told_stands c file last (inr (off, holding)) = inr (off, reopens_now s told file holding refl refl)

  -- it has the operations that were on the disk then
  told_reads : (c : Chart) (file : List ℕ) → IsLast c (chart told) → left_since now.device c.notes.last.moment file → ∥ StandsFor c.shape (operations c.notes.last.bytes) file ⊎ ((told.on ≡ false) × Reopens (chart told) file) ∥₁
  told_reads c file last left = ∥∥₁_map (is.each file (subst (λ (t : ℕ). left_since now.device t file) (ap (λ (y : SyncNote). y.moment) (sym last.sync)) left)) (λ e. told_stands c file last e)

  told_either : (b c : Chart) (file : List ℕ) → IsSynced b → IsSynced c → IsBefore b (chart told) → IsLast c (chart told) → StandsFor s.shape (kept seen before) file ⊎ Ends s (kept seen was) file → Reopens b file ⊎ (Reopens c file ⊎ ((told.on ≡ false) × Reopens (chart told) file))
  told_either b c file fine good first last (inl stands) = inl (reopens_synced b s.shape (kept_bytes seen before) file fine first.shape (ap (λ (y : SyncNote). y.bytes) first.sync) stands)
  told_either b c file fine good first last (inr ends) = inr (told_ends c file good last ends)

  -- a crash since the sync before leaves one of the last two
  told_before : (b c : Chart) (file : List ℕ) → IsSynced b → IsSynced c → IsBefore b (chart told) → IsLast c (chart told) → left_since now.device b.notes.last.moment file → ∥ Reopens b file ⊎ (Reopens c file ⊎ ((told.on ≡ false) × Reopens (chart told) file)) ∥₁
  told_before b c file fine good first last left = ∥∥₁_map (is.since file (subst (λ (t : ℕ). left_since now.device t file) (ap (λ (y : SyncNote). y.moment) (sym first.sync)) left)) (λ e. told_either b c file fine good first last e)

  pub crash_leaves : CrashLeaves (left_since now.device) (moment now.device) (chart told)
  crash_leaves = record {
    time = is.later;
    last = λ was good last file left. told_last was file good last left;
    reads = λ was last file left. told_reads was file last left;
    one_before = λ first was fine good one last file left. told_before first was file fine good one last left;
  }
