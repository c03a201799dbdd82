-- A file in which no memory began: what a crash leaves of it.
use Rattle.std.proofs.Common.{◌≡◌, ◌⊎◌, ◌∙◌, ◌≤◌, inl, inr, ⊎_elim, ℕ, Bool, List, false, Err, Ok, refl, sym, ap, subst, arith}
use Rattle.std.specs.Prelude.{IfErr, Result}
use Rattle.std.proofs.Math.Logic.{∥∥₁_map}
use Rattle.envy_base.specs.State.{Notes, SyncNote, State}
use Rattle.envy_base.specs.declared.board.Off.{Off}
use Rattle.envy_base.specs.declared.shape.Shape.{Shape}
use Rattle.envy_begun.specs.Left.{KeepsWords, Leaves, OpensAlike, Stays, StaysWritten}
use Rattle.envy_begun.specs.Plans.{IsOpened}
use Rattle.envy_begun.specs.declared.file_contents.FileContents.{FileContents}
use Rattle.envy_begun.specs.declared.open_fault.OpenFault.{OpenFault}
use Rattle.envy_begun.specs.declared.open_fault.OpenFault.TheVariants.{Damaged, Failed, Memory, NoJournal, NotMade, Setup, OtherVersion, OtherSizes, Options}
use Rattle.envy_begun.proofs.Again.{SaysAttach, attach-same, err_on}
use Rattle.envy_begun.specs.Beginning.{IsStopped}
use Rattle.envy_begun.specs.Unserved.{Refrains}
use Rattle.envy_memory.specs.Attaching.{Declines as AttachDeclines}
use Rattle.envy_memory.specs.declared.faults.AttachFault.{AttachFault}
use Rattle.envy_memory.specs.declared.faults.AttachFault.TheVariants.{Off as AttachOff}
use Rattle.envy_device.specs.Device.{Elapses, LeavesOnly, Only}
use Rattle.envy_disk.specs.Disk.{Syncs}
use Rattle.envy_journal.specs.Content.{Content, content_of, holds}
use Rattle.envy_journal.specs.Head.{HasHead, StandsFor}
use Rattle.envy_journal.specs.Reading.{operations}
use Rattle.envy_journal.specs.declared.operation.Operation.{Operation}
use Rattle.envy_soundness.specs.Same.{Counted, Kept}
use Rattle.envy_map.specs.Fields.{Chart, Fields, chart, map_fields}
use Rattle.envy_policy.specs.declared.setup.Setup.{Setup as OfSetup}
use Rattle.envy_synced.proofs.Reopened.{same_fields, same_sound, same_words}
use Rattle.envy_synced.specs.Disk.{CrashLeaves, IsLast, IsSynced, Reopens}

module _ {D : Type 0} (left_since : D → ℕ → List ℕ → Type 0) (moment : D → ℕ) where
  -- each such file is another such file
  pub leaves-as : (device : D) (Such Other : List ℕ → Type 0) → ((file : List ℕ) → Such file → Other file) → Leaves left_since moment device Such → Leaves left_since moment device Other
  leaves-as device Such Other goes l = record { since = l.since; before = l.before; each = λ file left. ∥∥₁_map (l.each file left) (λ such. goes file such) }

  -- a call that leaves nothing else
  pub leaves-on : (old new : D) (Such : List ℕ → Type 0) → moment old ≤ moment new → ((t : ℕ) (file : List ℕ) → t ≤ moment old → left_since new t file → left_since old t file) → Leaves left_since moment old Such → Leaves left_since moment new Such
  leaves-on old new Such later only l = record { since = l.since; before = omega (arith, later, l.before); each = λ file left. l.each file (only l.since file l.before left) }

  pub leaves-only : (old new : D) (Such : List ℕ → Type 0) → LeavesOnly moment left_since old new Such → Leaves left_since moment new Such
  leaves-only old new Such only = record { since = moment old; before = only.later; each = λ file left. ∣ only.each file left ∣₁ }

-- a call behind which a crash leaves nothing that it might not have left before
pub no-more : {D : Type 0} (may_leave : D → List ℕ → Type 0) (moment : D → ℕ) (left_since : D → ℕ → List ℕ → Type 0) (old new : D)
    → Elapses (moment old) (moment new) (left_since old) (left_since new) (may_leave new) → ((c : List ℕ) → may_leave new c → may_leave old c) → ((t : ℕ) (c : List ℕ) → t ≤ moment old → may_leave old c → left_since old t c)
    → (t : ℕ) (c : List ℕ) → t ≤ moment old → left_since new t c → left_since old t c
no-more may_leave moment left_since old new time crash now t c early left = ⊎_elim (λ past. past) (λ may. now t c early (crash c may)) (time.nothing_else t c early left)

-- what is left, by what a file held
pub all-stays : {M D : Type 0} (left_since : D → ℕ → List ℕ → Type 0) (moment : D → ℕ) (sh : Shape) (was : List ℕ) (holding held : FileContents) (result : Result M (OpenFault × D)) (Such : OpenFault → List ℕ → Type 0)
    → holding ≡ held → ((open_fault : OpenFault) (file : List ℕ) → Such open_fault file → Stays held open_fault sh was file)
    → IfErr result (λ e. Leaves left_since moment e.1 (Such e.0)) → IfErr result (λ e. Leaves left_since moment e.1 (Stays holding e.0 sh was))
all-stays left_since moment sh was holding held result Such is goes left =
    err_on result left (λ e l. subst (λ (h : FileContents). Leaves left_since moment e.1 (Stays h e.0 sh was)) (sym is) (leaves-as left_since moment e.1 (Such e.0) (Stays held e.0 sh was) (goes e.0) l))

pub stands-alike : (sh : Shape) (was file : List ℕ) → StandsFor sh (operations was) file → OpensAlike sh was file
stands-alike sh was file stands = record {
  head = stands.head;
  fields = ap (λ (p : List Operation). map_fields sh (holds sh p).sram) stands.reads;
  flash = ap (λ (p : List Operation). (holds sh p).flash) stands.reads;
  ends = stands.ends;
}

reopens-alike : (sh : Shape) (was : List ℕ) (s : State) → IsOpened sh was s → (file : List ℕ) → Reopens (chart s) file → OpensAlike sh was file
reopens-alike sh was s o file r = record {
  head = subst (λ (x : Shape). HasHead x file) o.shape r.head;
  fields = subst (λ (x : Shape). map_fields x (holds x (operations file)).sram ≡ map_fields x s.sram) o.shape r.fields ∙ ap (λ (y : Content). map_fields sh y.sram) o.content;
  flash = subst (λ (x : Shape). (holds x (operations file)).flash ≡ s.flash) o.shape r.flash ∙ ap (λ (y : Content). y.flash) o.content;
  ends = r.ends;
}

-- a file on which no call was made
pub leaves-still : {D : Type 0} (may_leave : D → List ℕ → Type 0) (left_since : D → ℕ → List ℕ → Type 0) (moment : D → ℕ) (device : D) (was : List ℕ) → Only was (may_leave device) → ((c : List ℕ) → left_since device (moment device) c → may_leave device c)
    → (Such : List ℕ → Type 0) → ((file : List ℕ) → file ≡ was → Such file) → Leaves left_since moment device Such
leaves-still may_leave left_since moment device was only now Such same = record { since = moment device; before = omega arith; each = λ file left. ∣ same file (only file (now file left)) ∣₁ }

pub still-written : (Reason : Type 0) (sh : Shape) (was : List ℕ) (open_fault : OpenFault) → Refrains Reason was open_fault → (file : List ℕ) → file ≡ was → StaysWritten open_fault sh was file
still-written Reason sh was NoJournal r file same = same
still-written Reason sh was (Damaged place) r file same = same
still-written Reason sh was Memory r file same = inl same
still-written Reason sh was NotMade r file same = absurd r
still-written Reason sh was (Setup fault) r file same = absurd r
still-written Reason sh was OtherVersion r file same = absurd r
still-written Reason sh was OtherSizes r file same = absurd r
still-written Reason sh was (Options fault) r file same = absurd r
still-written Reason sh was (Failed held) r file same = absurd r

-- where a file is alike it is so also where less is said
module _ {D : Type 0} (seen : D → List ℕ) (has_failed : D → Bool) (device : D) where
  pub alike-stays : (sh : Shape) (was : List ℕ) (open_fault : OpenFault) → IsStopped seen has_failed open_fault device → (file : List ℕ) → OpensAlike sh was file → StaysWritten open_fault sh was file
  alike-stays sh was (Failed held) stopped file alike = inl alike
  alike-stays sh was Memory stopped file alike = inr alike
  alike-stays sh was NotMade stopped file alike = inr alike
  alike-stays sh was (Setup fault) stopped file alike = absurd stopped
  alike-stays sh was NoJournal stopped file alike = absurd stopped
  alike-stays sh was OtherVersion stopped file alike = absurd stopped
  alike-stays sh was OtherSizes stopped file alike = absurd stopped
  alike-stays sh was (Options fault) stopped file alike = absurd stopped
  alike-stays sh was (Damaged place) stopped file alike = absurd stopped

-- a sync that failed leaves a board on which the same operations were done
module _ (T : Type 0) (s t : State) (off : Off) where
  pub fails-opened : (sh : Shape) (was : List ℕ) → Syncs {T = T} s (Err off) t → IsOpened sh was s → IsOpened sh was t
  fails-opened sh was (inl (dark, is)) o = subst (λ (x : State). IsOpened sh was x) (sym is) o
  fails-opened sh was (inr (on, is)) o = subst (λ (x : State). IsOpened sh was x) (sym is) (record { head = o.head; shape = o.shape; content = o.content; ends = o.ends })

  pub fails-last : Syncs {T = T} s (Err off) t → IsLast (chart s) (chart t)
  fails-last (inl (dark, is)) = subst (λ (x : State). IsLast (chart s) (chart x)) (sym is) (record { shape = refl; sync = refl })
  fails-last (inr (on, is)) = subst (λ (x : State). IsLast (chart s) (chart x)) (sym is) (record { shape = refl; sync = refl })

-- and one that succeeded too
pub synced-opened : {T : Type 0} (s t : State) (made : T) (sh : Shape) (was : List ℕ) → Syncs {T = T} s (Ok made) t → IsOpened sh was s → IsOpened sh was t
synced-opened s t made sh was (on, sync, is) o = subst (λ (x : State). IsOpened sh was x) (sym is) (record { head = o.head; shape = o.shape; content = o.content; ends = o.ends })

-- the words that the file that was there opens as are found on a board that a restart began to take up
kept-words : (sh : Shape) (was : List ℕ) (s t : State) → IsOpened sh was s → Kept (chart s) (chart t) → (file : List ℕ) → Reopens (chart t) file → KeepsWords sh was file
kept-words sh was s t o kept file r words opens =
    let here : content_of s ≡ holds s.shape (operations was) = o.content ∙ ap (λ (x : Shape). holds x (operations was)) (sym o.shape) in
    let shape : t.shape ≡ sh = kept.shape ∙ o.shape in
    record {
      head = subst (λ (x : Shape). HasHead x file) shape r.head;
      finds = λ x is content. same_words (chart t) x file r (is ∙ sym shape) content ∙ kept.durable ∙ opens.finds s o.shape here;
      magic = λ x is content. ap (λ (f : Fields). f.magic) (same_fields (chart t) x file r (is ∙ sym shape) content) ∙ kept.magic ∙ opens.magic s o.shape here;
      sound = λ x is content. same_sound (chart t) x file r (is ∙ sym shape) content kept.sound;
      ends = r.ends;
    }

module _ {D : Type 0} (left_since : D → ℕ → List ℕ → Type 0) (moment : D → ℕ) (sh : Shape) (was : List ℕ) (device : D) (s t : State) (o : IsOpened sh was s) (synced : IsSynced (chart s))
    (crash : CrashLeaves (left_since device) (moment device) (chart t)) where
  -- a journal that was opened and closed again
  leaves-such : (Such : List ℕ → Type 0) → IsLast (chart s) (chart t) → ((file : List ℕ) → OpensAlike sh was file → Such file) → ((file : List ℕ) → Reopens (chart t) file → Such file) → Leaves left_since moment device Such
  leaves-such Such l alike now = record {
    since = s.notes.last.moment;
    before = (let same : t.notes.last.moment ≡ s.notes.last.moment = ap (λ (y : SyncNote). y.moment) l.sync in omega (arith, crash.time, same));
    each = λ file left. ∥∥₁_map (crash.last (chart s) synced l file left) (λ e. either file e);
  }
    where
      either : (file : List ℕ) → Reopens (chart s) file ⊎ ((t.on ≡ false) × Reopens (chart t) file) → Such file
      either file (inl r) = alike file (reopens-alike sh was s o file r)
      either file (inr (off, r)) = now file r

  pub leaves-alike : IsOpened sh was t → IsLast (chart s) (chart t) → Leaves left_since moment device (OpensAlike sh was)
  leaves-alike then l = leaves-such (OpensAlike sh was) l (λ file alike. alike) (λ file r. reopens-alike sh was t then file r)

  -- power failed while a memory was attached
  pub off-leaves : (setup : OfSetup) (held : ℕ) → AttachDeclines s setup AttachOff t → Leaves left_since moment device (StaysWritten (Failed held) sh was)
  off-leaves setup held (off, inl (dark, is)) =
      leaves-such (StaysWritten (Failed held) sh was) (subst (λ (x : State). IsLast (chart s) (chart x)) (sym is) (record { shape = refl; sync = refl }))
      (λ file alike. inl alike) (λ file r. inl (reopens-alike sh was s o file (subst (λ (x : State). Reopens (chart x) file) is r)))
  off-leaves setup held (off, inr (may, kept, cuts)) =
      let counted : Counted 0 0 (chart s) (chart t) = kept.counted in
      leaves-such (StaysWritten (Failed held) sh was) (record { shape = sym kept.shape; sync = ap (λ (n : Notes). n.last) counted.notes })
      (λ file alike. inl alike) (λ file r. inr (kept-words sh was s t o kept file r))

  -- a memory wasn't attached, by the fault
  pub fault-leaves : (seen : D → List ℕ) (has_failed : D → Bool) (setup : OfSetup) (new : D) (open_fault : OpenFault) (fault : AttachFault) (held : ℕ) → AttachDeclines s setup fault t → SaysAttach seen has_failed device new open_fault fault held
      → moment device ≤ moment new → ((n : ℕ) (file : List ℕ) → n ≤ moment device → left_since new n file → left_since device n file) → Leaves left_since moment new (StaysWritten open_fault sh was)
  fault-leaves seen has_failed setup new open_fault fault held d says later only = leaves-on left_since moment device new (StaysWritten open_fault sh was) later only (go says)
    where
      lit : IsStopped seen has_failed open_fault new → (fault ≡ AttachOff → ⊥) → Leaves left_since moment device (StaysWritten open_fault sh was)
      lit stopped on =
          let same = attach-same fault s t setup on d in
          leaves-as left_since moment device (OpensAlike sh was) (StaysWritten open_fault sh was) (alike-stays seen has_failed new sh was open_fault stopped)
          (leaves-alike (subst (λ (x : State). IsOpened sh was x) (sym same) o) (subst (λ (x : State). IsLast (chart s) (chart x)) (sym same) (record { shape = refl; sync = refl })))

      go : SaysAttach seen has_failed device new open_fault fault held → Leaves left_since moment device (StaysWritten open_fault sh was)
      go (inl (off, why, goes)) = subst (λ (u : OpenFault). Leaves left_since moment device (StaysWritten u sh was)) (sym why) (off-leaves setup held (subst (λ (x : AttachFault). AttachDeclines s setup x t) off d))
      go (inr (on, stopped)) = lit stopped on
