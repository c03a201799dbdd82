-- A journal that is opened again, and a memory that is attached to its board.
use Rattle.std.proofs.Common.{◌≡◌, ◌≢◌, ◌⊎◌, ◌∙◌, ◌≤◌, inl, inr, ℕ, Bool, true, false, List, length, refl, sym, ap, subst, arith}
use Rattle.std.specs.Prelude.{IsTrue, IfOk, IfErr, Result, Ok, Err}
use Rattle.std.proofs.lemmas.Bool.{false≢true}
use Rattle.envy_audit.specs.Judging.{BreaksFirst}
use Rattle.envy_audit.proofs.Sounding.{sound-points}
use Rattle.envy_base.specs.Shape.{version_of}
use Rattle.envy_base.specs.State.{Notes, IsBoard, State}
use Rattle.envy_base.proofs.Versions.{version-known}
use Rattle.envy_base.specs.declared.shape.Shape.{Shape}
use Rattle.envy_array.proofs.Undoing.{undo_all-closed}
use Rattle.envy_begun.specs.Beginning.{HasBegun, HasOperationsOf, HasStopped, IsStopped}
use Rattle.envy_begun.specs.Opens.{OpensAs}
use Rattle.envy_begun.specs.Plans.{BeginsOn, IsOpened}
use Rattle.envy_begun.specs.Unserved.{Declines, HasNoWords, Refrains}
use Rattle.envy_begun.specs.declared.file_contents.FileContents.TheVariants.{Written}
use Rattle.envy_begun.specs.declared.open_fault.OpenFault.{OpenFault}
use Rattle.envy_begun.specs.declared.open_fault.OpenFault.TheVariants.{Damaged, Failed, Memory, NoJournal}
use Rattle.envy_begun.proofs.Opening.{IsGood, opens-as}
use Rattle.envy_calls.specs.Making.{Forbids, IsWhole}
use Rattle.envy_calls.specs.declared.code.Code.{Code}
use Rattle.envy_calls.specs.declared.code.Code.TheVariants.{NoMemory, Unformatted, Older, OtherShape, Setup as OfSetup, Broken}
use Rattle.envy_disk.specs.Disk.{with_notes}
use Rattle.envy_journal.specs.Content.{Content, HasMisfit, content_of, holds}
use Rattle.envy_journal.specs.Head.{HasHead}
use Rattle.envy_journal.specs.Journal.{journal_state}
use Rattle.envy_journal.specs.Reading.{operations}
use Rattle.envy_journal.specs.Snapshot.{most_of}
use Rattle.envy_journal.specs.declared.open_error.OpenError.{OpenError}
use Rattle.envy_journal.specs.declared.open_error.OpenError.TheVariants.{Failed as OpenFailed}
use Rattle.envy_synced.specs.Disk.{IsCompact, IsSynced, Reopens}
use Rattle.envy_soundness.specs.Same.{Kept}
use Rattle.envy_soundness.specs.Sound.{Head, IsSound, Sound}
use Rattle.envy_meaning.specs.Stands.{Stands}
use Rattle.envy_soundness.specs.Words.{durable}
use Rattle.envy_map.specs.Codes.{the_magic}
use Rattle.envy_map.specs.Fields.{Chart, chart, map_fields, shape_of}
use Rattle.envy_memory.proofs.AttachLemmas.{formatted-sound, kept-shape}
use Rattle.envy_memory.specs.Attaching.{Attaches, Declines as AttachDeclines}
use Rattle.envy_memory.specs.declared.faults.AttachFault.{AttachFault}
use Rattle.envy_memory.specs.declared.faults.AttachFault.TheVariants.{Off as AttachOff, Setup as AttachSetup, NotFormatted, OtherShape as AttachShape, Memory as AttachMemory}
use Rattle.envy_memory.specs.Calls.{fresh}
use Rattle.envy_memory.specs.declared.faults.FormatFault.{FormatFault}
use Rattle.envy_memory.specs.declared.faults.FormatFault.TheVariants.{Off as FormatOff}
use Rattle.envy_memory.specs.Picture.{Picture}
use Rattle.envy_policy.specs.Setup.{checked}
use Rattle.envy_policy.specs.declared.setup.Setup.{Setup}

-- a memory over a board that was compacted
pub still-compact : (was now : Chart) → now.shape ≡ was.shape → now.notes ≡ was.notes → IsCompact was → IsCompact now
still-compact was now shape notes is = subst (λ (n : Notes). length n.last.bytes ≤ most_of now.shape) (sym notes) (subst (λ (x : Shape). length was.notes.last.bytes ≤ most_of x) (sym shape) is)

-- and over one that wasn't
pub still-same : (file : List ℕ) (was now : Chart) → now.notes ≡ was.notes → HasOperationsOf file was → HasOperationsOf file now
still-same file was now notes has = ap (λ (n : Notes). operations n.last.bytes) notes ∙ has

-- no shape has version 1
never-first : (sh : Shape) → version_of sh ≡ 1 → ⊥
never-first sh one = elim (version-known sh) [ inl two ↦ absurd (let no : 1 ≡ 2 = sym one ∙ two in omega (arith, no)) | inr three ↦ absurd (let no : 1 ≡ 3 = sym one ∙ three in omega (arith, no)) ]

module _ (sh : Shape) (file : List ℕ) (s : State) (o : IsOpened sh file s) where
  here : content_of s ≡ holds s.shape (operations file)
  here = o.content ∙ ap (λ (x : Shape). holds x (operations file)) (sym o.shape)

  reopens : Reopens (chart s) file
  reopens = record {
    head = subst (λ (x : Shape). HasHead x file) (sym o.shape) o.head;
    fields = ap (λ (y : Content). map_fields s.shape y.sram) (sym here);
    flash = ap (λ (y : Content). y.flash) (sym here);
    ends = o.ends;
  }

  -- a memory was attached to the board that the operations of the file make
  pub taken-on : (setup : Setup) (p : Picture) → IsSynced (chart s) → Attaches (chart s) setup p → BeginsOn Written file p.chart
  taken-on setup p synced a =
      let kept : Kept (chart s) p.chart = Attaches.kept a in
      record {
        was = chart s;
        synced = synced;
        last = record { shape = sym kept.shape; sync = ap (λ (n : Notes). n.last) kept.counted.notes };
        comes = (reopens, Attaches.taken a);
      }

  module _ (setup : Setup) (is : sh ≡ setup.shape) where
    over : s.shape ≡ setup.shape
    over = o.shape ∙ is

    -- a memory was attached
    pub taken-up : (p : Picture) → IsSynced (chart s) → IsWhole (chart s) setup → Attaches (chart s) setup p
        → (words : List ℕ) × OpensAs setup.shape words file × HasBegun setup (fresh setup.shape.shadows words) p
    taken-up p synced whole a =
        let words = durable (chart s) in
        let kept : Kept (chart s) p.chart = Attaches.kept a in
        let good : IsGood (chart s) = record { magic = IsWhole.magic whole; version = IsWhole.version whole ∙ ap version_of (sym over); sound = IsWhole.sound whole } in (
          words,
          subst (λ (x : Shape). OpensAs x words file) over (opens-as (chart s) file good reopens),
          record {
            was = chart s;
            synced = synced;
            last = record { shape = sym kept.shape; sync = ap (λ (n : Notes). n.last) kept.counted.notes };
            magic = IsWhole.magic whole;
            version = IsGood.version good;
            sound = IsWhole.sound whole;
            words = sym (undo_all-closed 64 words);
            stands = subst (λ (x : Shape). Stands p.chart (fresh x.shadows words)) over (Attaches.stands a);
            begins = Attaches.begins a;
            shape = kept.shape ∙ over;
          },
        )

    -- a board to which none was attached is none that opens as words
    module _ (board : IsBoard s) (checks : checked setup ≡ Ok tt) (words : List ℕ) (opens : OpensAs setup.shape words file) where
      magic : (chart s).fields.magic ≡ the_magic
      magic = OpensAs.magic opens s over here

      version : (chart s).fields.version ≡ version_of setup.shape
      version = OpensAs.version opens s over here

      sound : IsSound (chart s)
      sound = OpensAs.sound opens s over here

      own : (chart s).fields.version ≡ version_of s.shape
      own = version ∙ ap version_of (sym over)

      shape : shape_of (chart s).fields ≡ setup.shape
      shape = sym (kept-shape (chart s) (shape_of (chart s).fields) (IsBoard.shape board) sound refl) ∙ over

      pub not-forbidden : (code : Code) → (code ≡ NoMemory → ⊥) → Forbids code (chart s) setup → ⊥
      not-forbidden NoMemory b alike = b refl
      not-forbidden Unformatted b never = never (formatted-sound (chart s) magic sound, (magic, inl own))
      not-forbidden Older b (m, one) = never-first s.shape (sym own ∙ one)
      not-forbidden OtherShape b (m, v, other) = other shape
      not-forbidden (Broken rule) b (alike, breaks) = BreaksFirst.fails breaks (sound-points s board sound rule)
      not-forbidden (OfSetup fault) b (whole, bad) = absurd (let never = sym checks ∙ bad in cc)
      not-forbidden other b never = absurd never

      -- the same board is whole
      pub whole-again : IsWhole (chart s) setup
      whole-again = record { magic = magic; version = version; shape = shape; sound = sound }

-- a board that was audited opens as words
pub opens-whole : (sh : Shape) (file : List ℕ) (s : State) (o : IsOpened sh file s) (setup : Setup) → sh ≡ setup.shape → IsWhole (chart s) setup → (words : List ℕ) × OpensAs setup.shape words file
opens-whole sh file s o setup is whole =
    let good : IsGood (chart s) = record { magic = IsWhole.magic whole; version = IsWhole.version whole ∙ ap version_of (sym (o.shape ∙ is)); sound = IsWhole.sound whole } in
    (durable (chart s), subst (λ (x : Shape). OpensAs x (durable (chart s)) file) (o.shape ∙ is) (opens-as (chart s) file good (reopens sh file s o)))

-- what an audit refused
pub audited-refrains : (sh : Shape) (file : List ℕ) (s : State) (o : IsOpened sh file s) (setup : Setup) (is : sh ≡ setup.shape) → IsBoard s → checked setup ≡ Ok tt → (open_fault : OpenFault)
    → (open_fault ≡ Memory) ⊎ ((open_fault ≡ NoJournal) × (code : Code) × (code ≢ NoMemory) × Forbids code (chart s) setup) → Refrains (HasNoWords setup.shape file) file open_fault
audited-refrains sh file s o setup is board checks open_fault (inl memory) = subst (λ (u : OpenFault). Refrains (HasNoWords setup.shape file) file u) (sym memory) tt
audited-refrains sh file s o setup is board checks open_fault (inr (none, code, enough, forbids)) =
    subst (λ (u : OpenFault). Refrains (HasNoWords setup.shape file) file u) (sym none) (inr (λ words opens. not-forbidden sh file s o setup is board checks words opens code enough forbids))

-- why a journal wasn't opened, or a memory attached, and the file: by what was found
module _ {D : Type 0} (seen : D → List ℕ) (has_failed : D → Bool) (old new : D) (open_fault : OpenFault) where
  abbrev pub SaysError : OpenError → Type 0
  SaysError error = ((error ≡ OpenFailed) × (open_fault ≡ Failed 0) × (new ≡ old)) ⊎ ((error ≢ OpenFailed) × IsStopped seen has_failed open_fault new)

  abbrev pub SaysAttach : AttachFault → ℕ → Type 0
  SaysAttach fault held = ((fault ≡ AttachOff) × (open_fault ≡ Failed held) × (new ≡ old)) ⊎ ((fault ≢ AttachOff) × IsStopped seen has_failed open_fault new)

  abbrev pub SaysFault : FormatFault → ℕ → Type 0
  SaysFault fault held = ((fault ≡ FormatOff) × (open_fault ≡ Failed held) × (new ≡ old)) ⊎ ((fault ≢ FormatOff) × IsStopped seen has_failed open_fault new)

  stops-as : (held : ℕ) → open_fault ≡ Failed held → new ≡ old → HasStopped seen has_failed held old → IsStopped seen has_failed open_fault new
  stops-as held why same stopped = subst (λ (u : OpenFault). IsStopped seen has_failed u new) (sym why) (subst (λ (x : D). HasStopped seen has_failed held x) (sym same) stopped)

  -- a journal wasn't made or opened
  pub unopened-stopped : (error : OpenError) → SaysError error → (error ≡ OpenFailed → IsTrue (has_failed old)) → IsStopped seen has_failed open_fault new
  unopened-stopped error (inl (is, why, same)) failed = stops-as 0 why same (omega arith, λ few. failed is)
  unopened-stopped error (inr (other, stopped)) failed = stopped

  -- a memory wasn't attached
  pub unattached-stopped : (fault : AttachFault) (held : ℕ) → SaysAttach fault held → (fault ≡ AttachOff → HasStopped seen has_failed held old) → IsStopped seen has_failed open_fault new
  unattached-stopped fault held (inl (off, why, same)) stopped = stops-as held why same (stopped off)
  unattached-stopped fault held (inr (on, is)) stopped = is

  -- a memory wasn't formatted
  pub unformatted-stopped : (fault : FormatFault) (held : ℕ) → SaysFault fault held → (fault ≡ FormatOff → HasStopped seen has_failed held old) → IsStopped seen has_failed open_fault new
  unformatted-stopped fault held (inl (off, why, same)) stopped = stops-as held why same (stopped off)
  unformatted-stopped fault held (inr (on, is)) stopped = is

pub attach-same : (fault : AttachFault) (old new : State) (setup : Setup) → (fault ≡ AttachOff → ⊥) → AttachDeclines old setup fault new → new ≡ old
attach-same AttachOff old new setup on d = absurd (on refl)
attach-same (AttachSetup rule) old new setup on d = d.2
attach-same NotFormatted old new setup on d = d.3
attach-same (AttachShape kept) old new setup on d = d.5
attach-same AttachMemory old new setup on d = d.1

pub off-attach : (fault : AttachFault) (old new : State) (setup : Setup) → fault ≡ AttachOff → AttachDeclines old setup fault new → new.on ≡ false
off-attach fault old new setup is d = (subst (λ (x : AttachFault). AttachDeclines old setup x new) is d).0

-- the state of a board that was opened
pub opened-state : (b : State) (dead : Bool) (notes : Notes) (sh : Shape) (file : List ℕ) → dead ≡ false → IsOpened sh file b → IsOpened sh file (with_notes (journal_state dead b) notes)
opened-state b true notes sh file is o = absurd (false≢true (sym is))
opened-state b false notes sh file is o = record { head = o.head; shape = o.shape; content = o.content; ends = o.ends }

-- why a journal isn't taken up
module _ {M D : Type 0} (seen : D → List ℕ) (has_failed : D → Bool) (Reason : Type 0) (file : List ℕ) (old : D) where
  pub all-declines : (result : Result M (OpenFault × D)) → IfErr result (λ e. IsStopped seen has_failed e.0 e.1) → IfErr result (λ e. Declines seen has_failed Reason file old e.0 e.1)
  all-declines (Ok memory) stopped = tt
  all-declines (Err e) stopped = inr stopped

-- a reason for another
pub refrains-for : (P Q : Type 0) (file : List ℕ) (open_fault : OpenFault) → (P → Q) → Refrains P file open_fault → Refrains Q file open_fault
refrains-for P Q file NoJournal goes r = goes r
refrains-for P Q file (Damaged place) goes r = r
refrains-for P Q file Memory goes r = r
refrains-for P Q file other goes r = absurd r

pub declines-for : {D : Type 0} (seen : D → List ℕ) (has_failed : D → Bool) (P Q : Type 0) (file : List ℕ) (old : D) (open_fault : OpenFault) (new : D) → (P → Q) → Declines seen has_failed P file old open_fault new → Declines seen has_failed Q file old open_fault new
declines-for seen has_failed P Q file old open_fault new goes (inl (r, same)) = inl (refrains-for P Q file open_fault goes r, same)
declines-for seen has_failed P Q file old open_fault new goes (inr stopped) = inr stopped

-- what holds at Ok
pub ok_on : {T E : Type 0} {P Q : T → Type 0} (result : Result T E) → IfOk result P → ((x : T) → P x → Q x) → IfOk result Q
ok_on (Ok x) is goes = goes x is
ok_on (Err e) is goes = tt

pub err_on : {T E : Type 0} {P Q : E → Type 0} (result : Result T E) → IfErr result P → ((e : E) → P e → Q e) → IfErr result Q
err_on (Ok x) is goes = tt
err_on (Err e) is goes = goes e is
