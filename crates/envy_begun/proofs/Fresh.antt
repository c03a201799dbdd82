-- What a crash leaves of a journal in which nothing was done, where no memory of zeros began.
use Rattle.std.proofs.Common.{◌≡◌, ◌⊎◌, ◌∙◌, ◌≤◌, inl, inr, ℕ, zero, suc, Bool, List, [], replicate, false, true, Err, refl, sym, ap, subst, arith}
use Rattle.std.specs.Prelude.{IsTrue, slice_index}
use Rattle.std.proofs.Math.Logic.{∥∥₁_map}
use Rattle.std.proofs.lemmas.Bool.{false≢true}
use Rattle.envy_array.specs.Array.{Array, zeros}
use Rattle.envy_base.specs.Map.{words_of}
use Rattle.envy_base.specs.State.{Notes, SyncNote, State}
use Rattle.envy_base.specs.declared.board.Off.{Off}
use Rattle.envy_base.specs.declared.shape.Shape.{Shape}
use Rattle.envy_array.proofs.Undoing.{undo_all-closed}
use Rattle.envy_begun.specs.Left.{IsUnformatted, Leaves, OpensAsZeros, StaysNew}
use Rattle.envy_begun.specs.Beginning.{IsStopped}
use Rattle.envy_begun.specs.Unserved.{Refrains}
use Rattle.envy_begun.specs.Opens.{OpensAs}
use Rattle.envy_begun.specs.declared.open_fault.OpenFault.{OpenFault}
use Rattle.envy_begun.specs.declared.open_fault.OpenFault.TheVariants.{Damaged, Failed, Memory, NoJournal, NotMade, Setup, OtherVersion, OtherSizes, Options}
use Rattle.envy_begun.proofs.Again.{SaysFault}
use Rattle.envy_begun.proofs.Alike.{leaves-as, leaves-on}
use Rattle.envy_begun.proofs.Opening.{opens-as}
use Rattle.envy_disk.specs.Disk.{SyncsChart}
use Rattle.envy_journal.specs.Content.{holds}
use Rattle.envy_journal.specs.Head.{IsNewOrUnmade, IsUnmade, StandsFor}
use Rattle.envy_journal.specs.Reading.{operations}
use Rattle.envy_journal.specs.declared.operation.Operation.{Operation}
use Rattle.envy_meaning.specs.Stands.{Holds, Stands}
use Rattle.envy_soundness.specs.Words.{durable}
use Rattle.envy_map.specs.Fields.{Chart, Fields, chart, map_fields}
use Rattle.envy_memory.specs.Formats.{CountsFormat, MayFormat, Refuses}
use Rattle.envy_memory.specs.declared.faults.FormatFault.{FormatFault}
use Rattle.envy_memory.specs.declared.faults.FormatFault.TheVariants.{Off as FormatOff, Setup as FormatSetup, OtherShape, Memory as FormatMemory, Bad}
use Rattle.envy_policy.specs.declared.setup.Setup.{Setup as OfSetup}
use Rattle.envy_synced.specs.Disk.{CrashLeaves, IsLast, IsSynced, Reopens}

-- where nothing was done in a journal it is so also where less is said
module _ {D : Type 0} (seen : D → List ℕ) (has_failed : D → Bool) (device : D) where
  pub stands-stays : (sh : Shape) (was : List ℕ) (open_fault : OpenFault) → IsStopped seen has_failed open_fault device → (file : List ℕ) → StandsFor sh [] file → StaysNew open_fault sh was file
  stands-stays sh was (Failed held) stopped file stands = inl stands
  stands-stays sh was Memory stopped file stands = inr stands
  stands-stays sh was NotMade stopped file stands = inr stands
  stands-stays sh was (Setup fault) stopped file stands = absurd stopped
  stands-stays sh was NoJournal stopped file stands = absurd stopped
  stands-stays sh was OtherVersion stopped file stands = absurd stopped
  stands-stays sh was OtherSizes stopped file stands = absurd stopped
  stands-stays sh was (Options fault) stopped file stands = absurd stopped
  stands-stays sh was (Damaged place) stopped file stands = absurd stopped

  -- what creating a journal may leave
  pub new-stays : (made sh : Shape) → made ≡ sh → (open_fault : OpenFault) → IsStopped seen has_failed open_fault device → (file : List ℕ) → IsNewOrUnmade made file → IsUnmade file ⊎ StaysNew open_fault sh [] file
  new-stays made sh is open_fault stopped file (inl unmade) = inl unmade
  new-stays made sh is open_fault stopped file (inr stands) = inr (stands-stays sh [] open_fault stopped file (subst (λ (x : Shape). StandsFor x [] file) is stands))

pub still-new : (Reason : Type 0) (sh : Shape) (was : List ℕ) (open_fault : OpenFault) → Refrains Reason was open_fault → (file : List ℕ) → file ≡ was → StaysNew open_fault sh was file
still-new Reason sh was NoJournal r file same = same
still-new Reason sh was (Damaged place) r file same = same
still-new Reason sh was Memory r file same = inl same
still-new Reason sh was NotMade r file same = absurd r
still-new Reason sh was (Setup fault) r file same = absurd r
still-new Reason sh was OtherVersion r file same = absurd r
still-new Reason sh was OtherSizes r file same = absurd r
still-new Reason sh was (Options fault) r file same = absurd r
still-new Reason sh was (Failed held) r file same = absurd r

-- power is on where formatting was refused for another reason
pub refused-on : (old new : State) (setup : OfSetup) (fault : FormatFault) → (fault ≡ FormatOff → ⊥) → Refuses old setup fault new → IsTrue new.on
refused-on old new setup FormatOff other r = absurd (other refl)
refused-on old new setup (FormatSetup rule) other (on, bad, is) = subst (λ (x : State). IsTrue x.on) (sym is) on
refused-on old new setup OtherShape other (on, checks, shape, is) = subst (λ (x : State). IsTrue x.on) (sym is) on
refused-on old new setup FormatMemory other (may, is) = subst (λ (x : State). IsTrue x.on) (sym is) (MayFormat.on may)
refused-on old new setup Bad other (may, on, clear, bads) = on

pub counts-last : (was old new : Chart) → CountsFormat old new → IsLast was old → IsLast was new
counts-last was old new c l = record { shape = l.shape ∙ sym c.shape; sync = ap (λ (n : Notes). n.last) c.counted.notes ∙ l.sync }

word-first : (sh : Shape) (sram : List ℕ) → (map_fields sh sram).magic ≡ slice_index sram 0
unfolding map_fields
word-first sh sram = refl

zero-first : (n : ℕ) → slice_index (replicate n 0) 0 ≡ 0
zero-first zero = refl
zero-first (suc n) = refl

-- a board on which nothing was done isn't formatted
blank-first : (s : State) (synced : IsSynced (chart s)) → operations s.notes.last.bytes ≡ [] → slice_index s.sram 0 ≡ 0
blank-first s synced none =
    sym (word-first s.shape s.sram)
    ∙ ap (λ (f : Fields). f.magic) (sym synced.fields)
    ∙ word-first s.shape (holds s.shape (operations s.notes.last.bytes)).sram
    ∙ ap (λ (p : List Operation). slice_index (holds s.shape p).sram 0) none
    ∙ zero-first (words_of s.shape)

unformatted : (sh : Shape) (t : State) → t.shape ≡ sh → slice_index t.sram 0 ≡ 0 → (file : List ℕ) → Reopens (chart t) file → IsUnformatted sh file
unformatted sh t is clear file r = subst (λ (x : Shape). IsUnformatted x file) is (record {
  head = r.head;
  magic = sym (word-first t.shape (holds t.shape (operations file)).sram) ∙ ap (λ (f : Fields). f.magic) r.fields ∙ word-first t.shape t.sram ∙ clear;
  ends = r.ends;
})

opens-zeros : (sh : Shape) (c : Chart) → c.shape ≡ sh → Holds c (zeros c.shape.pages c.shape.shadows) → (file : List ℕ) → Reopens c file → OpensAsZeros sh file
opens-zeros sh c is h file r =
    let none : durable c ≡ (zeros c.shape.pages c.shape.shadows).words = h.durable ∙ undo_all-closed 64 (zeros c.shape.pages c.shape.shadows).words in
    subst (λ (x : Shape). OpensAsZeros x file) is
    (subst (λ (words : List ℕ). OpensAs c.shape words file) none (opens-as c file (record { magic = h.magic; version = h.version; sound = h.sound }) r))

-- power failed while a memory was formatted
off-stays : (sh : Shape) (s t : State) (setup : OfSetup) (synced : IsSynced (chart s)) → operations s.notes.last.bytes ≡ [] → s.shape ≡ sh → t.shape ≡ s.shape → Refuses s setup FormatOff t → (file : List ℕ) → Reopens (chart t) file → OpensAsZeros sh file ⊎ IsUnformatted sh file
off-stays sh s t setup synced none is same (off, inl (dark, still)) file r = inr (unformatted sh t (same ∙ is) (ap (λ (x : State). slice_index x.sram 0) still ∙ blank-first s synced none) file r)
off-stays sh s t setup synced none is same (off, inr (may, inl clear, cuts)) file r = inr (unformatted sh t (same ∙ is) clear file r)
off-stays sh s t setup synced none is same (off, inr (may, inr (inl (flash, sram)), cuts)) file r = inr (unformatted sh t (same ∙ is) (ap (λ (xs : List ℕ). slice_index xs 0) sram ∙ blank-first s synced none) file r)
off-stays sh s t setup synced none is same (off, inr (may, inr (inr stood), cuts)) file r = inl (opens-zeros sh (chart t) (same ∙ is) stood file r)

module _ {D : Type 0} (left_since : D → ℕ → List ℕ → Type 0) (moment : D → ℕ) (sh : Shape) (device : D) (was now : Chart) (synced : IsSynced was) (none : operations was.notes.last.bytes ≡ []) (is : was.shape ≡ sh) (l : IsLast was now)
    (crash : CrashLeaves (left_since device) (moment device) now) where
  leaves-new : (Such : List ℕ → Type 0) → ((file : List ℕ) → StandsFor sh [] file → Such file) → ((file : List ℕ) → now.on ≡ false → Reopens now file → Such file) → Leaves left_since moment device Such
  leaves-new Such stands off = record {
    since = was.notes.last.moment;
    before = (let same : now.notes.last.moment ≡ was.notes.last.moment = ap (λ (y : SyncNote). y.moment) l.sync in omega (arith, crash.time, same));
    each = λ file left. ∥∥₁_map (crash.reads was l file left) (λ e. either file e);
  }
    where
      either : (file : List ℕ) → StandsFor was.shape (operations was.notes.last.bytes) file ⊎ ((now.on ≡ false) × Reopens now file) → Such file
      either file (inl s) = stands file (subst (λ (x : Shape). StandsFor x [] file) is (subst (λ (p : List Operation). StandsFor was.shape p file) none s))
      either file (inr (dark, r)) = off file dark r

  -- while power is on
  pub lit-leaves : IsTrue now.on → Leaves left_since moment device (StandsFor sh [])
  lit-leaves on = leaves-new (StandsFor sh []) (λ file stands. stands) (λ file dark r. absurd (false≢true (sym dark ∙ on)))

  -- where power failed
  pub dark-leaves : (before : List ℕ) (held : ℕ) → ((file : List ℕ) → Reopens now file → OpensAsZeros sh file ⊎ IsUnformatted sh file) → Leaves left_since moment device (StaysNew (Failed held) sh before)
  dark-leaves before held such = leaves-new (StaysNew (Failed held) sh before) (λ file stands. inl stands) (λ file dark r. inr (such file r))

module _ {D : Type 0} (left_since : D → ℕ → List ℕ → Type 0) (moment : D → ℕ) (sh : Shape) (device : D) (s t : State) (synced : IsSynced (chart s)) (none : operations s.notes.last.bytes ≡ []) (is : s.shape ≡ sh) (counts : CountsFormat (chart s) (chart t))
    (crash : CrashLeaves (left_since device) (moment device) (chart t)) where
  last : IsLast (chart s) (chart t)
  last = counts-last (chart s) (chart s) (chart t) counts (record { shape = refl; sync = refl })

  format-off : (before : List ℕ) (setup : OfSetup) (held : ℕ) → Refuses s setup FormatOff t → Leaves left_since moment device (StaysNew (Failed held) sh before)
  format-off before setup held r = dark-leaves left_since moment sh device (chart s) (chart t) synced none is last crash before held (λ file re. off-stays sh s t setup synced none is counts.shape r file re)

  format-on : (setup : OfSetup) (fault : FormatFault) → (fault ≡ FormatOff → ⊥) → Refuses s setup fault t → Leaves left_since moment device (StandsFor sh [])
  format-on setup fault other r = lit-leaves left_since moment sh device (chart s) (chart t) synced none is last crash (refused-on s t setup fault other r)

  -- a memory wasn't formatted
  pub format-leaves : (before : List ℕ) (seen : D → List ℕ) (has_failed : D → Bool) (setup : OfSetup) (new : D) (open_fault : OpenFault) (fault : FormatFault) (held : ℕ) → Refuses s setup fault t → SaysFault seen has_failed device new open_fault fault held
      → moment device ≤ moment new → ((n : ℕ) (file : List ℕ) → n ≤ moment device → left_since new n file → left_since device n file) → Leaves left_since moment new (StaysNew open_fault sh before)
  format-leaves before seen has_failed setup new open_fault fault held r says later only = leaves-on left_since moment device new (StaysNew open_fault sh before) later only (go says)
    where
      go : SaysFault seen has_failed device new open_fault fault held → Leaves left_since moment device (StaysNew open_fault sh before)
      go (inl (off, why, goes)) = subst (λ (u : OpenFault). Leaves left_since moment device (StaysNew u sh before)) (sym why) (format-off before setup held (subst (λ (f : FormatFault). Refuses s setup f t) off r))
      go (inr (other, stopped)) = leaves-as left_since moment device (StandsFor sh []) (StaysNew open_fault sh before) (stands-stays seen has_failed new sh before open_fault stopped) (format-on setup fault other r)

pub off-refused : (s t : State) (setup : OfSetup) (fault : FormatFault) → Refuses s setup fault t → fault ≡ FormatOff → t.on ≡ false
off-refused s t setup fault r off = (subst (λ (f : FormatFault). Refuses s setup f t) off r).0

-- a sync that failed
fails-holds : (old new : Chart) (off : Off) (m : Array) → SyncsChart {T = Unit {0}} old (Err off) new → Holds old m → Holds new m
fails-holds old new off m (inl (dark, is)) h = subst (λ (c : Chart). Holds c m) (sym is) h
fails-holds old new off m (inr (on, is)) h = subst (λ (c : Chart). Holds c m) (sym is) (record { magic = h.magic; version = h.version; sound = h.sound; array = h.array; shadows = h.shadows; live = h.live; durable = h.durable; slots = h.slots; owners = h.owners })

fails-shape : (old new : Chart) (off : Off) → SyncsChart {T = Unit {0}} old (Err off) new → new.shape ≡ old.shape
fails-shape old new off (inl (dark, is)) = ap (λ (c : Chart). c.shape) is
fails-shape old new off (inr (on, is)) = ap (λ (c : Chart). c.shape) is

fails-last : (was old new : Chart) (off : Off) → SyncsChart {T = Unit {0}} old (Err off) new → IsLast was old → IsLast was new
fails-last was old new off (inl (dark, is)) l = subst (λ (c : Chart). IsLast was c) (sym is) l
fails-last was old new off (inr (on, is)) l = subst (λ (c : Chart). IsLast was c) (sym is) (record { shape = l.shape; sync = l.sync })

-- the first sync of a memory of zeros failed
pub sync-off : {D : Type 0} (before : List ℕ) (left_since : D → ℕ → List ℕ → Type 0) (moment : D → ℕ) (sh : Shape) (device : D) (was old new : Chart) (off : Off) (held : ℕ) (synced : IsSynced was) → operations was.notes.last.bytes ≡ [] → IsLast was old → old.shape ≡ sh
    → SyncsChart {T = Unit {0}} old (Err off) new → Stands old (zeros sh.pages sh.shadows)
    → CrashLeaves (left_since device) (moment device) new
    → Leaves left_since moment device (StaysNew (Failed held) sh before)
sync-off before left_since moment sh device was old new off held synced none l is fails stands crash =
    let then = fails-last was old new off fails l in
    let shape : new.shape ≡ sh = fails-shape old new off fails ∙ is in
    let stood : Holds new (zeros sh.pages sh.shadows) = fails-holds old new off (zeros sh.pages sh.shadows) fails (Stands.holds stands) in
    dark-leaves left_since moment sh device was new synced none (then.shape ∙ shape) then crash before held
    (λ file r. inl (opens-zeros sh new shape (subst (λ (x : Shape). Holds new (zeros x.pages x.shadows)) (sym shape) stood) file r))
