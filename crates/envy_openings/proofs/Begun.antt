-- A memory that began in a file by a setup that names all sizes, and why none did.
use Rattle.std.proofs.Common.{◌≡◌, ◌∙◌, ℕ, Bool, true, false, List, sym, ap, subst}
use Rattle.envy_args.specs.declared.keep.KeepOptions.{KeepOptions}
use Rattle.envy_base.specs.State.{State}
use Rattle.envy_base.specs.declared.shape.Shape.{Shape}
use Rattle.envy_begun.specs.Plans.{IsFound, IsPlanned, Plans}
use Rattle.envy_begun.specs.Unserved.{Causes, Refuses}
use Rattle.envy_begun.specs.declared.file_contents.FileContents.{FileContents}
use Rattle.envy_begun.specs.declared.file_contents.FileContents.TheVariants.{Unmade, Blank, Written}
use Rattle.envy_begun.specs.declared.open_fault.OpenFault.{OpenFault}
use Rattle.envy_begun.specs.declared.open_fault.OpenFault.TheVariants.{Setup, NoJournal, OtherVersion, OtherSizes, Options, Damaged, Memory, NotMade, Failed}
use Rattle.envy_journal.specs.Head.{HasSixSizes}
use Rattle.envy_journal.specs.Journal.{journal_state}
use Rattle.envy_policy.specs.declared.setup.Setup.{Setup as OfSetup}
use Rattle.envy_portfile.specs.declared.port.FilePort.{FilePort}
use Rattle.envy_device.specs.Calls.{have_failed, seen_after}
use Rattle.envy_device.specs.declared.logged_file.LoggedFile.{LoggedFile}
use Rattle.envy_openings.specs.Files.{RefusesFile, options_of}

-- a setup of these numbers of segments kept back and of sums
abbrev of_last : OfSetup → ℕ → ℕ → OfSetup
of_last s reserves sums = record s {
  shape = record {
    segments = s.shape.segments;
    rows = s.shape.rows;
    pages = s.shape.pages;
    shadows = s.shape.shadows;
    frames = s.shape.frames;
    entries = s.shape.entries;
    reserves = reserves;
    sums = sums;
  };
}

of_zeros : (s : OfSetup) → HasSixSizes s.shape → of_last s 0 0 ≡ s
of_zeros s six = ap (λ (n : ℕ). of_last s n 0) (sym six.0) ∙ ap (λ (n : ℕ). of_last s s.shape.reserves n) (sym six.1)

same_found : (s t : OfSetup) (file : List ℕ) → HasSixSizes s.shape → IsFound (options_of s) file t → t ≡ s
same_found s t file six found =
    found.is ∙ ap (λ (sh : Shape). record s { shape = sh }) (sym found.over.named)
    ∙ ap (λ (n : ℕ). of_last s n t.shape.sums) found.over.six.0 ∙ ap (λ (n : ℕ). of_last s 0 n) found.over.six.1 ∙ of_zeros s six

pub same_setup : (holding : FileContents) (s t : OfSetup) (file : List ℕ) → HasSixSizes s.shape → Plans holding (options_of s) file t → t ≡ s
same_setup Unmade s t file six plans = plans.1 ∙ of_zeros s six
same_setup Blank s t file six plans = same_found s t file six plans.0
same_setup Written s t file six plans = same_found s t file six plans.0

pub refused : (s : OfSetup) (file : List ℕ) (why : OpenFault) → Refuses (options_of s) file why → RefusesFile (options_of s) file why
refused s file (Setup fault) refuses = refuses
refused s file NoJournal refuses = refuses
refused s file OtherVersion refuses = refuses
refused s file (Damaged place) refuses = refuses
refused s file OtherSizes refuses = refuses
refused s file (Options fault) refuses = refuses
refused s file Memory refuses = absurd refuses
refused s file NotMade refuses = absurd refuses
refused s file (Failed held) refuses = absurd refuses

pub caused : {D : Type 0} (seen : D → List ℕ) (has_failed : D → Bool) (s : OfSetup) (file : List ℕ) (old new : D) (why : OpenFault) → Causes seen has_failed (options_of s) file old new why → IsPlanned (options_of s) file → RefusesFile (options_of s) file why
caused seen has_failed s file old new (Setup fault) causes planned = causes.0
caused seen has_failed s file old new NoJournal causes planned = causes.0
caused seen has_failed s file old new (Damaged place) causes planned = causes.0
caused seen has_failed s file old new OtherVersion causes planned = causes.0
caused seen has_failed s file old new OtherSizes causes planned = causes.0
caused seen has_failed s file old new (Options fault) causes planned = causes.0
caused seen has_failed s file old new Memory causes planned = planned
caused seen has_failed s file old new NotMade causes planned = planned
caused seen has_failed s file old new (Failed held) causes planned = planned

-- of a file behind a port, by options that are those of a setup
abbrev port-bytes : LoggedFile FilePort → List ℕ
port-bytes file = seen_after file.file.record.calls

abbrev port-failed : LoggedFile FilePort → Bool
port-failed file = have_failed file.file.record.calls

pub port-caused : (s : OfSetup) (o : KeepOptions) (file : List ℕ) (old new : LoggedFile FilePort) (why : OpenFault) → o ≡ options_of s → Causes port-bytes port-failed o file old new why → IsPlanned (options_of s) file → RefusesFile (options_of s) file why
port-caused s o file old new why is causes planned = caused port-bytes port-failed s file old new why (subst (λ (x : KeepOptions). Causes port-bytes port-failed x file old new why) is causes) planned

-- a journaled board has the bad operations of its inner one
pub none_bad : (dead : Bool) (s : State) → s.bads ≡ 0 → (journal_state dead s).bads ≡ 0
none_bad true s none = none
none_bad false s none = none
