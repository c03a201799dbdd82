-- The ends of the memory in a file.
use Rattle.std.proofs.Common.{◌≡◌, ℕ, Bool, false, List, refl, sym, ◌∙◌, ap, subst, arith}
use Rattle.std.specs.Prelude.{IsTrue, Ok}
use Rattle.envy_args.specs.declared.keep.KeepOptions.{KeepOptions}
use Rattle.envy_array.specs.Array.{Array}
use Rattle.envy_base.specs.declared.shape.Shape.{Shape}
use Rattle.envy_begun.specs.Beginning.{HasBegun, HasOperationsOf, HasStopped}
use Rattle.envy_begun.specs.Left.{Leaves}
use Rattle.envy_begun.specs.Plans.{BeginsAs, BeginsOn, ComesLater, Plans}
use Rattle.envy_begun.specs.Unserved.{Causes, held_for, place_for, status_for, why_for}
use Rattle.envy_begun.specs.declared.file_contents.FileContents.{FileContents}
use Rattle.envy_begun.specs.declared.file_contents.FileContents.TheVariants.{Written}
use Rattle.envy_begun.specs.declared.open_fault.OpenFault.{OpenFault}
use Rattle.envy_begun.proofs.Caused.{stopped-unserved}
use Rattle.envy_device.specs.Device.{Only}
use Rattle.envy_io.specs.Streams.{Drain, Feed}
use Rattle.envy_meaning.specs.Stands.{Stands}
use Rattle.envy_memory.specs.Picture.{IsMemory, Picture}
use Rattle.envy_policy.specs.Setup.{checked}
use Rattle.envy_policy.specs.declared.setup.Setup.{Setup}
use Rattle.envy_serve.specs.Streams.{Streams}
use Rattle.envy_synced.specs.Disk.{IsCompact}
use Rattle.envy_keep.specs.Ending.{KeepsServed}
use Rattle.envy_keep.specs.Keeping.{IsServed, IsUnserved, LeavesUnserved, Told, told}

-- what a trace over the memory in a file left, said of the file
pub served-as : (options : KeepOptions) (file : List ℕ) (setup : Setup) (holding : FileContents) (array : Array) (p : Picture) (status why lines taken place : ℕ) (left : ℕ → List ℕ → Type 0) (now : ℕ) (io : Streams)
    → Plans holding options file setup → checked setup ≡ Ok tt → BeginsAs holding file setup array → HasBegun setup array p → BeginsOn holding file p.chart → IsMemory p.chart p.parts p.owned p.limit p.mark
    → (holding ≡ Written → IsTrue options.compact → IsCompact p.chart) → (holding ≡ Written → options.compact ≡ false → HasOperationsOf file p.chart)
    → KeepsServed array p p.chart.shape status why lines taken left now io → IsServed options file (told status why lines taken place) left now io
served-as options file setup holding array p status why lines taken place left now io plans checks begins begun board agrees compacted same served = record {
  setup = setup;
  holding = holding;
  array = array;
  plans = plans;
  checks = checks;
  begins = begins;
  memory = p;
  board = board;
  stands = HasBegun.stands begun;
  starts = HasBegun.begins begun;
  shows = (Stands.on (HasBegun.stands begun), agrees);
  compacted = compacted;
  same = same;
  served = subst (λ (sh : Shape). KeepsServed array p sh status why lines taken left now io) (HasBegun.shape begun) served;
}

-- a crash leaves a file on which no call was made as it was
pub as-it-was : {D : Type 0} (seen : D → List ℕ) (may_leave : D → List ℕ → Type 0) (left_since : D → ℕ → List ℕ → Type 0) (moment : D → ℕ) (device : D) (file : List ℕ)
    → seen device ≡ file → Only (seen device) (may_leave device) → ((c : List ℕ) → left_since device (moment device) c → may_leave device c) → Leaves left_since moment device (λ c. c ≡ file)
as-it-was seen may_leave left_since moment device file is durable only = record {
  since = moment device;
  before = omega arith;
  each = λ c left. ∣ durable c (only c left) ∙ is ∣₁;
}

module _ {D : Type 0} (seen : D → List ℕ) (has_failed : D → Bool) (left_since : D → ℕ → List ℕ → Type 0) (moment : D → ℕ) (options : KeepOptions) (file : List ℕ) (old device new : D) (fault : OpenFault) where
  pub unserved-as : (end : Told) (feed : Feed) (drain : Drain) → end ≡ told (status_for fault) (why_for fault) 0 0 (place_for fault) → new ≡ device → Causes seen has_failed options file old device fault → ComesLater options file fault
      → LeavesUnserved left_since moment options file fault device
      → IsUnserved seen has_failed left_since moment options file old new end (record { from = feed; feed = feed; to = drain; sink = drain })
  unserved-as end feed drain says same causes later left = record {
    fault = fault;
    says = says;
    causes = subst (λ (d : D). Causes seen has_failed options file old d fault) (sym same) causes;
    later = later;
    left = subst (λ (d : D). LeavesUnserved left_since moment options file fault d) (sym same) left;
    source = refl;
    sink = refl;
  }

-- status 6 of a file that was not served comes of its device
pub unserved-stopped : {D : Type 0} (seen : D → List ℕ) (has_failed : D → Bool) (options : KeepOptions) (file : List ℕ) (old device new : D) (fault : OpenFault) (status why lines taken place held : ℕ)
    → told status why lines taken place ≡ told (status_for fault) (why_for fault) 0 0 (place_for fault) → new ≡ device → held ≡ held_for fault → Causes seen has_failed options file old device fault
    → status ≡ 6 → HasStopped seen has_failed held new
unserved-stopped {D} seen has_failed options file old device new fault status why lines taken place held says same held_is causes six =
    stopped-unserved seen has_failed options file old new fault status held (ap (λ (t : Told). t.status) says) held_is (subst (λ (d : D). Causes seen has_failed options file old d fault) (sym same) causes) six
