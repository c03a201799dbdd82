-- Why a file isn't served, by where it was found.
use Rattle.std.proofs.Common.{◌≡◌, ◌≢◌, inl, inr, ℕ, ◌+◌, ◌^◌, ◌<◌, Bool, List, [], length, sym, ◌∙◌, subst, arith}
use Rattle.std.specs.List.{Contains}
use Rattle.std.specs.Prelude.{IsTrue, IfErr, Result, Ok, Err}
use Rattle.envy_args.specs.declared.keep.KeepOptions.{KeepOptions}
use Rattle.envy_base.specs.declared.shape.Shape.{Shape}
use Rattle.envy_begun.specs.Beginning.{HasStopped, IsStopped}
use Rattle.envy_begun.specs.Plans.{ComesLater, IsFound, IsPlanned}
use Rattle.envy_begun.specs.Unserved.{Causes, Declines, HasNoMemory, IsOver, Refrains, Refuses, held_for, status_for}
use Rattle.envy_begun.specs.declared.open_fault.OpenFault.{OpenFault}
use Rattle.envy_begun.specs.declared.open_fault.OpenFault.TheVariants.{Setup, NoJournal, OtherVersion, OtherSizes, Options, Damaged, Memory, NotMade, Failed}
use Rattle.envy_begun.proofs.Again.{declines-for}
use Rattle.envy_journal.specs.Content.{HasMisfit}
use Rattle.envy_journal.specs.Reading.{operations}
use Rattle.envy_journal.specs.declared.operation.Operation.{Operation}
use Rattle.envy_policy.specs.declared.setup.Setup.{Setup as OfSetup}

module _ {D : Type 0} (seen : D → List ℕ) (has_failed : D → Bool) (options : KeepOptions) (file : List ℕ) (old new : D) where
  pub refused-causes : (open_fault : OpenFault) → Refuses options file open_fault → new ≡ old → Causes seen has_failed options file old new open_fault
  refused-causes (Setup fault) r same = (r, same)
  refused-causes NoJournal r same = (r, same)
  refused-causes (Damaged place) r same = (r, same)
  refused-causes OtherVersion r same = (r, same)
  refused-causes OtherSizes r same = (r, same)
  refused-causes (Options fault) r same = (r, same)
  refused-causes Memory r same = absurd r
  refused-causes NotMade r same = absurd r
  refused-causes (Failed held) r same = absurd r

  pub stopped-causes : (open_fault : OpenFault) → IsStopped seen has_failed open_fault new → Causes seen has_failed options file old new open_fault
  stopped-causes (Setup fault) s = absurd s
  stopped-causes NoJournal s = absurd s
  stopped-causes (Damaged place) s = absurd s
  stopped-causes OtherVersion s = absurd s
  stopped-causes OtherSizes s = absurd s
  stopped-causes (Options fault) s = absurd s
  stopped-causes Memory s = inr s
  stopped-causes NotMade s = s
  stopped-causes (Failed held) s = s

  refrained-causes : (setup : OfSetup) (open_fault : OpenFault) → IsFound options file setup → Refrains (HasNoMemory setup.shape file) file open_fault → new ≡ old → Causes seen has_failed options file old new open_fault
  refrained-causes setup NoJournal f r same = ((IsFound.made f, inr (setup.shape, IsOver.head (IsFound.over f), IsOver.six (IsFound.over f), inr r)), same)
  refrained-causes setup (Damaged place) f r same = ((IsFound.made f, setup.shape, IsFound.over f, r), same)
  refrained-causes setup Memory f r same = inl same
  refrained-causes setup NotMade f r same = absurd r
  refrained-causes setup (Setup fault) f r same = absurd r
  refrained-causes setup OtherVersion f r same = absurd r
  refrained-causes setup OtherSizes f r same = absurd r
  refrained-causes setup (Options fault) f r same = absurd r
  refrained-causes setup (Failed held) f r same = absurd r

  pub declined-causes : (setup : OfSetup) (open_fault : OpenFault) → IsFound options file setup → Declines seen has_failed (HasNoMemory setup.shape file) file old open_fault new → Causes seen has_failed options file old new open_fault
  declined-causes setup open_fault f (inl (r, same)) = refrained-causes setup open_fault f r same
  declined-causes setup open_fault f (inr stopped) = stopped-causes open_fault stopped

  -- at status 6 the file has failed, or with what was held back from it is at the end of its range
  pub stopped-unserved : (open_fault : OpenFault) (status held : ℕ) → status ≡ status_for open_fault → held ≡ held_for open_fault → Causes seen has_failed options file old new open_fault → status ≡ 6 → HasStopped seen has_failed held new
  stopped-unserved (Setup fault) status held is held_is causes six = let never : 2 ≡ 6 = sym is ∙ six in absurd (omega arith)
  stopped-unserved NoJournal status held is held_is causes six = let never : 10 ≡ 6 = sym is ∙ six in absurd (omega arith)
  stopped-unserved (Damaged place) status held is held_is causes six = let never : 10 ≡ 6 = sym is ∙ six in absurd (omega arith)
  stopped-unserved OtherVersion status held is held_is causes six = let never : 10 ≡ 6 = sym is ∙ six in absurd (omega arith)
  stopped-unserved OtherSizes status held is held_is causes six = let never : 10 ≡ 6 = sym is ∙ six in absurd (omega arith)
  stopped-unserved (Options fault) status held is held_is causes six = let never : 10 ≡ 6 = sym is ∙ six in absurd (omega arith)
  stopped-unserved NotMade status held is held_is causes six = let never : 11 ≡ 6 = sym is ∙ six in absurd (omega arith)
  stopped-unserved Memory status held is held_is causes six = let never : 8 ≡ 6 = sym is ∙ six in absurd (omega arith)
  stopped-unserved (Failed n) status held is held_is causes six = subst (λ (k : ℕ). HasStopped seen has_failed k new) (sym held_is) causes

pub all-declined : {M D : Type 0} (seen : D → List ℕ) (has_failed : D → Bool) (options : KeepOptions) (file : List ℕ) (old : D) (setup : OfSetup) (result : Result M (OpenFault × D)) → IsFound options file setup
    → (Reason : Type 0) → (Reason → HasNoMemory setup.shape file)
    → IfErr result (λ e. Declines seen has_failed Reason file old e.0 e.1) → IfErr result (λ e. Causes seen has_failed options file old e.1 e.0)
all-declined seen has_failed options file old setup (Ok memory) found Reason none declined = tt
all-declined seen has_failed options file old setup (Err e) found Reason none declined =
    declined-causes seen has_failed options file old e.1 setup e.0 found (declines-for seen has_failed Reason (HasNoMemory setup.shape file) file old e.0 e.1 none declined)

-- a misfit is one of the operations
pub some-misfit : (sh : Shape) (file : List ℕ) → HasMisfit sh (operations file) → operations file ≢ []
some-misfit sh file misfit none = let gone = subst (λ (l : List Operation). Contains l misfit.0) none misfit.1 in omega (arith, gone.1)

-- a reason that comes behind a plan
pub later : (options : KeepOptions) (file : List ℕ) (open_fault : OpenFault) → IsPlanned options file → ComesLater options file open_fault
later options file Memory planned = planned
later options file NotMade planned = planned
later options file (Failed held) planned = planned
later options file (Setup fault) planned = tt
later options file NoJournal planned = tt
later options file (Damaged place) planned = tt
later options file OtherVersion planned = tt
later options file OtherSizes planned = tt
later options file (Options fault) planned = tt

-- and one that comes with it
pub sooner : (options : KeepOptions) (file : List ℕ) (open_fault : OpenFault) → Refuses options file open_fault → ComesLater options file open_fault
sooner options file Memory refuses = absurd refuses
sooner options file NotMade refuses = absurd refuses
sooner options file (Failed held) refuses = absurd refuses
sooner options file (Setup fault) refuses = tt
sooner options file NoJournal refuses = tt
sooner options file (Damaged place) refuses = tt
sooner options file OtherVersion refuses = tt
sooner options file OtherSizes refuses = tt
sooner options file (Options fault) refuses = tt
