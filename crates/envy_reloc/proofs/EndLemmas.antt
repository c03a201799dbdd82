-- The spare, while it is erased.
use Rattle.std.proofs.Common.{◌≡◌, ℕ, ◌*◌, List, length, get_or, set, Some, sym, ◌∙◌, ap, subst}
use Rattle.std.proofs.lemmas.List.{get_or-set_same}
use Rattle.envy_base.specs.State.{Only, IsOnes}
use Rattle.envy_base.specs.declared.shape.Shape.{Shape}
use Rattle.envy_base.specs.declared.fields.Job.TheVariants.{Idle, Switch, Erase}
use Rattle.envy_map.specs.Fields.{Fields, Chart, with_fields}
use Rattle.envy_map.specs.Writes.{with_fill, with_job, with_wear}
use Rattle.envy_soundness.specs.Jobs.{AreHome, IsBlankSpare}
use Rattle.envy_soundness.specs.Sound.{Sound, Numbers, IsSound, IsPlaced, IsSpare}
use Rattle.envy_soundness.proofs.JobLaw.{AreHome-unless}
use Rattle.envy_soundness.proofs.KeptCounts.{kept_in-none}
use Rattle.envy_soundness.proofs.References.{apart-spare}
use Rattle.envy_space.specs.Pool.{Pool, PoolAgrees, with_filled}

-- while the spare is erased, no row of it is kept
pub none-kept : (sh : Shape) (f : Fields) (flash : List (List ℕ)) (e : ℕ) (pool : Pool) → Sound sh f flash → f.job ≡ Some Erase → IsSpare sh f.positions e → PoolAgrees sh f pool → get_or pool.kept e 0 ≡ 0
none-kept sh f flash e pool sound erasing spare agrees =
    agrees.kept e spare.segment
    ∙ kept_in-none sh f.slots f.undos f.places e (λ p q names at. apart-spare sh f.positions e (subst (λ (s : ℕ). IsPlaced sh f.positions s) at (home p q names)) spare)
  where
    home : AreHome sh f
    home = AreHome-unless sh f flash sound (λ w switch placed. let clash : Some Erase ≡ Some (Switch w) = sym erasing ∙ switch in cc)

-- the pool after the spare e was emptied, and the job ended
pub PoolAgrees-emptied : (old mid new : Chart) (e : ℕ) (pool then_pool : Pool) → PoolAgrees old.shape old.fields pool → mid ≡ with_fields old (with_fill e 0 old.fields) → new ≡ with_fields mid (with_job (Some Idle) mid.fields) → then_pool ≡ with_filled e 0 pool → PoolAgrees new.shape new.fields then_pool
PoolAgrees-emptied old mid new e pool then_pool agrees emptied ended is =
    subst (λ (p : Pool). PoolAgrees new.shape new.fields p) (sym is)
    (subst (λ (c : Chart). PoolAgrees c.shape c.fields (with_filled e 0 pool)) (sym ended)
    (subst (λ (c : Chart). PoolAgrees c.shape (with_job (Some Idle) c.fields) (with_filled e 0 pool)) (sym emptied)
    (record { shape = agrees.shape; fills = ap (λ (xs : List ℕ). set xs e 0) agrees.fills; positions = agrees.positions; long = agrees.long; kept = agrees.kept })))

-- the spare is erased and empty
pub BlankSpare-made : (old mid new : Chart) (e w : ℕ) → IsSound old → IsSpare old.shape old.fields.positions e → length old.flash ≡ old.shape.segments * old.shape.rows → mid.shape ≡ old.shape → mid.fields ≡ with_wear e w old.fields → Only old.shape.rows e IsOnes old.flash mid.flash → new ≡ with_fields mid (with_fill e 0 mid.fields) → IsBlankSpare new.shape new.fields new.flash e
BlankSpare-made old mid new e w sound spare long shape fields only is =
    subst (λ (c : Chart). IsBlankSpare c.shape c.fields c.flash e) (sym is)
    (subst (λ (f : Fields). IsBlankSpare mid.shape (with_fill e 0 f) mid.flash e) (sym fields)
    (subst (λ (sh : Shape). IsBlankSpare sh (with_fill e 0 (with_wear e w old.fields)) mid.flash e) (sym shape) (record {
      spare = spare;
      fill = get_or-set_same old.fields.fills e 0 0 (rw (Numbers.fills_long (Sound.numbers sound)) spare.segment);
      rows = λ q lt at. Only.inside only q (rw long lt) at;
    })))
