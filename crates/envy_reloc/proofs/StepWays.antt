-- What stands at the ways out of a step that isn't a copy's.
use Rattle.std.proofs.Common.{◌≡◌, ◌⊎◌, inl, inr, ℕ, false, IsTrue, Option, Some, refl, sym, subst}
use Rattle.envy_base.specs.declared.fields.Job.{Job}
use Rattle.envy_base.specs.declared.fields.Job.TheVariants.{Idle, Erase}
use Rattle.envy_base.specs.declared.shape.Shape.{Shape}
use Rattle.envy_map.specs.Fields.{Fields, Chart}
use Rattle.envy_soundness.specs.Naming.{AreParted}
use Rattle.envy_soundness.specs.Same.{Same}
use Rattle.envy_soundness.proofs.FrameStay.{FramesStay-refl}
use Rattle.envy_space.specs.Pool.{Pool, PoolAgrees}
use Rattle.envy_table.specs.Agreement.{AreCurrent}
use Rattle.envy_table.specs.Entries.{Translations}
use Rattle.envy_table.proofs.HitLemmas.{Rests-refl}
use Rattle.envy_reloc.specs.Effort.{Leaves, LeftOf}
use Rattle.envy_reloc.specs.Keeping.{AllFollow}
use Rattle.envy_reloc.specs.Phases.{Empties, Retires}
use Rattle.envy_reloc.specs.Plan.{Plan}
use Rattle.envy_reloc.proofs.Exits.{unpowered}
use Rattle.envy_reloc.proofs.PlanLemmas.{IsPlanOf-ended}

-- where power is off at the exit
pub AllFollow-off : (old new : Chart) (x y : Pool) (w : Plan) (u : Translations) → new.on ≡ false → y.shape ≡ x.shape → AllFollow old new x y w u u
AllFollow-off old new x y w u off shape = record {
  pool = λ on. unpowered new.on off on;
  plan = λ on. unpowered new.on off on;
  parted = λ on. unpowered new.on off on;
  cache = λ on. unpowered new.on off on;
  frames = λ on. unpowered new.on off on;
  shape = shape;
  rests = Rests-refl u;
}

-- no place, no owner and no shadow has changed, and the spare is to be erased or nothing runs
pub record IsEnded (f g : Fields) : Type 0 where
  pub places : g.places ≡ f.places
  pub slots : g.slots ≡ f.slots
  pub undos : g.undos ≡ f.undos
  pub job : (g.job ≡ Some Idle) ⊎ (g.job ≡ Some Erase)

pub IsEnded-erased : (old new : Chart) (e : ℕ) → Empties old e new ⊎ Retires old e new → IsEnded old.fields new.fields
IsEnded-erased old new e (inl x) = subst (λ (f : Fields). IsEnded old.fields f) (sym x.fields) (record { places = refl; slots = refl; undos = refl; job = inl refl })
IsEnded-erased old new e (inr x) = subst (λ (f : Fields). IsEnded old.fields f) (sym x.fields) (record { places = refl; slots = refl; undos = refl; job = inl refl })

pub AllFollow-ended : (old new : Chart) (x y : Pool) (w : Plan) (u : Translations) → new.shape ≡ old.shape → (IsTrue new.on → IsEnded old.fields new.fields) → (IsTrue new.on → PoolAgrees new.shape new.fields y) → y.shape ≡ x.shape
    → AreParted old.fields.slots old.fields.undos old.fields.places → AreCurrent old.shape.pages old.fields.places u.entries → AllFollow old new x y w u u
AllFollow-ended old new x y w u same is pool shape parted current = record {
  pool = pool;
  plan = λ on. IsPlanOf-ended new.shape new.fields new.flash w (is on).job;
  parted = λ on. rw ((is on).slots, (is on).undos, (is on).places) parted;
  cache = λ on. subst (λ (sh : Shape). AreCurrent sh.pages new.fields.places u.entries) (sym same) (rw ((is on).places) current);
  frames = λ on. rw ((is on).places) (FramesStay-refl old.fields.places);
  shape = shape;
  rests = Rests-refl u;
}

-- one erase is within what is left of a job that has only to erase
pub within-erased : (old new : Chart) (plan : Plan) (n e s : ℕ) → old.fields.job ≡ Some Erase → Same 0 1 old new → Leaves old plan n e s → Same n e old new
within-erased old new plan n e s job same left =
    let one = subst (λ (j : Option Job). LeftOf old.shape j old.fields.fills old.fields.positions plan.moves n e s) job left in
    rw (one.0, one.1) same
