-- Plans that agree with the map after each phase.
use Rattle.std.proofs.Common.{◌≡◌, ◌≢◌, ◌⊎◌, inl, inr, ℕ, ◌/◌, ◌<◌, ◌≤◌, List, Option, Some, get_or, sym, ◌∙◌, ap, subst, arith}
use Rattle.std.specs.Prelude.{All}
use Rattle.envy_base.specs.declared.shape.Shape.{Shape}
use Rattle.envy_base.specs.declared.fields.Job.{Job}
use Rattle.envy_base.specs.declared.fields.Job.TheVariants.{Idle, Copy, Switch, Erase}
use Rattle.envy_map.specs.Fields.{Fields}
use Rattle.envy_map.specs.Writes.{with_job}
use Rattle.envy_soundness.specs.Sound.{Sound, Blanks, Jobs, IsPlaced, IsSpare}
use Rattle.envy_reloc.specs.Switching.{SwitchesAll}
use Rattle.envy_reloc.specs.Plan.{Plan, IsMarked, IsPlanOf}
use Rattle.envy_base.specs.Shape.{positions_of}

-- the spare is to be erased, or nothing runs
pub IsPlanOf-ended : (sh : Shape) (f : Fields) (flash : List (List ℕ)) (plan : Plan) → (f.job ≡ Some Idle) ⊎ (f.job ≡ Some Erase) → IsPlanOf sh f flash plan
IsPlanOf-ended sh f flash plan ended = record {
  prepared = record {
    moves = λ w is. absurd (no_copy w is ended);
    aside = λ w first last is at. absurd (no_copy w is ended);
    copies = λ w e is spare. absurd (no_copy w is ended);
  };
  marked = record {
    kept = λ w e p q is. absurd (no_copy w is ended);
    copied = λ w e i is. absurd (no_copy w is ended);
  };
  switched = record {
    placed = λ w is. absurd (no_switch w is ended);
    clear = λ w p q is named. absurd (no_switch w is ended);
  };
}
  where
    no_copy : (w : ℕ) → f.job ≡ Some (Copy w) → (f.job ≡ Some Idle) ⊎ (f.job ≡ Some Erase) → ⊥
    no_copy w is (inl idle) = let clash : Some (Copy w) ≡ Some Idle = sym is ∙ idle in cc
    no_copy w is (inr erase) = let clash : Some (Copy w) ≡ Some Erase = sym is ∙ erase in cc

    no_switch : (w : ℕ) → f.job ≡ Some (Switch w) → (f.job ≡ Some Idle) ⊎ (f.job ≡ Some Erase) → ⊥
    no_switch w is (inl idle) = let clash : Some (Switch w) ≡ Some Idle = sym is ∙ idle in cc
    no_switch w is (inr erase) = let clash : Some (Switch w) ≡ Some Erase = sym is ∙ erase in cc

-- some moves are left
pub Plan-fewer : (sh : Shape) (f : Fields) (flash : List (List ℕ)) (v : ℕ) (plan then_plan : Plan) → IsPlanOf sh f flash plan → f.job ≡ Some (Copy v) → All (λ (q : ℕ). q / sh.rows ≡ v) then_plan.moves → then_plan.aside ≡ plan.aside → then_plan.mark ≡ plan.mark → IsPlanOf sh f flash then_plan
Plan-fewer sh f flash v plan then_plan was copying moves aside mark = record {
  prepared = record {
    moves = λ w is. let same : Some (Copy v) ≡ Some (Copy w) = sym copying ∙ is in let one : v ≡ w = cc in subst (λ (x : ℕ). All (λ (q : ℕ). q / sh.rows ≡ x) then_plan.moves) one moves;
    aside = λ w first last is at. was.prepared.aside w first last is (sym aside ∙ at);
    copies = was.prepared.copies;
  };
  marked = subst (λ (n : ℕ). IsMarked sh f.job f.positions f.slots f.undos f.places f.fills f.origins n) (sym mark) was.marked;
  switched = was.switched;
}

-- a segment has been switched
pub Plan-switched : (sh : Shape) (f g : Fields) (flash : List (List ℕ)) (v e : ℕ) (plan : Plan) → Sound sh f flash → f.job ≡ Some (Copy v) → SwitchesAll sh v e f g → IsPlanOf sh g flash plan
Plan-switched sh f g flash v e plan sound copying switches = record {
  prepared = record {
    moves = λ w is. absurd (no_copy w is);
    aside = λ w first last is at. absurd (no_copy w is);
    copies = λ w d is spare. absurd (no_copy w is);
  };
  marked = record {
    kept = λ w d p q is. absurd (no_copy w is);
    copied = λ w d i is. absurd (no_copy w is);
  };
  switched = record {
    placed = λ w is. subst (λ (x : ℕ). IsPlaced sh g.positions x) (same w is) (subst (λ (xs : List ℕ). IsPlaced sh xs v) (sym positions) (Jobs.copying sound.job v copying));
    clear = λ w p q is names. subst (λ (x : ℕ). q / sh.rows ≢ x) (same w is) (SwitchesAll.clear switches p q names);
  };
}
  where
    job : g.job ≡ Some (Switch v)
    job = ap (λ (x : Fields). x.job) (SwitchesAll.fields switches)

    positions : g.positions ≡ f.positions
    positions = ap (λ (x : Fields). x.positions) (SwitchesAll.fields switches)

    same : (w : ℕ) → g.job ≡ Some (Switch w) → v ≡ w
    same w is = let one : Some (Switch v) ≡ Some (Switch w) = sym job ∙ is in cc

    no_copy : (w : ℕ) → g.job ≡ Some (Copy w) → ⊥
    no_copy w is = let clash : Some (Switch v) ≡ Some (Copy w) = sym job ∙ is in cc

-- a copy has begun
pub Plan-begun : (sh : Shape) (f : Fields) (flash : List (List ℕ)) (v : ℕ) (plan : Plan) → Sound sh f flash → f.job ≡ Some Idle → All (λ (q : ℕ). q / sh.rows ≡ v) plan.moves → ((first last : ℕ) → plan.aside ≡ Some (first, last) → (first ≤ last) × (last < positions_of sh)) → plan.mark ≡ 0 → IsPlanOf sh (with_job (Some (Copy v)) f) flash plan
Plan-begun sh f flash v plan sound idle moves aside mark = record {
  prepared = record {
    moves = λ w is. subst (λ (x : ℕ). All (λ (q : ℕ). q / sh.rows ≡ x) plan.moves) (same w is) moves;
    aside = λ w first last is at. aside first last at;
    copies = λ w e is spare. record { each = λ i lt. absurd (none e spare i lt); apart = λ i j lt less one. absurd (none e spare i lt) };
  };
  marked = record {
    kept = λ w e p q is spare names here lt. absurd (omega arith);
    copied = λ w e i is spare lt. absurd (none e spare i lt);
  };
  switched = record {
    placed = λ w is. absurd (no_switch w is);
    clear = λ w p q is. absurd (no_switch w is);
  };
}
  where
    none : (e : ℕ) → IsSpare sh f.positions e → (i : ℕ) → i < get_or f.fills e 0 → ⊥
    none e spare i lt = let empty = Blanks.idle sound.blanks e idle spare in omega arith

    same : (w : ℕ) → ◌≡◌ {A = Option Job} (Some (Copy v)) (Some (Copy w)) → v ≡ w
    same w is = cc

    no_switch : (w : ℕ) → ◌≡◌ {A = Option Job} (Some (Copy v)) (Some (Switch w)) → ⊥
    no_switch w is = cc
