-- Which calls the steps of a relocation are.
use Rattle.std.proofs.Common.{◌≡◌, ◌≢◌, ◌⊎◌, ◌∙◌, inl, inr, ℕ, ◌+◌, ◌*◌, ◌<◌, ◌≤◌, Bool, true, false, nat_eq, if◌then◌else◌, List, [], Option, None, Some, Result, Ok, Err, slice_index_or, slice_set, refl, sym, ap, subst, arith}
use Rattle.std.specs.Prelude.{IfOk, slice_index}
use Rattle.std.proofs.lemmas.Bool.Decides.{eqb_tells}
use Rattle.std.proofs.lemmas.List.{get_or_past, get_or-set_same, get_or-set_other}
use Rattle.std.proofs.lemmas.Bool.{cases_lt}
use Rattle.envy_base.specs.Shape.{all_positions_of}
use Rattle.envy_base.specs.declared.board.Trouble.{Trouble}
use Rattle.envy_base.specs.declared.fields.Job.TheVariants.{Copy}
use Rattle.envy_base.specs.declared.shape.Shape.{Shape}
use Rattle.envy_map.specs.Fields.{Chart, Fields}
use Rattle.envy_soundness.specs.Naming.{with_named}
use Rattle.envy_soundness.specs.Sound.{IsSound, Numbers, Sound}
use Rattle.envy_space.specs.Rising.{Breaks, Claims, Erases, Leaves, Makes, claim_in, erase_in}
use Rattle.envy_reloc.specs.Keeping.{Fails, Steps}
use Rattle.envy_reloc.specs.Phases.{CopiesOne, Does, Empties, MovesOne, Retires, SameOnce, Spoils}
use Rattle.envy_reloc.specs.Plan.{Plan}
use Rattle.envy_reloc.specs.declared.step.Phase.{Phase}
use Rattle.envy_reloc.specs.declared.step.Phase.TheVariants.{Moved, Copied, Switched, Placed, Erased}
use Rattle.test_relocations.specs.Calls.{ClaimsOne, EndsAt, LeavesAll, SpoilMakes, StepMakes, retire_in}

-- while a segment is copied, each position that is named is one of a segment
segment-at : (sh : Shape) (f : Fields) (flash : List (List ℕ)) (v k : ℕ) → Sound sh f flash → f.job ≡ Some (Copy v) → slice_index f.positions k < sh.segments
segment-at sh f flash v k sound copying = either (cases_lt k (all_positions_of sh))
  where
    either : (k < all_positions_of sh) ⊎ (all_positions_of sh ≤ k) → slice_index f.positions k < sh.segments
    either (inl less) = sound.numbers.positions_fit k less
    either (inr past) =
        let long = sound.numbers.positions_long in
        let placed = sound.job.copying v copying in
        let some = placed.1 in
        let none : slice_index f.positions k ≡ 0 = get_or_past f.positions k 0 (omega arith) in
        rw none (omega arith)

-- what names a row changes no fill
named-fills : (p r : ℕ) (u : Option ℕ) (f : Fields) → (with_named p r u f).fills ≡ f.fills
named-fills p r None f = refl
named-fills p r (Some t) f = refl

module _ (old new : Chart) (shape : new.shape ≡ old.shape) where
  -- a fill that becomes another, in the eyes of one segment
  module _ (e n : ℕ) (within : e < old.shape.segments) (numbers : Numbers old.shape old.fields.wears old.fields.fills old.fields.positions old.fields.backs old.fields.origins old.fields.frames) (fills : new.fields.fills ≡ slice_set old.fields.fills e n) where
    set : slice_index new.fields.fills e ≡ n
    set = let long = numbers.fills_long in ap (λ (xs : List ℕ). slice_index xs e) fills ∙ get_or-set_same old.fields.fills e n 0 (omega arith)

    other : (s : ℕ) → s ≢ e → slice_index new.fields.fills s ≡ slice_index old.fields.fills s
    other s apart = ap (λ (xs : List ℕ). slice_index xs s) fills ∙ get_or-set_other old.fields.fills e s n 0 apart

    claims : n ≡ slice_index old.fields.fills e + 1 → (s : ℕ) → Makes s (claim_in s e (Ok (e * old.shape.rows + slice_index old.fields.fills e))) old new
    claims more s = either (eqb_tells s e)
      where
        row : ℕ
        row = e * old.shape.rows + slice_index old.fields.fills e

        either : ((nat_eq s e ≡ true) × (s ≡ e)) ⊎ ((nat_eq s e ≡ false) × (s ≢ e)) → Makes s (claim_in s e (Ok row)) old new
        either (inl (same, is)) = subst (λ (b : Bool). Makes s (if b then Claims row else Leaves) old new) (sym same) (subst (λ (t : ℕ). (row ≡ t * old.shape.rows + slice_index old.fields.fills t) × (slice_index new.fields.fills t ≡ slice_index old.fields.fills t + 1) × (new.shape ≡ old.shape)) (sym is) (refl, set ∙ more, shape))
        either (inr (differs, apart)) = subst (λ (b : Bool). Makes s (if b then Claims row else Leaves) old new) (sym differs) (other s apart, shape)

    erases : n ≡ 0 → (s : ℕ) → Makes s (erase_in s e) old new
    erases none s = either (eqb_tells s e)
      where
        either : ((nat_eq s e ≡ true) × (s ≡ e)) ⊎ ((nat_eq s e ≡ false) × (s ≢ e)) → Makes s (erase_in s e) old new
        either (inl (same, is)) = subst (λ (b : Bool). Makes s (if b then Erases else Leaves) old new) (sym same) (subst (λ (t : ℕ). (slice_index new.fields.fills t ≡ 0) × (new.shape ≡ old.shape)) (sym is) (set ∙ none, shape))
        either (inr (differs, apart)) = subst (λ (b : Bool). Makes s (if b then Erases else Leaves) old new) (sym differs) (other s apart, shape)

    retires : slice_index old.fields.fills e ≤ n → (s : ℕ) → Makes s (retire_in s e) old new
    retires more s = either (eqb_tells s e)
      where
        either : ((nat_eq s e ≡ true) × (s ≡ e)) ⊎ ((nat_eq s e ≡ false) × (s ≢ e)) → Makes s (retire_in s e) old new
        either (inl (same, is)) = subst (λ (b : Bool). Makes s (if b then Breaks else Leaves) old new) (sym same) (subst (λ (t : ℕ). (slice_index old.fields.fills t ≤ slice_index new.fields.fills t) × (new.shape ≡ old.shape)) (sym is) (subst (λ (x : ℕ). slice_index old.fields.fills e ≤ x) (sym set) more, shape))
        either (inr (differs, apart)) = subst (λ (b : Bool). Makes s (if b then Breaks else Leaves) old new) (sym differs) (other s apart, shape)

    -- one row is claimed
    claims_one : n ≡ slice_index old.fields.fills e + 1 → ((r : ℕ) → r ≢ e * old.shape.rows + slice_index old.fields.fills e → slice_index_or new.flash r [] ≡ slice_index_or old.flash r []) → ClaimsOne old new
    claims_one more others = record { segment = e; row = e * old.shape.rows + slice_index old.fields.fills e; makes = claims more; others = others }

  leaves : new.fields.fills ≡ old.fields.fills → LeavesAll old new
  leaves same s = (ap (λ (xs : List ℕ). slice_index xs s) same, shape)

module _ (old new : Chart) (x y : Plan) (sound : IsSound old) (shape : new.shape ≡ old.shape) where
  moves : MovesOne old x new y → ClaimsOne old new
  moves m = claims_one old new shape (slice_index old.fields.positions m.next.position) (slice_index old.fields.fills (slice_index old.fields.positions m.next.position) + 1) (segment-at old.shape old.fields old.flash m.v m.next.position sound m.copying) sound.numbers (ap (λ (f : Fields). f.fills) m.moved.fields ∙ named-fills m.next.kept.page _ m.next.kept.undo _) refl m.moved.others

  copies : CopiesOne old x new y → ClaimsOne old new
  copies m = claims_one old new shape m.e (slice_index old.fields.fills m.e + 1) m.spare.segment sound.numbers (ap (λ (f : Fields). f.fills) m.copied.fields) refl m.copied.others

  ends : (e : ℕ) → e < old.shape.segments → Empties old e new ⊎ Retires old e new → EndsAt e old new
  ends e within (inl m) = inl (erases old new shape e 0 within sound.numbers (ap (λ (f : Fields). f.fills) m.fields) refl)
  ends e within (inr m) = inr (retires old new shape e old.shape.rows within sound.numbers (ap (λ (f : Fields). f.fills) m.fields) (sound.numbers.fills_fit e))

  -- a step that is done
  pub step_makes : (phase : Phase) → Does old x phase new y → StepMakes old phase new
  step_makes Moved m = moves m
  step_makes Copied m = copies m
  step_makes Switched m = leaves old new shape (ap (λ (f : Fields). f.fills) m.switches.fields)
  step_makes Placed m = leaves old new shape (ap (λ (c : Chart). c.fields.fills) m.is)
  step_makes Erased m = (m.e, ends m.e m.spare.segment m.ends)

  -- a step whose program or erase was bad
  pub spoil_makes : Spoils old x new y → SpoilMakes old new
  spoil_makes (inl m) = inl (claims_one old new shape (slice_index old.fields.positions m.next.position) (slice_index old.fields.fills (slice_index old.fields.positions m.next.position) + 1) (segment-at old.shape old.fields old.flash m.v m.next.position sound m.copying) sound.numbers (ap (λ (f : Fields). f.fills) m.spoilt.fields) refl m.spoilt.others)
  spoil_makes (inr (inl m)) = inl (claims_one old new shape m.e (slice_index old.fields.fills m.e + 1) m.spare.segment sound.numbers (ap (λ (f : Fields). f.fills) m.spoilt.fields) refl m.spoilt.others)
  spoil_makes (inr (inr m)) = inr (leaves old new shape (ap (λ (f : Fields). f.fills) m.fields))

pub one-shape : (old new : Chart) → SameOnce old new → new.shape ≡ old.shape
one-shape old new (inl same) = same.stays.framed.shape
one-shape old new (inr same) = same.stays.framed.shape

-- the laws
pub steps_make : (old new : Chart) (x y : Plan) (phase : Phase) → IsSound old → Steps old x phase new y → StepMakes old phase new
steps_make old new x y phase sound steps = step_makes old new x y sound steps.works.stays.framed.shape phase steps.does

pub fails_make : (old new : Chart) (x y : Plan) → IsSound old → SameOnce old new → Fails old x new y → SpoilMakes old new
fails_make old new x y sound same fails = spoil_makes old new x y sound (one-shape old new same) fails.spoils

-- and by the answer of a step
pub done_makes : (old new : Chart) (x y : Plan) (r : Result Phase Trouble) → IsSound old → IfOk r (λ phase. Steps old x phase new y) → IfOk r (λ phase. StepMakes old phase new)
done_makes old new x y (Ok phase) sound steps = steps_make old new x y phase sound steps
done_makes old new x y (Err e) sound steps = steps
