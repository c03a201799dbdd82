-- What each phase leaves to be done.
use Rattle.std.proofs.Common.{◌≡◌, ◌≢◌, ◌⊎◌, inl, inr, ℕ, ◌+◌, ◌-◌, ◌*◌, ◌<◌, List, [], ◌∷◌, length, get_or, set, Option, Some, None, refl, sym, ◌∙◌, ap, subst, arith}
use Rattle.std.specs.Prelude.{IfOk, Result, Ok, Err}
use Rattle.std.proofs.lemmas.List.{get_or-set_same, get_or-set_other, length-append}
use Rattle.envy_base.specs.Shape.{IsShape}
use Rattle.envy_base.specs.declared.board.Trouble.{Trouble}
use Rattle.envy_base.specs.declared.fields.Job.{Job}
use Rattle.envy_base.specs.declared.fields.Job.TheVariants.{Idle, Copy, Switch, Erase}
use Rattle.envy_base.specs.declared.shape.Shape.{Shape}
use Rattle.envy_map.specs.Fields.{Fields, Chart, with_fields}
use Rattle.envy_map.specs.Writes.{with_job}
use Rattle.envy_soundness.specs.Frames.{FramesStay}
use Rattle.envy_soundness.specs.Naming.{IsNamed}
use Rattle.envy_soundness.specs.Same.{Same, Stays, Framed}
use Rattle.envy_soundness.specs.Sound.{Sound, Blanks, IsSound, IsPlaced, IsSpare, Numbers}
use Rattle.envy_soundness.proofs.Composition.{Same-more}
use Rattle.envy_soundness.proofs.NamingLemmas.{FramesStay-named, job-named, fills-named, positions-named}
use Rattle.envy_soundness.proofs.References.{apart-spare}
use Rattle.envy_soundness.proofs.SpareLemmas.{one-spare, some-spare}
use Rattle.envy_reloc.specs.declared.row_move.Move.{Move}
use Rattle.envy_reloc.specs.declared.step.Phase.{Phase}
use Rattle.envy_reloc.specs.declared.step.Phase.TheVariants.{Moved, Copied, Switched, Placed, Erased}
use Rattle.envy_reloc.specs.Effort.{LeftOf, Leaves, Spent, programs_of, erases_of}
use Rattle.envy_reloc.specs.Phases.{Does, MovesOne, MovesRow, CopiesOne, CopiesLeft, SwitchesSegment, Empties, Retires, IsFirstMove, moved_to}
use Rattle.envy_reloc.specs.Plan.{Plan, IsPlanOf}
use Rattle.envy_reloc.specs.Rows.{IsLowestLeft, IsLeft}
use Rattle.envy_reloc.specs.Switching.{SwitchesAll}
use Rattle.envy_reloc.proofs.CopyLemmas.{room-left}

-- what is left of a copy, by the map and the moves
Leaves-copy : (new : Chart) (plan : Plan) (sh : Shape) (v x n : ℕ) (fills positions moves : List ℕ) → new.shape ≡ sh → new.fields.job ≡ Some (Copy v) → new.fields.fills ≡ fills → new.fields.positions ≡ positions → plan.moves ≡ moves → IsSpare sh positions x → n ≡ length moves + (sh.rows - get_or fills x 0) → Leaves new plan n 1 (n + 3)
Leaves-copy new plan sh v x n fills positions moves shape job level order list spare is =
    rw (shape, job, level, order, list) (x, spare, is, refl, refl)

Leaves-other : (new : Chart) (plan : Plan) (job : Job) (n e s : ℕ) → new.fields.job ≡ Some job → LeftOf new.shape (Some job) new.fields.fills new.fields.positions plan.moves n e s → Leaves new plan n e s
Leaves-other new plan job n e s is left = subst (λ (j : Option Job). LeftOf new.shape j new.fields.fills new.fields.positions plan.moves n e s) (sym is) left

Leaves-at : (old : Chart) (plan : Plan) (job : Job) (n e s : ℕ) → old.fields.job ≡ Some job → Leaves old plan n e s → LeftOf old.shape (Some job) old.fields.fills old.fields.positions plan.moves n e s
Leaves-at old plan job n e s is left = subst (λ (j : Option Job). LeftOf old.shape j old.fields.fills old.fields.positions plan.moves n e s) is left

pub Spent-moved : (old new : Chart) (plan then_plan : Plan) (n e s : ℕ) → IsSound old → IsPlanOf old.shape old.fields old.flash plan → MovesOne old plan new then_plan → Same 1 0 old new → Leaves old plan n e s → Spent old new then_plan n e s
Spent-moved old new plan then_plan n e s sound agrees m same left = at (Leaves-at old plan (Copy m.v) n e s m.copying left)
  where
    sh : Shape
    sh = old.shape

    s2 : ℕ
    s2 = get_or old.fields.positions m.next.position 0

    at : LeftOf old.shape (Some (Copy m.v)) old.fields.fills old.fields.positions plan.moves n e s → Spent old new then_plan n e s
    at (x, spare, is, one, steps) =
        let f = old.fields in
        let fields = MovesRow.fields m.moved in
        let aside = agrees.prepared.aside m.v m.first m.last m.copying m.aside in
        let below = m.lowest.below in
        let low = aside.1 in
        let placed : IsPlaced old.shape f.positions (get_or f.positions m.next.position 0) = (m.next.position, omega arith, refl) in
        let other : x ≢ get_or f.positions m.next.position 0 = λ e. apart-spare old.shape f.positions (get_or f.positions m.next.position 0) placed (subst (λ (y : ℕ). IsSpare old.shape f.positions y) e spare) in
        let r = get_or f.positions m.next.position 0 * old.shape.rows + get_or f.fills (get_or f.positions m.next.position 0) 0 in
        let p = m.next.kept.page in
        let u = m.next.kept.undo in
        let job : new.fields.job ≡ Some (Copy m.v) = ap (λ (g : Fields). g.job) fields ∙ job-named _ p r u ∙ m.copying in
        let level : new.fields.fills ≡ set f.fills (get_or f.positions m.next.position 0) (get_or f.fills (get_or f.positions m.next.position 0) 0 + 1) = ap (λ (g : Fields). g.fills) fields ∙ fills-named _ p r u in
        let order : new.fields.positions ≡ f.positions = ap (λ (g : Fields). g.positions) fields ∙ positions-named _ p r u in
        let shape : new.shape ≡ old.shape = Framed.shape (Stays.framed (Same.stays same)) in
        let stays = get_or-set_other f.fills (get_or f.positions m.next.position 0) x (get_or f.fills (get_or f.positions m.next.position 0) 0 + 1) 0 other in
        let longer : length plan.moves ≡ length (IsFirstMove.dropped m.first_move) + length (m.next.row ∷ then_plan.moves) = ap (λ (xs : List ℕ). length xs) (IsFirstMove.is m.first_move) ∙ length-append _ _ in
        let k = length then_plan.moves + (old.shape.rows - get_or f.fills x 0) in
        record {
          programs = 1;
          erases = 0;
          left_n = k;
          left_e = 1;
          left_s = k + 3;
          same = same;
          left = Leaves-copy new then_plan old.shape m.v x k _ f.positions then_plan.moves shape job level order refl spare (rw stays refl);
          few = omega arith;
          few_erases = omega arith;
          fewer = omega arith;
        }

pub Spent-copied : (old new : Chart) (plan then_plan : Plan) (n e s : ℕ) → IsSound old → 0 < old.shape.rows → IsPlanOf old.shape old.fields old.flash plan → CopiesOne old plan new then_plan → Same 1 0 old new → Leaves old plan n e s → Spent old new then_plan n e s
Spent-copied old new plan then_plan n e s sound some agrees m same left = at (Leaves-at old plan (Copy m.v) n e s m.copying left)
  where
    at : LeftOf old.shape (Some (Copy m.v)) old.fields.fills old.fields.positions plan.moves n e s → Spent old new then_plan n e s
    at (x, spare, is, one, steps) =
        let f = old.fields in
        let fields = CopiesLeft.fields m.copied in
        let one_is : x ≡ m.e = one-spare old.shape f old.flash x m.e sound spare m.spare in
        let i = get_or f.fills m.e 0 in
        let room = room-left old.shape f old.flash m.v m.e m.q sound some (agrees.prepared.copies m.v m.e m.copying m.spare) (IsLowestLeft.segment m.lowest) (IsLeft.uncopied (IsLowestLeft.left m.lowest)) in
        let job : new.fields.job ≡ Some (Copy m.v) = ap (λ (g : Fields). g.job) fields ∙ m.copying in
        let level : new.fields.fills ≡ set f.fills m.e (get_or f.fills m.e 0 + 1) = ap (λ (g : Fields). g.fills) fields in
        let order : new.fields.positions ≡ f.positions = ap (λ (g : Fields). g.positions) fields in
        let shape : new.shape ≡ old.shape = Framed.shape (Stays.framed (Same.stays same)) in
        let long = Numbers.fills_long (Sound.numbers sound) in
        let own : get_or (set f.fills m.e (get_or f.fills m.e 0 + 1)) m.e 0 ≡ get_or f.fills m.e 0 + 1 = get_or-set_same f.fills m.e (get_or f.fills m.e 0 + 1) 0 (rw long (IsSpare.segment m.spare)) in
        let k = old.shape.rows - (get_or f.fills m.e 0 + 1) in
        let was : n ≡ length plan.moves + (old.shape.rows - get_or f.fills m.e 0) = is ∙ ap (λ (y : ℕ). length plan.moves + (old.shape.rows - get_or f.fills y 0)) one_is in
        record {
          programs = 1;
          erases = 0;
          left_n = k;
          left_e = 1;
          left_s = k + 3;
          same = same;
          left = Leaves-copy new then_plan old.shape m.v m.e k _ f.positions [] shape job level order (ap (λ (y : Plan). y.moves) m.plan_is) m.spare (rw own (omega arith));
          few = omega arith;
          few_erases = omega arith;
          fewer = omega arith;
        }

pub Spent-switched : (old new : Chart) (plan then_plan : Plan) (n e s : ℕ) → SwitchesSegment old plan new then_plan → Same 0 0 old new → Leaves old plan n e s → Spent old new then_plan n e s
Spent-switched old new plan then_plan n e s m same left = at (Leaves-at old plan (Copy m.v) n e s m.copying left)
  where
    at : LeftOf old.shape (Some (Copy m.v)) old.fields.fills old.fields.positions plan.moves n e s → Spent old new then_plan n e s
    at (x, spare, is, one, steps) = record {
      programs = 0;
      erases = 0;
      left_n = 0;
      left_e = 1;
      left_s = 2;
      same = same;
      left = Leaves-other new then_plan (Switch m.v) 0 1 2 (ap (λ (g : Fields). g.job) (SwitchesAll.fields m.switches)) (refl, refl, refl);
      few = omega arith;
      few_erases = omega arith;
      fewer = omega arith;
    }

pub Spent-placed : (old new : Chart) (plan then_plan : Plan) (n e s v : ℕ) → old.fields.job ≡ Some (Switch v) → new.fields.job ≡ Some Erase → Same 0 0 old new → Leaves old plan n e s → Spent old new then_plan n e s
Spent-placed old new plan then_plan n e s v switching ends same left = at (Leaves-at old plan (Switch v) n e s switching left)
  where
    at : LeftOf old.shape (Some (Switch v)) old.fields.fills old.fields.positions plan.moves n e s → Spent old new then_plan n e s
    at (is, one, steps) = record {
      programs = 0;
      erases = 0;
      left_n = 0;
      left_e = 1;
      left_s = 1;
      same = same;
      left = Leaves-other new then_plan Erase 0 1 1 ends (refl, refl, refl);
      few = omega arith;
      few_erases = omega arith;
      fewer = omega arith;
    }

pub Spent-erased : (old new : Chart) (plan then_plan : Plan) (n e s : ℕ) → old.fields.job ≡ Some Erase → new.fields.job ≡ Some Idle → Same 0 1 old new → Leaves old plan n e s → Spent old new then_plan n e s
Spent-erased old new plan then_plan n e s erasing ends same left = at (Leaves-at old plan Erase n e s erasing left)
  where
    at : LeftOf old.shape (Some Erase) old.fields.fills old.fields.positions plan.moves n e s → Spent old new then_plan n e s
    at (is, one, steps) = record {
      programs = 0;
      erases = 1;
      left_n = 0;
      left_e = 0;
      left_s = 0;
      same = same;
      left = Leaves-other new then_plan Idle 0 0 0 ends (refl, refl, refl);
      few = omega arith;
      few_erases = omega arith;
      fewer = omega arith;
    }

-- an erase and a retirement end the job
pub ended-idle : (old new : Chart) (e : ℕ) → Empties old e new ⊎ Retires old e new → new.fields.job ≡ Some Idle
ended-idle old new e (inl x) = ap (λ (g : Fields). g.job) x.fields
ended-idle old new e (inr x) = ap (λ (g : Fields). g.job) x.fields

-- what a step leaves, by its phase
pub Spent-done : (old new : Chart) (plan then_plan : Plan) (phase : Phase) → IsSound old → 0 < old.shape.rows → IsPlanOf old.shape old.fields old.flash plan → Does old plan phase new then_plan → Same (programs_of phase) (erases_of phase) old new → (n e s : ℕ) → Leaves old plan n e s → Spent old new then_plan n e s
Spent-done old new plan then_plan Moved sound some agrees does same n e s left = Spent-moved old new plan then_plan n e s sound agrees does same left
Spent-done old new plan then_plan Copied sound some agrees does same n e s left = Spent-copied old new plan then_plan n e s sound some agrees does same left
Spent-done old new plan then_plan Switched sound some agrees does same n e s left = Spent-switched old new plan then_plan n e s does same left
Spent-done old new plan then_plan Placed sound some agrees does same n e s left = Spent-placed old new plan then_plan n e s does.v does.switching (ap (λ (c : Chart). c.fields.job) does.is) same left
Spent-done old new plan then_plan Erased sound some agrees does same n e s left = Spent-erased old new plan then_plan n e s does.erasing (ended-idle old new does.e does.ends) same left

-- a page that moves from a row to another leaves each frame as it is
pub FramesStay-moved : (old new : Chart) (s : ℕ) (next : Move) → IsSound old → MovesRow old s next new → FramesStay old.fields.places new.fields.places
FramesStay-moved old new s next sound m = subst (λ (g : Fields). FramesStay old.fields.places g.places) (sym m.fields) (at next.kept.undo m.named)
  where
    at : (u : Option ℕ) → IsNamed old.fields next.kept.page next.row u → FramesStay old.fields.places (Fields.places (moved_to old.shape s next.kept.page (s * old.shape.rows + get_or old.fields.fills s 0) u old.fields))
    at None is = FramesStay-named old.shape old.fields old.flash next.kept.page next.row (s * old.shape.rows + get_or old.fields.fills s 0) None sound is
    at (Some t) is = λ o k. ((λ h. h), (λ h. h))

-- what is left bounds what the step begins, by what it is
pub within-one : (old new : Chart) (plan : Plan) (v n e s : ℕ) → old.fields.job ≡ Some (Copy v) → ((x : ℕ) → IsSpare old.shape old.fields.positions x → 0 < length plan.moves + (old.shape.rows - get_or old.fields.fills x 0)) → Same 1 0 old new → Leaves old plan n e s → Same n e old new
within-one old new plan v n e s copying some same left = at (Leaves-at old plan (Copy v) n e s copying left)
  where
    at : LeftOf old.shape (Some (Copy v)) old.fields.fills old.fields.positions plan.moves n e s → Same n e old new
    at (x, spare, is, one, steps) = let low = some x spare in Same-more 1 0 n e old new (omega arith) (omega arith) same

-- what is left at the beginning
pub Leaves-begun : (old new : Chart) (moves : List ℕ) (v n : ℕ) → IsSound old → IsShape old.shape → old.fields.job ≡ Some Idle → new ≡ with_fields old (with_job (Some (Copy v)) old.fields) → n ≡ length moves + old.shape.rows → LeftOf new.shape new.fields.job new.fields.fills new.fields.positions moves n 1 (n + 3)
Leaves-begun old new moves v n sound shape idle is count =
    let spare = some-spare old.shape old.fields old.flash sound shape in
    let none : get_or old.fields.fills spare.0 0 ≡ 0 = Blanks.idle (Sound.blanks sound) spare.0 idle spare.1 in
    subst (λ (c : Chart). LeftOf c.shape c.fields.job c.fields.fills c.fields.positions moves n 1 (n + 3)) (sym is) (spare.0, spare.1, (omega arith), refl, refl)

pub if-ok : {A : Type 0} (r : Result A Trouble) (P Q R : A → Type 0) → IfOk r P → IfOk r Q → ((x : A) → P x → Q x → R x) → IfOk r R
if-ok (Ok x) P Q R p q f = f x p q
if-ok (Err e) P Q R p q f = p
