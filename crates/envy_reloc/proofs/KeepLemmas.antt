-- What follows the map, over the steps of a copy.
use Rattle.std.proofs.Common.{◌≡◌, ◌≢◌, ◌⊎◌, inl, inr, ◌∙◌, ℕ, ◌/◌, List, [], Option, None, Some, refl, sym, ap, subst}
use Rattle.std.specs.Prelude.{Bool, false, true, IsTrue, Result, Err}
use Rattle.std.proofs.lemmas.Bool.{cases_eq}
use Rattle.envy_base.specs.Counting.{up}
use Rattle.envy_base.specs.declared.board.Trouble.{Trouble}
use Rattle.envy_base.specs.declared.board.Trouble.TheVariants.{Off as TroubleOff, Bad}
use Rattle.envy_base.specs.declared.shape.Shape.{Shape}
use Rattle.envy_base.specs.declared.fields.Place.{Place}
use Rattle.envy_base.specs.declared.fields.Place.TheVariants.{Absent, Row, Frame}
use Rattle.envy_map.specs.Fields.{Fields, Chart, place}
use Rattle.envy_soundness.specs.Frames.{FramesStay}
use Rattle.envy_soundness.specs.Power.{power_after}
use Rattle.envy_soundness.specs.Same.{Same, Stays, Framed}
use Rattle.envy_soundness.proofs.FrameStay.{FramesStay-refl}
use Rattle.envy_space.specs.Pool.{Pool}
use Rattle.envy_table.specs.Agreement.{AreCurrent}
use Rattle.envy_table.specs.Entries.{Translations}
use Rattle.envy_table.proofs.HitLemmas.{Rests-refl}
use Rattle.envy_reloc.specs.Keeping.{AllFollow, PlanFollows}
use Rattle.envy_reloc.specs.Plan.{Plan}
use Rattle.envy_reloc.specs.Switching.{SwitchesAll}

-- where no place has changed, the cache follows too
pub AllFollow-still : (old new : Chart) (pool then_pool : Pool) (then_plan : Plan) (cache : Translations) → Same 1 0 old new → PlanFollows new pool then_pool then_plan → (IsTrue new.on → new.fields.places ≡ old.fields.places) → AreCurrent old.shape.pages old.fields.places cache.entries → AllFollow old new pool then_pool then_plan cache cache
AllFollow-still old new pool then_pool then_plan cache same follow places current = record {
  pool = follow.pool;
  plan = follow.plan;
  parted = follow.parted;
  cache = λ on. subst (λ (sh : Shape). AreCurrent sh.pages new.fields.places cache.entries) (sym (Framed.shape (Stays.framed (Same.stays same))))
      (subst (λ (ps : List (Option Place)). AreCurrent old.shape.pages ps cache.entries) (sym (places on)) current);
  frames = λ on. subst (λ (ps : List (Option Place)). FramesStay old.fields.places ps) (sym (places on)) (FramesStay-refl old.fields.places);
  shape = follow.shape;
  rests = Rests-refl cache;
}

-- a page in a frame stays there while rows are switched to their copies
pub FramesStay-switched : (sh : Shape) (v e : ℕ) (f g : Fields) → SwitchesAll sh v e f g → FramesStay f.places g.places
FramesStay-switched sh v e f g all p k = at (place f p) refl
  where
    same : ((q : ℕ) → place f p ≡ Some (Row q) → q / sh.rows ≢ v) → (place g p ≡ Some (Frame k) → place f p ≡ Some (Frame k)) × (place f p ≡ Some (Frame k) → place g p ≡ Some (Frame k))
    same free = let e = all.place_stays p free in (λ is. sym e ∙ is, λ is. e ∙ is)

    of_row : (q : ℕ) → place f p ≡ Some (Row q) → (q / sh.rows ≡ v) ⊎ (q / sh.rows ≡ v → ⊥) → (place g p ≡ Some (Frame k) → place f p ≡ Some (Frame k)) × (place f p ≡ Some (Frame k) → place g p ≡ Some (Frame k))
    of_row q is (inl here) = let t = all.place_switched p q is here in (
      λ at. absurd (let no : Some (Row t.0) ≡ Some (Frame k) = sym t.2 ∙ at in cc),
      λ at. absurd (let no : Some (Row q) ≡ Some (Frame k) = sym is ∙ at in cc),
    )
    of_row q is (inr other) = same (λ r at here. other (let both : Some (Row q) ≡ Some (Row r) = sym is ∙ at in let eq : q ≡ r = cc in ap (λ (n : ℕ). n / sh.rows) eq ∙ here))

    at : (x : Option Place) → place f p ≡ x → (place g p ≡ Some (Frame k) → place f p ≡ Some (Frame k)) × (place f p ≡ Some (Frame k) → place g p ≡ Some (Frame k))
    at None is = same (λ q at. absurd (let no : None ≡ Some (Row q) = sym is ∙ at in cc))
    at (Some Absent) is = same (λ q at. absurd (let no : Some Absent ≡ Some (Row q) = sym is ∙ at in cc))
    at (Some (Frame j)) is = same (λ q at. absurd (let no : Some (Frame j) ≡ Some (Row q) = sym is ∙ at in cc))
    at (Some (Row q)) is = of_row q is (cases_eq (q / sh.rows) v)

-- where power is still on after a call failed, its program or erase was bad
pub bad-of : {A : Type 0} (r : Result A Trouble) (x : Trouble) (on : Bool) → on ≡ power_after r → IsTrue on → r ≡ Err x → r ≡ Err Bad
bad-of {A = A} r Bad on power lit is = is
bad-of {A = A} r TroubleOff on power lit is = absurd (let no : true ≡ false = sym lit ∙ power ∙ ap (λ (z : Result A Trouble). power_after z) is in cc)

-- the plan after an erase was counted in both of its counts
pub counted-erase : (w v : Plan) (a b : ℕ) → w ≡ v → a ≡ up w.erased → b ≡ up w.since → record w { erased = a; since = b } ≡ record v { erased = up v.erased; since = up v.since }
counted-erase w v a b is x y = rw (x, y) (ap (λ (p : Plan). record p { erased = up p.erased; since = up p.since }) is)

-- the plan after a copy was counted, and after one whose program was bad
pub counted-copy : (w v : Plan) (m n : ℕ) → w ≡ v → n ≡ up w.copied → record w { mark = m; copied = n } ≡ record v { mark = m; copied = up v.copied }
counted-copy w v m n is x = rw x (ap (λ (p : Plan). record p { mark = m; copied = up p.copied }) is)

pub wasted-copy : (w v : Plan) (n : ℕ) → w ≡ v → n ≡ up w.copied → record w { moves = []; copied = n } ≡ record v { moves = []; copied = up v.copied }
wasted-copy w v n is x = rw x (ap (λ (p : Plan). record p { moves = []; copied = up p.copied }) is)

-- and after a move
pub counted-move : (w v : Plan) (n : ℕ) → w ≡ v → n ≡ up w.moved → record w { moved = n } ≡ record v { moved = up v.moved }
counted-move w v n is x = rw x (ap (λ (p : Plan). record p { moved = up p.moved }) is)

pub wasted-move : (w v : Plan) (n : ℕ) → w ≡ v → n ≡ up w.moved → record w { moves = []; moved = n } ≡ record v { moves = []; moved = up v.moved }
wasted-move w v n is x = rw x (ap (λ (p : Plan). record p { moves = []; moved = up p.moved }) is)

-- only the moves of a plan have changed
pub becomes-moves : (w v q : Plan) → w ≡ v → q.aside ≡ w.aside → q.mark ≡ w.mark → q.copied ≡ w.copied → q.moved ≡ w.moved → q.erased ≡ w.erased → q.since ≡ w.since → q ≡ record v { moves = q.moves }
becomes-moves w v q is aside mark copied moved erased since =
    ap (λ (x : Option (ℕ × ℕ)). record q { aside = x }) aside
    ∙ ap (λ (x : ℕ). record q { aside = w.aside; mark = x }) mark
    ∙ ap (λ (x : ℕ). record q { aside = w.aside; mark = w.mark; copied = x }) copied
    ∙ ap (λ (x : ℕ). record q { aside = w.aside; mark = w.mark; copied = w.copied; moved = x }) moved
    ∙ ap (λ (x : ℕ). record q { aside = w.aside; mark = w.mark; copied = w.copied; moved = w.moved; erased = x }) erased
    ∙ ap (λ (x : ℕ). record w { moves = q.moves; since = x }) since
    ∙ ap (λ (p : Plan). record p { moves = q.moves }) is
