-- What a step did, with what it counted and what is left.
use Rattle.std.proofs.Common.{◌≡◌, ◌∙◌, ℕ, ◌<◌, refl, sym, ap}
use Rattle.envy_base.specs.Counting.{up}
use Rattle.envy_map.specs.Fields.{Chart}
use Rattle.envy_soundness.specs.Same.{Same}
use Rattle.envy_soundness.specs.Sound.{IsSound}
use Rattle.envy_reloc.specs.Effort.{programs_of, erases_of}
use Rattle.envy_reloc.specs.Keeping.{Steps}
use Rattle.envy_reloc.specs.Phases.{Does, MovesOne, CopiesOne, SwitchesSegment, PlacesSpare, ErasesSpare, counted_by}
use Rattle.envy_reloc.specs.Plan.{Plan, IsPlanOf}
use Rattle.envy_reloc.specs.declared.step.Phase.{Phase}
use Rattle.envy_reloc.specs.declared.step.Phase.TheVariants.{Moved, Copied, Switched, Placed, Erased}
use Rattle.envy_reloc.proofs.CleanLemmas.{cleans-next}
use Rattle.envy_reloc.proofs.EffortLemmas.{Spent-done}

counted-by : (old : Chart) (plan : Plan) (phase : Phase) (new : Chart) (then_plan : Plan) → Does old plan phase new then_plan → then_plan ≡ record (counted_by phase plan) { moves = then_plan.moves; mark = then_plan.mark }
counted-by old plan Moved new then_plan does = let is = MovesOne.plan_is does in let mark : then_plan.mark ≡ plan.mark = ap (λ (p : Plan). p.mark) is in is ∙ ap (λ (m : ℕ). record plan { moves = then_plan.moves; moved = up plan.moved; mark = m }) (sym mark)
counted-by old plan Copied new then_plan does = let is = CopiesOne.plan_is does in rw is refl
counted-by old plan Switched new then_plan does = let is = SwitchesSegment.plan_is does in rw is refl
counted-by old plan Placed new then_plan does = let is = PlacesSpare.plan_is does in rw is refl
counted-by old plan Erased new then_plan does = let is = ErasesSpare.plan_is does in rw is refl

pub Steps-made : (old : Chart) (plan : Plan) (phase : Phase) (new : Chart) (then_plan : Plan) → IsSound old → 0 < old.shape.rows → IsPlanOf old.shape old.fields old.flash plan → Does old plan phase new then_plan → Same (programs_of phase) (erases_of phase) old new → Steps old plan phase new then_plan
Steps-made old plan phase new then_plan sound some planned does works = record {
  does = does;
  works = works;
  counted = counted-by old plan phase new then_plan does;
  left = Spent-done old new plan then_plan phase sound some planned does works;
  cleans = λ positions k n a. cleans-next old new plan then_plan phase old.shape positions k n refl sound some planned does a;
}
