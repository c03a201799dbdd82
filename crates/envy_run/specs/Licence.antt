-- What of a board's counts licenses the replies: a failure of power for each `lost`, a bad operation for
-- each `fault`, a cut by hand for each line `power`, and for each line `cut` or `bad` the plan that it names.
use Rattle.std.specs.Prelude.{◌≡◌, ℕ, ◌+◌, List, [], ◌∷◌, ◌++◌, length, Option, Some}
use Rattle.envy_base.specs.declared.faults.PlannedFault.{PlannedFault}
use Rattle.envy_map.specs.Fields.{Chart}
use Rattle.envy_memory.specs.Rises.{RoseBy, RoseOver}
use Rattle.envy_serve.specs.Turns.{Turn}

-- the failures that the lines of these turns plan, the newest first
abbrev pub plans_in : {Line Reply : Type 0} → (Line → List PlannedFault) → List (Turn Line Reply) → List PlannedFault
plans_in plan [] = []
plans_in plan (turn ∷ earlier) = plan turn.line ++ plans_in plan earlier

-- the newest of them; without one that of before
abbrev pub newest : List PlannedFault → Option PlannedFault → Option PlannedFault
newest [] before = before
newest (fault ∷ earlier) before = Some fault

pub record Licence (powers : ℕ) (plans : List PlannedFault) (losts faults : ℕ) (old new : Chart) : Type 0 where
  pub shape : new.shape ≡ old.shape
  pub given : new.given ≡ old.given
  pub pulled : RoseBy powers old.pulled new.pulled
  pub plans_made : RoseBy (length plans) old.plans new.plans
  pub last_plan : new.last_plan ≡ newest plans old.last_plan
  pub cuts : RoseOver (powers + losts) old.cuts new.cuts
  pub bads : RoseOver faults old.bads new.bads
