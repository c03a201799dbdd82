-- What is left to do of a relocation, and what a step does of it.
use Rattle.std.specs.Prelude.{◌≡◌, ℕ, ◌+◌, ◌-◌, ◌<◌, ◌≤◌, List, length, Option, None, Some, slice_index}
use Rattle.envy_base.specs.declared.fields.Job.{Job}
use Rattle.envy_base.specs.declared.fields.Job.TheVariants.{Idle, Copy, Switch, Erase}
use Rattle.envy_base.specs.declared.shape.Shape.{Shape}
use Rattle.envy_map.specs.Fields.{Chart}
use Rattle.envy_soundness.specs.Same.{Same}
use Rattle.envy_soundness.specs.Sound.{IsSpare}
use Rattle.envy_reloc.specs.Plan.{Plan}
use Rattle.envy_reloc.specs.declared.step.Phase.{Phase}
use Rattle.envy_reloc.specs.declared.step.Phase.TheVariants.{Moved, Copied, Switched, Placed, Erased}

-- how many programs, and erases, a step of each phase may begin
abbrev pub programs_of : Phase → ℕ
programs_of Moved = 1
programs_of Copied = 1
programs_of Switched = 0
programs_of Placed = 0
programs_of Erased = 0

abbrev pub erases_of : Phase → ℕ
erases_of Moved = 0
erases_of Copied = 0
erases_of Switched = 0
erases_of Placed = 0
erases_of Erased = 1

-- so many programs, erases and steps are left of the job at most
abbrev pub LeftOf : Shape → Option Job → List ℕ → List ℕ → List ℕ → ℕ → ℕ → ℕ → Type 0
LeftOf sh (Some (Copy v)) fills positions moves n e s = (x : ℕ) × IsSpare sh positions x × (n ≡ length moves + (sh.rows - slice_index fills x)) × (e ≡ 1) × (s ≡ n + 3)
LeftOf sh (Some (Switch v)) fills positions moves n e s = (n ≡ 0) × (e ≡ 1) × (s ≡ 2)
LeftOf sh (Some Erase) fills positions moves n e s = (n ≡ 0) × (e ≡ 1) × (s ≡ 1)
LeftOf sh (Some Idle) fills positions moves n e s = (n ≡ 0) × (e ≡ 0) × (s ≡ 0)
LeftOf sh None fills positions moves n e s = ⊥

abbrev pub Leaves : Chart → Plan → ℕ → ℕ → ℕ → Type 0
Leaves c plan n e s = LeftOf c.shape c.fields.job c.fields.fills c.fields.positions plan.moves n e s

-- a step was done within what was left, and this is left then
pub record Spent (old new : Chart) (then_plan : Plan) (n e s : ℕ) : Type 0 where
  pub programs : ℕ
  pub erases : ℕ
  pub left_n : ℕ
  pub left_e : ℕ
  pub left_s : ℕ
  pub same : Same programs erases old new
  pub left : Leaves new then_plan left_n left_e left_s
  pub few : programs + left_n ≤ n
  pub few_erases : erases + left_e ≤ e
  pub fewer : left_s < s
