-- How much work is left of a job and of the stages after it.
use Rattle.std.specs.Prelude.{[], ◌≡◌, ℕ, ◌+◌, ◌*◌, ◌<◌, ◌≤◌, IsTrue, length, Some, Result, Ok, Err, Bool}
use Rattle.envy_base.specs.declared.board.Trouble.{Trouble}
use Rattle.envy_base.specs.declared.fields.Job.TheVariants.{Copy}
use Rattle.envy_map.specs.Fields.{Chart, with_fields}
use Rattle.envy_map.specs.Writes.{with_job}
use Rattle.envy_reloc.specs.Plan.{Plan}
use Rattle.envy_soundness.specs.Same.{Same}
use Rattle.envy_reloc.specs.Effort.{LeftOf}
use Rattle.envy_engine.specs.declared.parts.Parts.{Parts}

-- and of the stages too: each is begun, copies no more than a segment, and erases once
pub record Budget (c : Chart) (x : Parts) (n e s : ℕ) : Type 0 where
  pub own_n : ℕ
  pub own_e : ℕ
  pub own_s : ℕ
  pub own : LeftOf c.shape c.fields.job c.fields.fills c.fields.positions x.reloc.moves own_n own_e own_s
  pub programs : n ≡ own_n + length x.stages * c.shape.rows
  pub erases : e ≡ own_e + length x.stages
  pub steps : s ≡ own_s + length x.stages * (c.shape.rows + 4)

-- work was done within a budget, of which this is left
pub record Spends (old new : Chart) (y : Parts) (n e s : ℕ) : Type 0 where
  pub programs : ℕ
  pub erases : ℕ
  pub left_n : ℕ
  pub left_e : ℕ
  pub left_s : ℕ
  pub same : Same programs erases old new
  pub left : Budget new y left_n left_e left_s
  pub few : programs + left_n ≤ n
  pub few_erases : erases + left_e ≤ e
  pub fewer : left_s ≤ s

-- a copy without moves has begun
abbrev pub StageBegins : Chart → Chart → Plan → Type 0
StageBegins old new now = (v : ℕ) × (new ≡ with_fields old (with_job (Some (Copy v)) old.fields)) × (now.moves ≡ [])

-- a turn that did something has fewer steps left
abbrev pub Turns : Chart → Parts → Result Bool Trouble → Chart → Parts → Type 0
Turns old x (Ok more) new y = (n e s : ℕ) → Budget old x n e s → (w : Spends old new y n e s) × (IsTrue more → w.left_s < s)
Turns old x (Err fault) new y = Same 1 1 old new

-- so many turns were made of so many steps, and the work was within the budget
pub record Going (old now : Chart) (x : Parts) (n e s turns : ℕ) : Type 0 where
  pub work : Spends old now x n e s
  pub count : turns + Spends.left_s work ≤ s
