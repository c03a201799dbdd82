-- What a restart makes of a board of which rows that nothing names hold something else, as after a program that power cut.
use Rattle.std.specs.Prelude.{◌≡◌, ◌⊎◌, ◌↔◌, ℕ, ◌/◌, ◌%◌, ◌<◌, List, [], Some, slice_index, slice_index_or}
use Rattle.envy_audit.specs.Judging.{Judges}
use Rattle.envy_audit.specs.declared.verdict.Verdict.{Verdict}
use Rattle.envy_base.specs.declared.fields.Job.TheVariants.{Switch, Erase}
use Rattle.envy_soundness.specs.Sound.{Names, IsPlaced, IsSpare}
use Rattle.envy_soundness.specs.Words.{durable}
use Rattle.envy_map.specs.Fields.{Chart}

-- Nothing names the row: it is used, since it is below its segment's fill, or lies in the spare while that is being
-- erased; no page names it; and it is no copy that a segment is being switched to.
pub record IsDead (c : Chart) (q : ℕ) : Type 0 where
  pub used :
      (q % c.shape.rows < slice_index c.fields.fills (q / c.shape.rows))
      ⊎ ((c.fields.job ≡ Some Erase) × IsSpare c.shape c.fields.positions (q / c.shape.rows))
  pub unnamed : (p : ℕ) → Names c.fields p q → ⊥
  pub no_copy : (v : ℕ) → c.fields.job ≡ Some (Switch v) → IsPlaced c.shape c.fields.positions v → IsSpare c.shape c.fields.positions (q / c.shape.rows) → ⊥

-- the board with other rows of flash
abbrev pub with_flash : List (List ℕ) → Chart → Chart
with_flash rows c = record c { flash = rows }

-- each row that isn't dead is the board's own
abbrev pub OnlyDeadDiffer : Chart → List (List ℕ) → Type 0
OnlyDeadDiffer c rows = (q : ℕ) → (slice_index_or rows q [] ≡ slice_index_or c.flash q []) ⊎ IsDead c q

-- A restart makes the same of both boards: an audit finds the same, and power leaves the same words, which are those that
-- a memory stands for once it is attached.
pub record AreAlike (c d : Chart) : Type 0 where
  pub verdict : (found : Verdict) → Judges found c ↔ Judges found d
  pub words : durable d ≡ durable c
