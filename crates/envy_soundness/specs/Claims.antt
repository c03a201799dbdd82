-- When a row may be claimed, and when it may be programmed.
use Rattle.std.specs.Prelude.{◌≡◌, ◌⊎◌, ℕ, ◌/◌, ◌%◌, ◌<◌, ◌≤◌, Some, slice_index}
use Rattle.envy_base.specs.declared.shape.Shape.{Shape}
use Rattle.envy_base.specs.declared.fields.Job.TheVariants.{Copy, Switch}
use Rattle.envy_map.specs.Fields.{Fields, Chart}
use Rattle.envy_soundness.specs.Sound.{Names, IsPlaced, IsSpare}

-- a segment is being copied to the spare
abbrev pub IsCopying : Fields → Type 0
IsCopying f = (v : ℕ) × (f.job ≡ Some (Copy v))

-- rows of the segment may be claimed: it stands at a position, or it is the spare that is being copied to
abbrev pub IsUsable : Shape → Fields → ℕ → Type 0
IsUsable sh f s = IsPlaced sh f.positions s ⊎ (IsCopying f × IsSpare sh f.positions s)

-- no segment is filled less than before
abbrev pub FillsRise : Chart → Chart → Type 0
FillsRise old new = (s : ℕ) → slice_index old.fields.fills s ≤ slice_index new.fields.fills s

-- The row may be programmed: it is below its segment's fill, no page names it, and it is no copy that
-- a segment at a position is being switched to.
pub record MayProgram (sh : Shape) (f : Fields) (q : ℕ) : Type 0 where
  pub filled : q % sh.rows < slice_index f.fills (q / sh.rows)
  pub unnamed : (p : ℕ) → Names f p q → ⊥
  pub unswitched : (v : ℕ) → f.job ≡ Some (Switch v) → IsPlaced sh f.positions v → IsSpare sh f.positions (q / sh.rows) → ⊥
