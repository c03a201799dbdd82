-- How many kept rows a page has in a segment.
use Rattle.std.specs.Prelude.{ℕ, ◌+◌, List, Option, if◌then◌else◌}
use Rattle.envy_base.specs.declared.shape.Shape.{Shape}
use Rattle.envy_base.specs.declared.fields.Place.{Place}
use Rattle.envy_base.specs.declared.fields.Slot.{Slot}
use Rattle.envy_base.specs.declared.fields.Undo.{Undo}
use Rattle.envy_soundness.specs.Words.{kept_by}
use Rattle.envy_soundness.specs.RowKinds.{is_in, is_shadow_in}

-- the kept rows of segment s that a page with this undo and this place has: one where it is, and one more
-- where a restart reads it in another
abbrev pub page_kept_in : Shape → List (Option Slot) → Option Undo → Option Place → ℕ → ℕ
page_kept_in sh slots undo now s =
    (if is_in sh.rows s now then 1 else 0) + (if is_shadow_in sh.rows s now (kept_by slots undo now) then 1 else 0)
