-- What a row is, by the definitions of the layout.
use Rattle.std.specs.Prelude.{ℕ, Option, None, Some}
use Rattle.envy_base.specs.declared.shape.Shape.{Shape}
use Rattle.envy_map.specs.Fields.{Fields}
use Rattle.envy_soundness.specs.Naming.{IsNamed}
use Rattle.envy_soundness.specs.Sound.{IsKept, IsFree}
use Rattle.envy_soundness.specs.declared.rows.Kept.{Kept as OfKept}
use Rattle.envy_picture.specs.declared.kinds.RowKind.{RowKind}
use Rattle.envy_picture.specs.declared.kinds.RowKind.TheVariants.{Free, Kept, Shadow, Dead}

-- its page names it by its place, or by the undo of an open transaction; or no page names it, and it is above its
-- segment's fill, or below
abbrev pub IsKind : Shape → Fields → ℕ → RowKind → Type 0
IsKind sh f q Free = (IsKept f q → ⊥) × IsFree sh f q
IsKind sh f q (Kept p) = IsKept f q × IsNamed f p q None
IsKind sh f q (Shadow p t) = IsKept f q × IsNamed f p q (Some t)
IsKind sh f q Dead = (IsKept f q → ⊥) × (IsFree sh f q → ⊥)

abbrev pub kind_by : ℕ → Option ℕ → RowKind
kind_by p None = Kept p
kind_by p (Some t) = Shadow p t

abbrev pub kind_of : OfKept → RowKind
kind_of kept = kind_by kept.page kept.undo
