-- What a relocation has left to do, and when it agrees with the map.
use Rattle.std.specs.Prelude.{◌≡◌, ◌≢◌, ℕ, ◌+◌, ◌*◌, ◌/◌, ◌<◌, ◌≤◌, List, [], All, Option, Some, slice_index, slice_index_or}
use Rattle.envy_base.specs.declared.shape.Shape.{Shape}
use Rattle.envy_base.specs.declared.fields.Job.{Job}
use Rattle.envy_base.specs.declared.fields.Job.TheVariants.{Copy, Switch}
use Rattle.envy_base.specs.declared.fields.Place.{Place}
use Rattle.envy_base.specs.declared.fields.Slot.{Slot}
use Rattle.envy_base.specs.declared.fields.Undo.{Undo}
use Rattle.envy_map.specs.Fields.{Fields}
use Rattle.envy_soundness.specs.Sound.{Refers, IsPlaced, IsSpare}
use Rattle.envy_base.specs.Shape.{positions_of}

-- What a client sees of a `Reloc`: the rows that are still to be moved to other positions, in order, and the
-- first and the last of these; the rows of the segment below the mark have been looked at by copies; how many
-- programs copies and moves have begun, and how many erases have, in all and since they were counted anew.
pub record Plan : Type 0 where
  pub moves : List ℕ
  pub aside : Option (ℕ × ℕ)
  pub mark : ℕ
  pub copied : ℕ
  pub moved : ℕ
  pub erased : ℕ
  pub since : ℕ

-- one of the first n rows of the spare was copied from row q
abbrev pub HasCopy : List ℕ → ℕ → ℕ → Type 0
HasCopy origins n q = (i : ℕ) × (i < n) × (slice_index origins i ≡ q)

-- row i of the spare e is a copy of a row of segment v
pub record IsCopy (sh : Shape) (backs origins : List ℕ) (flash : List (List ℕ)) (v e i : ℕ) : Type 0 where
  pub row : slice_index origins i / sh.rows ≡ v
  pub same : slice_index_or flash (e * sh.rows + i) [] ≡ slice_index_or flash (slice_index origins i) []
  pub back : slice_index backs (e * sh.rows + i) ≡ slice_index backs (slice_index origins i)

-- each row of the spare e below its fill is a copy of another row of segment v
pub record AreCopies (sh : Shape) (fills backs origins : List ℕ) (flash : List (List ℕ)) (v e : ℕ) : Type 0 where
  pub each : (i : ℕ) → i < slice_index fills e → IsCopy sh backs origins flash v e i
  pub apart : (i j : ℕ) → i < slice_index fills e → j < slice_index fills e → slice_index origins i ≡ slice_index origins j → i ≡ j

-- While a segment is being copied, the moves that are left are rows of it, the neighbour's numbers are
-- positions in order, and the spare holds copies.
pub record IsPrepared (sh : Shape) (job : Option Job) (positions fills backs origins : List ℕ) (flash : List (List ℕ)) (plan : Plan) : Type 0 where
  pub moves : (v : ℕ) → job ≡ Some (Copy v) → All (λ q. q / sh.rows ≡ v) plan.moves
  pub aside : (v first last : ℕ) → job ≡ Some (Copy v) → plan.aside ≡ Some (first, last) → (first ≤ last) × (last < positions_of sh)
  pub copies : (v e : ℕ) → job ≡ Some (Copy v) → IsSpare sh positions e → AreCopies sh fills backs origins flash v e

-- While a segment is being copied, each row of it below the mark that is kept has its copy, and the rows that
-- were copied lie below the mark. So no row is looked at twice.
pub record IsMarked (sh : Shape) (job : Option Job) (positions : List ℕ) (slots : List (Option Slot)) (undos : List (Option Undo)) (places : List (Option Place)) (fills origins : List ℕ) (mark : ℕ) : Type 0 where
  pub kept : (v e p q : ℕ) → job ≡ Some (Copy v) → IsSpare sh positions e → Refers slots undos places p q → q / sh.rows ≡ v → q < mark → HasCopy origins (slice_index fills e) q
  pub copied : (v e i : ℕ) → job ≡ Some (Copy v) → IsSpare sh positions e → i < slice_index fills e → slice_index origins i < mark

-- while a segment is being switched, it stands at a position and no row of it is kept
pub record IsSwitched (sh : Shape) (job : Option Job) (positions : List ℕ) (slots : List (Option Slot)) (undos : List (Option Undo)) (places : List (Option Place)) : Type 0 where
  pub placed : (v : ℕ) → job ≡ Some (Switch v) → IsPlaced sh positions v
  pub clear : (v p q : ℕ) → job ≡ Some (Switch v) → Refers slots undos places p q → q / sh.rows ≢ v

-- the plan is one for a board with this map
pub record IsPlanOf (sh : Shape) (f : Fields) (flash : List (List ℕ)) (plan : Plan) : Type 0 where
  pub prepared : IsPrepared sh f.job f.positions f.fills f.backs f.origins flash plan
  pub marked : IsMarked sh f.job f.positions f.slots f.undos f.places f.fills f.origins plan.mark
  pub switched : IsSwitched sh f.job f.positions f.slots f.undos f.places

-- the job takes no row of the segment away
abbrev pub IsFreeOf : Option Job → ℕ → Type 0
IsFreeOf job s = (job ≢ Some (Copy s)) × (job ≢ Some (Switch s))
