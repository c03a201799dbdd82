-- That the relocation of a segment with a dead row leaves a free row.
use Rattle.std.specs.Prelude.{◌≡◌, ◌≢◌, ℕ, ◌/◌, ◌<◌, List, length, Option, None, Some, slice_index, slice_set}
use Rattle.envy_base.specs.Counting.{up}
use Rattle.envy_base.specs.declared.fields.Job.{Job}
use Rattle.envy_base.specs.declared.fields.Job.TheVariants.{Idle, Copy, Switch, Erase}
use Rattle.envy_base.specs.declared.shape.Shape.{Shape}
use Rattle.envy_map.specs.Fields.{Fields}
use Rattle.envy_soundness.specs.Sound.{IsSpare, Names}
use Rattle.envy_base.specs.Shape.{all_positions_of, positions_of}

-- row d is dead, and no row of the spare e was copied from it
pub record IsSkipped (e d : ℕ) (f : Fields) : Type 0 where
  pub dead : (p : ℕ) → Names f p d → ⊥
  pub apart : (i : ℕ) → i < slice_index f.fills e → slice_index f.origins i ≢ d

-- the positions in use are the same
abbrev pub UsesSame : Shape → List ℕ → List ℕ → Type 0
UsesSame sh positions others = (j : ℕ) → j < positions_of sh → slice_index positions j ≡ slice_index others j

-- Segment v, which stood at position k by these positions, is relocated into the spare e, and row d of it is
-- dead. So many erases had been counted, and m are now.
abbrev pub CleansBy : Shape → ℕ → ℕ → ℕ → ℕ → List ℕ → ℕ → Option Job → Fields → ℕ → Type 0
CleansBy sh k e v d positions n (Some (Copy w)) f m = (w ≡ v) × (f.positions ≡ positions) × (m ≡ n) × IsSkipped e d f
CleansBy sh k e v d positions n (Some (Switch w)) f m = (w ≡ v) × (f.positions ≡ positions) × (m ≡ n) × (slice_index f.fills e < sh.rows)
CleansBy sh k e v d positions n (Some Erase) f m = (f.positions ≡ slice_set positions k e) × (m ≡ n) × (slice_index f.fills e < sh.rows)
CleansBy sh k e v d positions n (Some Idle) f m = UsesSame sh f.positions (slice_set positions k e) × (m ≡ up n) × (slice_index f.fills e < sh.rows)
CleansBy sh k e v d positions n None f m = ⊥

pub record Cleans (sh : Shape) (positions : List ℕ) (k n : ℕ) (f : Fields) (m : ℕ) : Type 0 where
  pub e : ℕ
  pub v : ℕ
  pub d : ℕ
  pub low : k < positions_of sh
  pub long : length positions ≡ all_positions_of sh
  pub here : slice_index positions k ≡ v
  pub spare : IsSpare sh positions e
  pub row : d / sh.rows ≡ v
  pub at : CleansBy sh k e v d positions n f.job f m
