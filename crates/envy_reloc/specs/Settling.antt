-- How a restart ends a relocation that power stopped.
use Rattle.std.specs.Prelude.{◌≡◌, ◌⊎◌, ℕ, ◌<◌, List, Option, None, Some, slice_index, slice_set}
use Rattle.envy_base.specs.declared.shape.Shape.{Shape}
use Rattle.envy_base.specs.declared.fields.Job.{Job}
use Rattle.envy_base.specs.declared.fields.Job.TheVariants.{Idle, Copy, Switch, Erase}
use Rattle.envy_map.specs.Fields.{Fields}
use Rattle.envy_map.specs.Writes.{with_job}
use Rattle.envy_soundness.specs.Sound.{IsPlaced, IsSpare}
use Rattle.envy_reloc.specs.Switching.{SwitchesPlace}
use Rattle.envy_base.specs.Shape.{positions_of}

-- the position in use of segment s, or none
abbrev pub Finds : Shape → List ℕ → ℕ → Option ℕ → Type 0
Finds sh positions s (Some k) = (k < positions_of sh) × (slice_index positions k ≡ s)
Finds sh positions s None = IsPlaced sh positions s → ⊥

-- nothing but the job, positions and places has changed
abbrev pub KeepsOthers : Fields → Fields → Type 0
KeepsOthers f g = g ≡ record f { job = g.job; positions = g.positions; places = g.places }

-- the copy is given up: the spare is to be erased
abbrev pub GivesUp : Fields → Fields → Type 0
GivesUp f g = g ≡ with_job (Some Erase) f

-- The switch to the spare e is finished: each place that names a row of which e has a copy names that copy, e
-- stands at the position of segment v, and v is to be erased.
pub record Finishes (sh : Shape) (v : ℕ) (f g : Fields) : Type 0 where
  pub k : ℕ
  pub e : ℕ
  pub position : k < positions_of sh
  pub here : slice_index f.positions k ≡ v
  pub spare : IsSpare sh f.positions e
  pub fields : g ≡ record f { job = Some Erase; positions = slice_set f.positions k e; places = g.places }
  pub switched : (p : ℕ) → SwitchesPlace sh e (slice_index f.fills e) f g p

-- what becomes of the map, by the job that power stopped
abbrev pub Settles : Shape → Option Job → Fields → Fields → Type 0
Settles sh (Some Idle) f g = g ≡ f
Settles sh (Some Erase) f g = g ≡ f
Settles sh (Some (Copy v)) f g = GivesUp f g
Settles sh (Some (Switch v)) f g = (IsSpare sh f.positions v × GivesUp f g) ⊎ Finishes sh v f g
Settles sh None f g = ⊥
