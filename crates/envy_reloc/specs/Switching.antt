-- What the switching of references from a segment to its copies leaves.
use Rattle.std.specs.Prelude.{◌≡◌, ◌≢◌, ◌⊎◌, ℕ, ◌+◌, ◌*◌, ◌/◌, ◌<◌, Option, None, Some, slice_index}
use Rattle.envy_base.specs.declared.shape.Shape.{Shape}
use Rattle.envy_base.specs.declared.fields.Job.TheVariants.{Switch}
use Rattle.envy_base.specs.declared.fields.Place.TheVariants.{Row}
use Rattle.envy_base.specs.declared.fields.Slot.TheVariants.{Active}
use Rattle.envy_base.specs.declared.fields.Undo.TheVariants.{Shadow}
use Rattle.envy_map.specs.Fields.{Fields, place, undo, slot}
use Rattle.envy_soundness.specs.Jobs.{IsClear}
use Rattle.envy_soundness.specs.Naming.{IsNamed, with_named}
use Rattle.envy_soundness.specs.Sound.{Names}
use Rattle.envy_reloc.specs.declared.row_switch.Switched.{Switched}

-- the page that keeps the row that row i of the spare e was copied from names row i of e then
abbrev pub SwitchesRow : Shape → Fields → ℕ → ℕ → Option Switched → Fields → Type 0
SwitchesRow sh f e i None g = (g ≡ f) × ((p : ℕ) → Names f p (slice_index f.origins i) → ⊥)
SwitchesRow sh f e i (Some s) g =
    (s.row ≡ slice_index f.origins i) × (s.kept.page < sh.pages) × IsNamed f s.kept.page s.row s.kept.undo × (g ≡ with_named s.kept.page (e * sh.rows + i) s.kept.undo f)

-- The place of page p named a row that one of the first n rows of the spare e was copied from, and names that
-- copy now; or it named none, and stays.
abbrev pub SwitchesPlace : Shape → ℕ → ℕ → Fields → Fields → ℕ → Type 0
SwitchesPlace sh e n f g p =
    ((place g p ≡ place f p) × ((i : ℕ) → i < n → place f p ≢ Some (Row (slice_index f.origins i))))
    ⊎ ((i : ℕ) × (i < n) × (place f p ≡ Some (Row (slice_index f.origins i))) × (place g p ≡ Some (Row (e * sh.rows + i))))

-- and so with its undo, while the undo's slot is active
abbrev pub SwitchesUndo : Shape → ℕ → ℕ → Fields → Fields → ℕ → Type 0
SwitchesUndo sh e n f g p =
    ((undo g p ≡ undo f p) × ((i t : ℕ) → i < n → undo f p ≡ Some (Shadow t (slice_index f.origins i)) → slot f t ≢ Some Active))
    ⊎ ((i t : ℕ) × (i < n) × (undo f p ≡ Some (Shadow t (slice_index f.origins i))) × (slot f t ≡ Some Active) × (undo g p ≡ Some (Shadow t (e * sh.rows + i))))

-- the first n rows of the spare have been switched to, and nothing but places and undos has changed
pub record SwitchesRows (sh : Shape) (e n : ℕ) (f g : Fields) : Type 0 where
  pub fields : g ≡ record f { places = g.places; undos = g.undos }
  pub by_place : (p : ℕ) → SwitchesPlace sh e n f g p
  pub by_undo : (p : ℕ) → SwitchesUndo sh e n f g p

-- row r of the spare e is the copy of row q
abbrev pub IsCopyIn : Shape → Fields → ℕ → ℕ → ℕ → Type 0
IsCopyIn sh f e q r = (i : ℕ) × (i < slice_index f.fills e) × (slice_index f.origins i ≡ q) × (r ≡ e * sh.rows + i)

-- Each place that named a row of segment v, and each undo of an active slot that did, names the copy of that
-- row in the spare e. All others stay, and nothing else has changed but the job.
pub record SwitchesAll (sh : Shape) (v e : ℕ) (f g : Fields) : Type 0 where
  pub fields : g ≡ record f { job = Some (Switch v); places = g.places; undos = g.undos }
  pub place_switched : (p q : ℕ) → place f p ≡ Some (Row q) → q / sh.rows ≡ v → (r : ℕ) × IsCopyIn sh f e q r × (place g p ≡ Some (Row r))
  pub place_stays : (p : ℕ) → ((q : ℕ) → place f p ≡ Some (Row q) → q / sh.rows ≢ v) → place g p ≡ place f p
  pub undo_switched : (p t q : ℕ) → undo f p ≡ Some (Shadow t q) → slot f t ≡ Some Active → q / sh.rows ≡ v → (r : ℕ) × IsCopyIn sh f e q r × (undo g p ≡ Some (Shadow t r))
  pub undo_stays : (p : ℕ) → ((t q : ℕ) → undo f p ≡ Some (Shadow t q) → slot f t ≡ Some Active → q / sh.rows ≢ v) → undo g p ≡ undo f p
  pub clear : IsClear sh g v
