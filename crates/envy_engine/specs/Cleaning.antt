-- The cleaning of a position.
use Rattle.std.specs.Prelude.{◌≡◌, ◌⊎◌, ℕ, ◌-◌, ◌/◌, ◌<◌, ◌≤◌, List, [], length, Option, None, Some, slice_index, All, Any}
use Rattle.envy_base.specs.declared.fields.Job.TheVariants.{Copy}
use Rattle.envy_base.specs.declared.shape.Shape.{Shape}
use Rattle.envy_soundness.specs.Sound.{IsKept}
use Rattle.envy_map.specs.Fields.{Fields, Chart, with_fields}
use Rattle.envy_map.specs.Writes.{with_job}
use Rattle.envy_policy.specs.History.{History, cleaned, first_of, end_of}
use Rattle.envy_reloc.specs.Cleaning.{Cleans}
use Rattle.envy_engine.specs.Leaving.{CountsBad}
use Rattle.envy_engine.specs.Steps.{Finishes, StopsStep}
use Rattle.envy_engine.specs.declared.parts.Parts.{Parts}

-- the four lowest kept rows of segment v in rising order, or all where there are fewer
pub record AreLowestKept (sh : Shape) (f : Fields) (v : ℕ) (rows : List ℕ) : Type 0 where
  pub few : length rows ≤ 4
  pub kept : All (λ q. (q / sh.rows ≡ v) × IsKept f q) rows
  pub rising : (i j : ℕ) → i < j → j < length rows → slice_index rows i < slice_index rows j
  pub all : (q : ℕ) → q / sh.rows ≡ v → IsKept f q → Any (λ r. r ≡ q) rows ⊎ ((length rows ≡ 4) × All (λ r. r < q) rows)

-- the moves of the cleaning of position k: where a partition beside takes rows, those
abbrev pub AreMoves : Shape → Fields → ℕ → Option ℕ → List ℕ → Type 0
AreMoves sh f k None moves = moves ≡ []
AreMoves sh f k (Some g) moves = AreLowestKept sh f (slice_index f.positions k) moves

-- the first and the last position of the partition that takes them
abbrev pub takers : History → Option ℕ → Option (ℕ × ℕ)
takers h None = None
takers h (Some g) = Some (first_of h g, end_of h g - 1)

-- The cleaning of position k begins.
pub record BeginsClean (k : ℕ) (aside : Option ℕ) (old : Chart) (was : Parts) (new : Chart) (now : Parts) : Type 0 where
  pub fields : new ≡ with_fields old (with_job (Some (Copy (slice_index old.fields.positions k))) old.fields)
  pub moves : AreMoves old.shape old.fields k aside now.reloc.moves
  pub takes : now.reloc.aside ≡ takers was.chooser aside
  pub chooser : now.chooser ≡ cleaned was.chooser k
  pub parts : now ≡ record was { chooser = now.chooser; reloc = now.reloc }

-- it begins and is finished
pub record CleansAll (k : ℕ) (aside : Option ℕ) (old : Chart) (was : Parts) (new : Chart) (now : Parts) : Type 0 where
  pub begun : Chart
  pub plan : Parts
  pub begins : BeginsClean k aside old was begun plan
  pub finishes : Finishes begun plan new now

-- it begins, and one of its steps is bad
pub record StopsClean (k : ℕ) (aside : Option ℕ) (old : Chart) (was : Parts) (new : Chart) (now : Parts) : Type 0 where
  pub begun : Chart
  pub plan : Parts
  pub begins : BeginsClean k aside old was begun plan
  pub stops : StopsStep begun plan new now

-- job and stages were finished, and a cleaning that they were goes on as it began
pub record FinishesClean (old : Chart) (was : Parts) (new : Chart) (now : Parts) : Type 0 where
  pub finishes : Finishes old was new now
  pub cleans : (positions : List ℕ) (k n : ℕ) → Cleans old.shape positions k n old.fields was.reloc.erased → Cleans old.shape positions k n new.fields now.reloc.erased

-- position k was cleaned, which heats, turns and lives note: it has the spare of before, and one erase is counted
pub record CleansWhole (k : ℕ) (aside : Option ℕ) (old : Chart) (was : Parts) (new : Chart) (now : Parts) : Type 0 where
  pub whole : CleansAll k aside old was new now
  pub chooser : now.chooser ≡ cleaned was.chooser k
  pub cleans : Cleans old.shape old.fields.positions k was.reloc.erased new.fields now.reloc.erased

-- it began, which heats, turns and lives note, and one of its steps was bad
pub record StopsWhole (k : ℕ) (aside : Option ℕ) (old : Chart) (was : Parts) (new : Chart) (now : Parts) : Type 0 where
  pub chooser : now.chooser ≡ cleaned was.chooser k
  pub stops : StopsClean k aside old was new now
  pub bads : CountsBad old new
