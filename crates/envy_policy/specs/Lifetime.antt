-- The choice of the policy that parts pages by how long their last copy lived, by what it noted.
use Rattle.std.specs.Prelude.{◌≡◌, ◌≢◌, ◌⊎◌, ℕ, ◌+◌, ◌-◌, ◌*◌, ◌<◌, ◌≤◌, List, length, slice_index, Option, None, Some}
use Rattle.envy_policy.specs.declared.choice.Choice.{Choice}
use Rattle.envy_policy.specs.declared.choice.Choice.TheVariants.{Free, Clean}
use Rattle.envy_policy.specs.declared.class.Class.{Class}
use Rattle.envy_policy.specs.declared.class.Class.TheVariants.{Brief, Short, Long, Lasting}
use Rattle.envy_policy.specs.declared.fraction.Fraction.{Fraction}
use Rattle.envy_policy.specs.declared.fraction.Weighed.{Weighed}
use Rattle.envy_policy.specs.Choice.{IsLeast}
use Rattle.envy_policy.specs.Notes.{Notes, class_of, open_for}
use Rattle.envy_base.specs.declared.shape.TheConstants.{MOST_ROWS}

-- the numbers of free, of dead and of kept rows at each position
pub record RowCounts : Type 0 where
  pub free : List ℕ
  pub dead : List ℕ
  pub kept : List ℕ

-- the lowest of the positions that P holds of
abbrev pub IsLowest : (ℕ → Type 0) → ℕ → Type 0
IsLowest P position = IsLeast P (λ x. x) position

-- the position has a free row, and isn't the one that a running job empties
abbrev pub HasRoom : RowCounts → Option ℕ → ℕ → Type 0
HasRoom rows emptied position = (0 < slice_index rows.free position) × (emptied ≢ Some position)

-- the position has room and is open for the page's class
abbrev pub IsOwn : Notes → RowCounts → Option ℕ → ℕ → ℕ → Type 0
IsOwn n rows emptied page position = (open_for n.opened (class_of n page) ≡ Some position) × HasRoom rows emptied position

-- a running job empties the position, or it is open for some class
abbrev pub IsTaken : Notes → Option ℕ → ℕ → Type 0
IsTaken n emptied position = (emptied ≡ Some position) ⊎ ((class : Class) × (open_for n.opened class ≡ Some position))

-- the position has a free row and isn't taken
abbrev pub IsFresh : Notes → RowCounts → Option ℕ → ℕ → Type 0
IsFresh n rows emptied position = (0 < slice_index rows.free position) × (IsTaken n emptied position → ⊥)

-- where the page goes beside a running job: to the position that is open for its class, or else to the
-- lowest that is open for none; or to none yet
abbrev pub IsBeside : Notes → RowCounts → Option ℕ → ℕ → Option ℕ → Type 0
IsBeside n rows emptied page (Some position) =
    IsOwn n rows emptied page position
    ⊎ (((x : ℕ) → IsOwn n rows emptied page x → ⊥) × IsLowest (IsFresh n rows emptied) position)
IsBeside n rows emptied page None =
    ((x : ℕ) → IsOwn n rows emptied page x → ⊥) × ((x : ℕ) → IsFresh n rows emptied x → ⊥)

-- the position has dead rows, and no free one
abbrev pub IsFull : RowCounts → ℕ → Type 0
IsFull rows position = (0 < slice_index rows.dead position) × (slice_index rows.free position ≡ 0)

abbrev pub IsAtMost : Fraction → Fraction → Type 0
IsAtMost a b = a.over * b.under ≤ b.over * a.under

-- the dead rows times the age since the last cleaning, for each kept row twice and one more
abbrev pub aged : Notes → RowCounts → ℕ → Fraction
aged n rows position = record {
  over = slice_index rows.dead position * (n.clock - slice_index n.cleaned position + 1);
  under = 2 * slice_index rows.kept position + 1;
}

-- what cleaning the position is worth for a page of the class: for pages that are soon stored again the dead
-- rows alone count
abbrev pub worth : Notes → RowCounts → Class → ℕ → Fraction
worth n rows Brief position = record { over = slice_index rows.dead position; under = 1 }
worth n rows Short position = aged n rows position
worth n rows Long position = aged n rows position
worth n rows Lasting position = aged n rows position

-- among the numbers that P holds of, x has the greatest f, and is the lowest of those with as much
pub record IsGreatest (P : ℕ → Type 0) (f : ℕ → Fraction) (x : ℕ) : Type 0 where
  pub holds : P x
  pub most : (y : ℕ) → P y → IsAtMost (f y) (f x)
  pub lowest : (y : ℕ) → P y → IsAtMost (f x) (f y) → x ≤ y

abbrev pub IsVictim : Notes → RowCounts → ℕ → ℕ → Type 0
IsVictim n rows page position = IsGreatest (IsFull rows) (worth n rows (class_of n page)) position

-- the victim among the positions below this one, with its worth; none where none there is full
abbrev pub IsBestBelow : ℕ → Notes → RowCounts → Class → Option Weighed → Type 0
IsBestBelow end n rows class None = (x : ℕ) → x < end → IsFull rows x → ⊥
IsBestBelow end n rows class (Some best) =
    (best.worth ≡ worth n rows class best.position)
    × IsGreatest (λ x. (x < end) × IsFull rows x) (worth n rows class) best.position

-- the first of four rules that applies: a free row at the position that is open for the page's class; one at
-- the lowest position that is open for none; a cleaning of what is worth most; a free row at the lowest position
abbrev pub IsLifetimeChoice : Notes → RowCounts → ℕ → Choice → Type 0
IsLifetimeChoice n rows page (Free position) =
    IsBeside n rows None page (Some position)
    ⊎ (IsBeside n rows None page None × ((x : ℕ) → IsFull rows x → ⊥) × IsLowest (λ x. 0 < slice_index rows.free x) position)
IsLifetimeChoice n rows page (Clean position aside) =
    IsBeside n rows None page None × IsVictim n rows page position × (aside ≡ None)

-- the position is one that there is, with rows of the kind, and no partition is beside it
abbrev pub HasRowsFor : RowCounts → Choice → Type 0
HasRowsFor rows (Free position) = (position < length rows.free) × (0 < slice_index rows.free position)
HasRowsFor rows (Clean position aside) = (position < length rows.dead) × (0 < slice_index rows.dead position) × (aside ≡ None)

-- the counts are of so many positions, each of at most the rows of a board
pub record IsCounted (positions : ℕ) (rows : RowCounts) : Type 0 where
  pub free : length rows.free ≡ positions
  pub dead : length rows.dead ≡ positions
  pub kept : length rows.kept ≡ positions
  pub few_dead : (position : ℕ) → slice_index rows.dead position ≤ MOST_ROWS
  pub few_kept : (position : ℕ) → slice_index rows.kept position ≤ MOST_ROWS
