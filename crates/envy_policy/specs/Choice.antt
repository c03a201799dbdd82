-- The choice of the position that a page is written to, from the numbers of free and of dead rows
-- at each position and the page's home.
use Rattle.std.specs.Prelude.{◌≡◌, ◌⊎◌, ℕ, ◌+◌, ◌-◌, ◌*◌, ◌<◌, ◌≤◌, nat_lt, List, length, sum, slice_index, Option, None, Some, if◌then◌else◌}
use Rattle.envy_policy.specs.declared.choice.Choice.{Choice}
use Rattle.envy_policy.specs.declared.choice.Choice.TheVariants.{Free, Clean}
use Rattle.envy_policy.specs.declared.setup.Victims.{Victims}
use Rattle.envy_policy.specs.declared.setup.Victims.TheVariants.{MostDead, InTurn}
use Rattle.envy_policy.specs.History.{History, partition_of, first_of, end_of}
use Rattle.envy_policy.specs.Setup.{victims_of}

-- among the numbers that P holds of, x has the least f, and is the lowest of those with as much
pub record IsLeast (P : ℕ → Type 0) (f : ℕ → ℕ) (x : ℕ) : Type 0 where
  pub holds : P x
  pub least : (y : ℕ) → P y → f x ≤ f y
  pub lowest : (y : ℕ) → P y → f y ≡ f x → x ≤ y

-- among the numbers that P holds of, x has the most f, and is the lowest of those with as much
pub record IsMost (P : ℕ → Type 0) (f : ℕ → ℕ) (x : ℕ) : Type 0 where
  pub holds : P x
  pub most : (y : ℕ) → P y → f y ≤ f x
  pub lowest : (y : ℕ) → P y → f y ≡ f x → x ≤ y

-- the position lies in partition g and has rows, by this list of their numbers
abbrev pub HasRows : History → List ℕ → ℕ → ℕ → Type 0
HasRows h rows g position = (partition_of h position ≡ g) × (0 < slice_index rows position)

-- some position of partition g has a free or a dead row
abbrev pub IsUsable : History → List ℕ → List ℕ → ℕ → Type 0
IsUsable h free dead g = (position : ℕ) × (HasRows h free g position ⊎ HasRows h dead g position)

abbrev pub distance : ℕ → ℕ → ℕ
distance x y = (x - y) + (y - x)

-- the usable partition nearest to the home's, which is the home's own where that is usable
abbrev pub IsNearest : History → List ℕ → List ℕ → ℕ → ℕ → Type 0
IsNearest h free dead home g = IsLeast (IsUsable h free dead) (distance (partition_of h home)) g

-- how many positions further the position comes, going round partition g from its turn: 1 to all
abbrev pub steps : History → ℕ → ℕ → ℕ
steps h g position =
    let turn = slice_index h.turns g in
    if nat_lt turn position then position - turn else position + (end_of h g - first_of h g) - turn

-- the position of partition g that is cleaned: the one with most dead rows, or the next in turn that has one
abbrev pub IsVictim : Victims → History → List ℕ → ℕ → ℕ → Type 0
IsVictim MostDead h dead g position = IsMost (HasRows h dead g) (slice_index dead) position
IsVictim InTurn h dead g position = IsLeast (HasRows h dead g) (steps h g) position

-- partition g is warmer than the mean of several
abbrev pub IsHot : History → ℕ → Type 0
IsHot h g = (1 < length h.heats) × (sum h.heats < slice_index h.heats g * length h.heats)

abbrev pub IsNeighbour : History → ℕ → ℕ → Type 0
IsNeighbour h g other = (other < length h.heats) × ((other + 1 ≡ g) ⊎ (other ≡ g + 1))

-- the neighbour that takes rows out of partition g: the cooler one, where g is hot.
-- Where there is one partition, there is none
abbrev pub IsAside : History → ℕ → Option ℕ → Type 0
IsAside h g (Some other) = IsHot h g × IsLeast (IsNeighbour h g) (slice_index h.heats) other
IsAside h g None = IsHot h g → ⊥

-- a free row of the nearest usable partition, at its lowest position that has one; where it has none, a victim
abbrev pub IsChoice : History → List ℕ → List ℕ → ℕ → Choice → Type 0
IsChoice h free dead home (Free position) =
    let g = partition_of h position in IsNearest h free dead home g × IsLeast (HasRows h free g) (λ x. x) position
IsChoice h free dead home (Clean position aside) =
    let g = partition_of h position in
    IsNearest h free dead home g × ((x : ℕ) → HasRows h free g x → ⊥) × IsVictim (victims_of h.policy) h dead g position × IsAside h g aside

-- the position is one that there is, with rows of the kind; and so is the partition beside it
abbrev pub IsWithin : History → List ℕ → List ℕ → Choice → Type 0
IsWithin h free dead (Free position) = (position < h.positions) × (0 < slice_index free position)
IsWithin h free dead (Clean position aside) = (position < h.positions) × (0 < slice_index dead position) × ((g : ℕ) → aside ≡ Some g → g < length h.heats)
