-- The choice by the rows of a pool.
use Rattle.std.specs.Prelude.{◌≡◌, ◌≢◌, ℕ, ◌-◌, ◌<◌, ◌≤◌, List, map, Option, Some, slice_index, MatchOption}
use Rattle.std.specs.List.{range_with_len}
use Rattle.envy_policy.specs.declared.choice.Choice.{Choice}
use Rattle.envy_policy.specs.Choice.{IsChoice, IsUsable}
use Rattle.envy_policy.specs.History.{History, partition_of}
use Rattle.envy_policy.specs.Lifetime.{RowCounts, IsLifetimeChoice}
use Rattle.envy_space.specs.Pool.{Pool, free_at, dead_at}
use Rattle.envy_base.specs.Shape.{positions_of}

-- the free, the dead, and the kept rows at each position
abbrev pub frees : Pool → List ℕ
frees pool = map (free_at pool) (range_with_len 0 (positions_of pool.shape))

abbrev pub deads : Pool → List ℕ
deads pool = map (dead_at pool) (range_with_len 0 (positions_of pool.shape))

abbrev pub kepts : Pool → List ℕ
kepts pool = map (λ k. slice_index pool.kept (slice_index pool.positions k)) (range_with_len 0 (positions_of pool.shape))

abbrev pub counts_in : Pool → RowCounts
counts_in pool = record { free = frees pool; dead = deads pool; kept = kepts pool }

-- by the page's home, or where lives are noted by the page's own
abbrev pub ChoiceFor : History → Pool → ℕ → ℕ → Choice → Type 0
ChoiceFor h pool home page choice = MatchOption h.lives
    (IsChoice h (frees pool) (deads pool) home choice)
    (λ n. IsLifetimeChoice n (counts_in pool) page choice)

-- partition g has a free or a dead row
abbrev pub IsUsableIn : History → Pool → ℕ → Type 0
IsUsableIn h pool g = IsUsable h (frees pool) (deads pool) g

-- of the usable partitions below the own one, g is the highest
pub record IsBelow (h : History) (pool : Pool) (own g : ℕ) : Type 0 where
  pub under : g < own
  pub usable : IsUsableIn h pool g
  pub highest : (y : ℕ) → y < own → IsUsableIn h pool y → y ≤ g

-- of the usable partitions above the own one, g is the lowest
pub record IsAbove (h : History) (pool : Pool) (own g : ℕ) : Type 0 where
  pub over : own < g
  pub usable : IsUsableIn h pool g
  pub lowest : (y : ℕ) → own < y → IsUsableIn h pool y → g ≤ y

-- position k of partition g has a free row, and another segment stands there than the avoided one
pub record IsFreeBeside (h : History) (pool : Pool) (g : ℕ) (avoided : Option ℕ) (k : ℕ) : Type 0 where
  pub position : k < positions_of pool.shape
  pub near : partition_of h k ≡ g
  pub free : 0 < free_at pool k
  pub other : avoided ≢ Some (slice_index pool.positions k)
