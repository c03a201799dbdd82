-- What a pair stands for.
use Rattle.std.specs.Prelude.{◌≡◌, ℕ, ◌/◌, ◌<◌, Bool, false, IsTrue, List, length, slice_index, slice_index_or, None, ◌||◌}
use Rattle.envy_array.specs.Array.{Array, owner}
use Rattle.envy_array.specs.Step.{Command, Step, Accepts}
use Rattle.envy_map.specs.Fields.{Chart}
use Rattle.envy_meaning.specs.Stands.{Stands, IsLost}
use Rattle.envy_soundness.specs.Words.{live}
use Rattle.envy_mirror.specs.Pair.{Side, Pair, is_good, side_at, IsClosed, IsDark}
use Rattle.envy_mirror.specs.Replies.{Reply, Off, Bad, Said}
use Rattle.envy_mirror.specs.declared.standing.Standing.{Standing}
use Rattle.envy_mirror.specs.declared.standing.Standing.TheVariants.{Good, Behind, Gone}
use Rattle.envy_base.specs.declared.page.TheConstants.{PAGE_WORDS}

abbrev pub is_stale : List Bool → ℕ → Bool
is_stale marks p = slice_index_or marks p false

-- nobody owns the page of this address, and the side has the array's word there
pub record IsFreshAt (c : Chart) (m : Array) (a : ℕ) : Type 0 where
  pub free : owner m (a / PAGE_WORDS) ≡ None
  pub same : slice_index (live c) a ≡ slice_index m.words a

-- a side that is Behind has no slot open, and is the array on each page that isn't stale
pub record Trails (c : Chart) (stale : List Bool) (m : Array) : Type 0 where
  pub closed : IsClosed c
  pub fresh : (a : ℕ) → a / PAGE_WORDS < length stale → is_stale stale (a / PAGE_WORDS) ≡ false → IsFreshAt c m a

abbrev pub AgreesBy : Standing → Chart → List Bool → Array → Type 0
AgreesBy Good c stale m = Stands c m
AgreesBy Behind c stale m = Trails c stale m
AgreesBy Gone c stale m = Unit {0}

abbrev pub Agrees : Side → List Bool → Array → Type 0
Agrees side stale m = AgreesBy side.standing side.memory.chart stale m

-- the pair stands for an array: some side is Good, and each Good one stands for it
pub record Mirrors (p : Pair) (m : Array) : Type 0 where
  pub some : IsTrue (is_good p.first || is_good p.second)
  pub first : Agrees p.first p.stale m
  pub second : Agrees p.second p.stale m

-- A command on the pair. Where it is answered it was a step of the array; where flash failed it wasn't done; where no
-- side is left, the one that was Good last finds it done or not done.
abbrev pub Gives : Array → Command → Reply → Pair → Type 0
Gives m command (Said answer) new = (n : Array) × Step m command answer n × Mirrors new n
Gives m command Bad new = (n : Array) × Accepts m command n × Mirrors new m
Gives m command Off new = IsDark new × IsLost m command (side_at new.last new).memory.chart
