-- The heats of the partitions, and how they are kept: a halving is done a few heats at a time, in the flushes
-- that follow it.
use Rattle.std.specs.Prelude.{◌≡◌, ℕ, ◌+◌, ◌*◌, ◌/◌, ◌<◌, ◌≤◌, ◌==◌, min, nat_lt, List, length, map, replicate, sum, slice_set, slice_index, if◌then◌else◌}
use Rattle.std.specs.List.{range_with_len}

pub record Warmth : Type 0 where
  pub heats : List ℕ
  -- flushes since the start or the last halving of the heats
  pub flushes : ℕ

-- so many partitions, of which none is warm
abbrev pub cold : ℕ → Warmth
cold count = record { heats = replicate count 0; flushes = 0 }

-- heats of which partition g is warmer by one
abbrev pub warmer : List ℕ → ℕ → List ℕ
warmer heats g = slice_set heats g (slice_index heats g + 1)

-- after a flush to partition g: the 1,024th halves all heats
abbrev pub noted : Warmth → ℕ → Warmth
noted w g =
    if w.flushes + 1 == 1024 then record { heats = map (λ x. x / 2) (warmer w.heats g); flushes = 0 }
    else record { heats = warmer w.heats g; flushes = w.flushes + 1 }

-- of so many numbers the first that are halved, so many flushes after all were to be
abbrev pub halved_by : ℕ → ℕ → ℕ
halved_by flushes count = min (4 * flushes) count

-- the heat of partition g, where the first numbers are halved and the others aren't yet
abbrev pub heat_of : ℕ → List ℕ → ℕ → ℕ
heat_of halved kept g = if nat_lt g halved then slice_index kept g else slice_index kept g / 2

abbrev pub heats_of : ℕ → List ℕ → List ℕ
heats_of halved kept = map (heat_of halved kept) (range_with_len 0 (length kept))

-- the half of a heat that is halved
abbrev pub half_of : ℕ → List ℕ → ℕ → ℕ
half_of halved kept g = if nat_lt g halved then slice_index kept g / 2 else 0

abbrev pub halves_of : ℕ → List ℕ → ℕ
halves_of halved kept = sum (map (half_of halved kept) (range_with_len 0 (length kept)))

-- what is known of heats that are kept so: `warmth` is their sum, and `halves` the sum of the halves
pub record AreKept (kept : List ℕ) (since warmth halves : ℕ) : Type 0 where
  pub few : length kept ≤ 4095
  pub since_few : since < 1024
  pub sum_is : warmth ≡ sum (heats_of (halved_by since (length kept)) kept)
  pub cool : warmth ≤ 1024 + since
  pub halves_are : halves ≡ halves_of (halved_by since (length kept)) kept
