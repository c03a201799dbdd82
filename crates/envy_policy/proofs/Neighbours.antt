-- The neighbour that takes rows out of a hot partition.
use Rattle.std.proofs.Common.{◌≡◌, ◌≢◌, inl, inr, ℕ, ◌+◌, ◌-◌, ◌*◌, ◌<◌, ◌≤◌, length, sum, slice_index, Some, None, Fits, w32, ap, ap₂, arith}
use Rattle.std.proofs.lemmas.Nat.{mul-le}
use Rattle.std.proofs.lemmas.List.Sums.{get_or-le-sum_by}
use Rattle.envy_policy.specs.Choice.{IsHot, IsLeast, IsNeighbour, IsAside}
use Rattle.envy_policy.specs.History.{History, IsHistory}

-- a heat times the number of partitions is small
pub heat-fits : (h : History) (g heat count : ℕ) → IsHistory h → g < length h.heats → heat ≡ slice_index h.heats g → count ≡ length h.heats → Fits w32 (heat * count)
heat-fits h g heat count whole within at is =
    let small = get_or-le-sum_by (λ (x : ℕ). x) h.heats g 0 within in
    let most = mul-le heat count 2047 4095 (omega (arith, small, at, whole.warmth, whole.flushes)) (omega (arith, is, whole.few_heats, whole.few)) in
    omega (arith, most)

-- so is the number of a partition
pub next-fits : (h : History) (g : ℕ) → IsHistory h → g < length h.heats → Fits w32 (g + 1)
next-fits h g whole within = omega (arith, whole.few_heats, whole.few)

-- where there is one partition, none is hot
pub none-alone : (h : History) (g count : ℕ) → count ≡ length h.heats → count ≡ 1 → IsAside h g None
none-alone h g count is one hot = omega (arith, hot.0)

-- nor is one at the mean
pub none-cool : (h : History) (g heat count warmth : ℕ) → count ≡ length h.heats → heat ≡ slice_index h.heats g → warmth ≡ sum h.heats → heat * count ≤ warmth → IsAside h g None
none-cool h g heat count warmth is at all low hot = let same = ap₂ (λ (x y : ℕ). x * y) at is in omega (arith, same, hot.1)

-- one above it is
pub is-hot : (h : History) (g heat count warmth : ℕ) → count ≡ length h.heats → heat ≡ slice_index h.heats g → warmth ≡ sum h.heats → g < length h.heats → count ≢ 1 → warmth < heat * count → IsHot h g
is-hot h g heat count warmth is at all within several high = let same = ap₂ (λ (x y : ℕ). x * y) at is in (omega arith, omega (arith, same))

-- the first has one neighbour
pub aside-first : (h : History) (g : ℕ) → g ≡ 0 → IsHot h g → IsAside h g (Some 1)
aside-first h g first hot = (
  hot,
  record {
    holds = (hot.0, inr (omega arith));
    least = λ y near. let same = ap (slice_index h.heats) (one y near) in omega (arith, same);
    lowest = λ y near e. omega (arith, one y near);
  },
) where
  one : (y : ℕ) → IsNeighbour h g y → y ≡ 1
  one y (below, inl e) = absurd (omega (arith, e, first))
  one y (below, inr e) = omega (arith, e, first)

-- so has the last
pub aside-last : (h : History) (g : ℕ) → g ≢ 0 → g < length h.heats → g + 1 ≡ length h.heats → IsHot h g → IsAside h g (Some (g - 1))
aside-last h g some within last hot = (
  hot,
  record {
    holds = (omega arith, inl (omega arith));
    least = λ y near. let same = ap (slice_index h.heats) (one y near) in omega (arith, same);
    lowest = λ y near e. omega (arith, one y near);
  },
) where
  one : (y : ℕ) → IsNeighbour h g y → y ≡ g - 1
  one y (below, inl e) = omega (arith, e)
  one y (below, inr e) = absurd (omega (arith, e, below, last))

-- of two the lower, where it is as cool,
pub aside-below : (h : History) (g low high : ℕ) → g ≢ 0 → g < length h.heats → low ≡ slice_index h.heats (g - 1) → high ≡ slice_index h.heats (g + 1) → low ≤ high → IsHot h g → IsAside h g (Some (g - 1))
aside-below h g low high some within at_low at_high cool hot = (
  hot,
  record {
    holds = (omega arith, inl (omega arith));
    least = λ y near. (step y near).0;
    lowest = λ y near e. (step y near).1;
  },
) where
  step : (y : ℕ) → IsNeighbour h g y → (slice_index h.heats (g - 1) ≤ slice_index h.heats y) × (g - 1 ≤ y)
  step y (below, inl e) = let is : y ≡ g - 1 = omega (arith, e) in let same = ap (slice_index h.heats) is in (omega (arith, same), omega (arith, is))
  step y (below, inr e) = let same = ap (slice_index h.heats) e in (omega (arith, same, at_low, at_high, cool), omega (arith, e))

-- and else the higher
pub aside-above : (h : History) (g low high : ℕ) → g ≢ 0 → g < length h.heats → g + 1 ≢ length h.heats → low ≡ slice_index h.heats (g - 1) → high ≡ slice_index h.heats (g + 1) → high < low → IsHot h g → IsAside h g (Some (g + 1))
aside-above h g low high some within inner at_low at_high cool hot = (
  hot,
  record {
    holds = (omega arith, inr (omega arith));
    least = λ y near. (step y near).0;
    lowest = λ y near e. (step y near).1 e;
  },
) where
  step : (y : ℕ) → IsNeighbour h g y → (slice_index h.heats (g + 1) ≤ slice_index h.heats y) × (slice_index h.heats y ≡ slice_index h.heats (g + 1) → g + 1 ≤ y)
  step y (below, inl e) =
      let is : y ≡ g - 1 = omega (arith, e) in
      let same = ap (slice_index h.heats) is in
      (omega (arith, same, at_low, at_high, cool), λ other. absurd (omega (arith, same, at_low, at_high, cool, other)))
  step y (below, inr e) = let same = ap (slice_index h.heats) e in (omega (arith, same), λ other. omega (arith, e))
