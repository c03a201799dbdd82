-- What a pool answers, as a choice by lists of its rows asks for it.
use Rattle.std.proofs.Common.{◌≡◌, ◌≢◌, ◌⊎◌, inl, inr, true, false, ℕ, ◌+◌, ◌-◌, ◌/◌, ◌<◌, ◌≤◌, List, length, get_or, slice_index, Option, None, Some, MatchOption, IsTrue, IsSome, IfSome, ◌↔◌, refl, sym, ◌∙◌, ap, subst, arith}
use Rattle.std.specs.Prelude.{◌==◌, map, is_some, not}
use Rattle.std.specs.List.{range_with_len}
use Rattle.std.specs.Option.{option_eq}
use Rattle.std.proofs.lemmas.Bool.{cases_lt, cases_eq, eq-eqb, ne_eqb}
use Rattle.std.proofs.lemmas.Nat.{le-div, div_below}
use Rattle.std.proofs.lemmas.List.FromFn.{get_or-map-range_with_len, length-map-range_with_len}
use Rattle.envy_policy.specs.declared.choice.Choice.TheVariants.{Free, Clean}
use Rattle.envy_policy.specs.declared.setup.Victims.{Victims}
use Rattle.envy_policy.specs.declared.setup.Victims.TheVariants.{MostDead, InTurn}
use Rattle.envy_policy.specs.Setup.{victims_of}
use Rattle.envy_policy.specs.Choice.{HasRows, IsAside, IsChoice, IsLeast, IsMost, IsNearest, IsVictim, distance}
use Rattle.envy_policy.specs.Deciding.{Nearer}
use Rattle.envy_policy.specs.History.{History, IsHistory, run, partition_of, first_of, end_of}
use Rattle.envy_policy.proofs.Choosing.{FirstWith, rows-below, usable-counted, within-end, within-first, within-is}
use Rattle.envy_policy.proofs.Partitions.{run-holds}
use Rattle.envy_space.specs.Pool.{Pool, IsPool, free_at, dead_at, usable_at}
use Rattle.envy_space.specs.Winners.{Highest, IsLowest, Lowest, Wins}
use Rattle.envy_victims.specs.Choosing.{IsAbove, IsBelow, IsFreeBeside, IsUsableIn, deads, frees}
use Rattle.envy_base.specs.Shape.{positions_of}

-- the rows at n positions
abbrev pub rows_of : (ℕ → ℕ) → ℕ → List ℕ
rows_of f n = map f (range_with_len 0 n)

pub long : (f : ℕ → ℕ) (n : ℕ) → length (rows_of f n) ≡ n
long f n = length-map-range_with_len f 0 n

at : (f : ℕ → ℕ) (n k : ℕ) → k < n → get_or (rows_of f n) k 0 ≡ f k
at f n k lt = get_or-map-range_with_len f 0 n k k 0 lt (omega arith)

pub frees-long : (pool : Pool) → length (frees pool) ≡ positions_of pool.shape
frees-long pool = long (free_at pool) (positions_of pool.shape)

pub deads-long : (pool : Pool) → length (deads pool) ≡ positions_of pool.shape
deads-long pool = long (dead_at pool) (positions_of pool.shape)

-- the lowest position with a row is the first of the list with one
pub first-with : (f : ℕ → ℕ) (n first end : ℕ) (found : Option ℕ) → end ≤ n → Lowest f first end found → FirstWith (rows_of f n) first end found
first-with f n first end None within lowest = λ k low high. at f n k (omega arith) ∙ lowest k low high
first-with f n first end (Some p) within lowest =
    let below = lowest.below in
    let here = at f n p (omega arith) in
    let some = lowest.some in
    (lowest.above, below, omega arith, λ k low high. at f n k (omega arith) ∙ lowest.none k low high)

-- a partition is usable where one of its positions has a free or a dead row
pub usable-at : (h : History) (pool : Pool) (g : ℕ) → IsUsableIn h pool g → (k : ℕ) × (k < positions_of pool.shape) × (partition_of h k ≡ g) × (0 < usable_at pool k)
usable-at h pool g (k, inl has) =
    let below = rows-below (frees pool) (positions_of pool.shape) k (frees-long pool) has.1 in
    let here = at (free_at pool) (positions_of pool.shape) k below in
    let some = has.1 in
    (k, below, has.0, omega arith)
usable-at h pool g (k, inr has) =
    let below = rows-below (deads pool) (positions_of pool.shape) k (deads-long pool) has.1 in
    let here = at (dead_at pool) (positions_of pool.shape) k below in
    let some = has.1 in
    (k, below, has.0, omega arith)

-- a position with a row makes its partition usable
pub at-usable : (h : History) (pool : Pool) (g k : ℕ) → k < positions_of pool.shape → partition_of h k ≡ g → 0 < usable_at pool k → IsUsableIn h pool g
at-usable h pool g k below is some = elim (cases_lt 0 (free_at pool k)) [
  | inl has ↦ let here = at (free_at pool) (positions_of pool.shape) k below in (k, inl (is, omega arith))
  | inr none ↦ let here = at (dead_at pool) (positions_of pool.shape) k below in (k, inr (is, omega arith))
]

-- the run of a partition tells whether it is usable
pub usable-found : (h : History) (pool : Pool) (g first end : ℕ) (found : Option ℕ) → IsHistory h → h.positions ≡ positions_of pool.shape → first ≡ first_of h g → end ≡ end_of h g → Lowest (usable_at pool) first end found → IsTrue (is_some found) ↔ IsUsableIn h pool g
usable-found h pool g first end None whole same low high lowest = (
  λ is. let no : false ≡ true = is in cc,
  λ usable.
      let (k, below, is, some) = usable-at h pool g usable in
      let low_k = within-first h g k whole is in
      let high_k = within-end h g k whole (omega arith) is in
      let none = lowest k (omega arith) (omega arith) in
      absurd (omega arith),
)
usable-found h pool g first end (Some k) whole same low high lowest =
    let above = lowest.above in
    let below = lowest.below in
    (λ _. at-usable h pool g k (omega arith) (within-is h g k whole (omega arith) (omega arith)) lowest.some, λ _. refl)

-- a position before a partition's first lies in a partition below, and one from its end on in one above
lower-partition : (h : History) (own k : ℕ) → IsHistory h → k < first_of h own → partition_of h k < own
lower-partition h own k whole low = div_below k (run h) own whole.part low

higher-partition : (h : History) (own k : ℕ) → IsHistory h → end_of h own ≤ k → k < h.positions → own < partition_of h k
higher-partition h own k whole high within =
    let least : own + 1 ≤ k / run h = le-div (own + 1) k (run h) whole.part (omega arith) in
    omega arith

-- and the other way round
before-first : (h : History) (own k : ℕ) → IsHistory h → partition_of h k < own → k < first_of h own
before-first h own k whole less = elim (cases_lt k (first_of h own)) [
  | inl below ↦ below
  | inr above ↦ let least : own ≤ k / run h = le-div own k (run h) whole.part above in absurd (omega arith)
]

from-end : (h : History) (own k : ℕ) → IsHistory h → own < partition_of h k → end_of h own ≤ k
from-end h own k whole more = elim (cases_lt k (first_of h own + run h)) [
  | inl below ↦ let most : k / run h < own + 1 = div_below k (run h) (own + 1) whole.part (omega arith) in absurd (omega arith)
  | inr above ↦ omega arith
]

-- partitions go up with their positions
up : (h : History) (j k : ℕ) → IsHistory h → j ≤ k → partition_of h j ≤ partition_of h k
up h j k whole le = let own = run-holds (run h) j whole.part in le-div (j / run h) k (run h) whole.part (omega arith)

-- without a row below the partition none below it is usable
pub below-none : (h : History) (pool : Pool) (own first : ℕ) → IsHistory h → first ≡ first_of h own → Highest (usable_at pool) 0 first None → (y : ℕ) → y < own → IsUsableIn h pool y → ⊥
below-none h pool own first whole low highest y less usable =
    let (k, below, is, some) = usable-at h pool y usable in
    let before = before-first h own k whole (omega arith) in
    let none = highest k (omega arith) (omega arith) in
    omega arith

-- the highest position below it with a row is in the nearest usable partition below
pub below-some : (h : History) (pool : Pool) (own first k g : ℕ) → IsHistory h → h.positions ≡ positions_of pool.shape → first ≡ first_of h own → first < h.positions → Highest (usable_at pool) 0 first (Some k) → g ≡ partition_of h k → IsBelow h pool own g
below-some h pool own first k g whole same low within highest is =
    let below = highest.below in
    let less = lower-partition h own k whole (omega arith) in
    record {
      under = omega arith;
      usable = at-usable h pool g k (omega arith) (sym is) highest.some;
      highest = λ y lower usable. most y lower usable;
    }
  where
    most : (y : ℕ) → y < own → IsUsableIn h pool y → y ≤ g
    most y lower usable =
        let (j, inside, of_y, some) = usable-at h pool y usable in
        let before = before-first h own j whole (omega arith) in
        elim (cases_lt k j) [
          | inl above ↦ let none = highest.none j above (omega arith) in absurd (omega arith)
          | inr at_most ↦ let upward = up h j k whole at_most in omega arith
        ]

-- without a row above it none above it is usable
pub above-none : (h : History) (pool : Pool) (own end : ℕ) → IsHistory h → end ≡ end_of h own → Lowest (usable_at pool) end (positions_of pool.shape) None → (y : ℕ) → own < y → IsUsableIn h pool y → ⊥
above-none h pool own end whole high lowest y more usable =
    let (k, below, is, some) = usable-at h pool y usable in
    let after = from-end h own k whole (omega arith) in
    let none = lowest k (omega arith) below in
    omega arith

-- the lowest position above it with a row is in the nearest above
pub above-some : (h : History) (pool : Pool) (own end k g : ℕ) → IsHistory h → h.positions ≡ positions_of pool.shape → end ≡ end_of h own → Lowest (usable_at pool) end (positions_of pool.shape) (Some k) → g ≡ partition_of h k → IsAbove h pool own g
above-some h pool own end k g whole same high lowest is =
    let above = lowest.above in
    let below = lowest.below in
    let more = higher-partition h own k whole (omega arith) (omega arith) in
    record {
      over = omega arith;
      usable = at-usable h pool g k below (sym is) lowest.some;
      lowest = λ y higher usable. least y higher usable;
    }
  where
    least : (y : ℕ) → own < y → IsUsableIn h pool y → g ≤ y
    least y higher usable =
        let (j, inside, of_y, some) = usable-at h pool y usable in
        let after = from-end h own j whole (omega arith) in
        elim (cases_lt j k) [
          | inl lower ↦ let none = lowest.none j (omega arith) lower in absurd (omega arith)
          | inr at_least ↦ let upward = up h k j whole at_least in omega arith
        ]

-- what is known of the usable partitions on either side
abbrev pub Below : History → Pool → ℕ → Option ℕ → Type 0
Below h pool own found = MatchOption found ((y : ℕ) → y < own → IsUsableIn h pool y → ⊥) (IsBelow h pool own)

abbrev pub Above : History → Pool → ℕ → Option ℕ → Type 0
Above h pool own found = MatchOption found ((y : ℕ) → own < y → IsUsableIn h pool y → ⊥) (IsAbove h pool own)

-- a usable partition is nearest to itself
pub nearest-own : (h : History) (pool : Pool) (home own : ℕ) → own ≡ partition_of h home → IsUsableIn h pool own → IsNearest h (frees pool) (deads pool) home own
nearest-own h pool home own is usable = record {
  holds = usable;
  least = λ y other. omega arith;
  lowest = λ y other e. omega arith;
}

-- a usable partition is no nearer than the nearest on its side
beside : (h : History) (pool : Pool) (own g : ℕ) (below above : Option ℕ) → (IsUsableIn h pool own → ⊥) → Below h pool own below → Above h pool own above → Nearer own below above (Some g) → (y : ℕ) → IsUsableIn h pool y → (distance own g ≤ distance own y) × (distance own y ≡ distance own g → g ≤ y)
beside h pool own g below above unusable under over nearer y usable = side (cases_lt y own)
  where
    lower : (found : Option ℕ) → y < own → Below h pool own found → (b : ℕ) × (found ≡ Some b) × (y ≤ b) × (b < own)
    lower None less none = absurd (none y less usable)
    lower (Some b) less is = (b, refl, is.highest y less usable, is.under)

    higher : (found : Option ℕ) → own < y → Above h pool own found → (b : ℕ) × (found ≡ Some b) × (b ≤ y) × (own < b)
    higher None more none = absurd (none y more usable)
    higher (Some b) more is = (b, refl, is.lowest y more usable, is.over)

    side : (y < own) ⊎ (own ≤ y) → (distance own g ≤ distance own y) × (distance own y ≡ distance own g → g ≤ y)
    side (inl less) =
        let (b, is, most, under_own) = lower below less under in
        let least = nearer.least b (inl is) in
        (omega arith, λ e. let lowest = nearer.lowest b (inl is) (omega arith) in omega arith)
    side (inr ge) = elim (cases_eq y own) [
      | inl same ↦ absurd (unusable (subst (λ (x : ℕ). IsUsableIn h pool x) same usable))
      | inr other ↦
          let more : own < y = omega arith in
          let (b, is, most, over_own) = higher above more over in
          let least = nearer.least b (inr is) in
          (omega arith, λ e. let lowest = nearer.lowest b (inr is) (omega arith) in omega arith)
    ]

-- else the nearer of the two beside it is
pub nearest-beside : (h : History) (pool : Pool) (home own g : ℕ) (below above : Option ℕ) → own ≡ partition_of h home → (IsUsableIn h pool own → ⊥) → Below h pool own below → Above h pool own above → Nearer own below above (Some g) → IsNearest h (frees pool) (deads pool) home g
nearest-beside h pool home own g below above own_is unusable under over nearer =
    subst (λ (x : ℕ). IsLeast (IsUsableIn h pool) (distance x) g) own_is (record {
      holds = holds below above under over nearer.holds;
      least = λ y usable. (beside h pool own g below above unusable under over nearer y usable).0;
      lowest = λ y usable e. (beside h pool own g below above unusable under over nearer y usable).1 e;
    })
  where
    of_below : (found : Option ℕ) → Below h pool own found → found ≡ Some g → IsUsableIn h pool g
    of_below None none e = let no : None ≡ Some g = e in cc
    of_below (Some b) is e = let same : b ≡ g = cc in subst (λ (x : ℕ). IsUsableIn h pool x) same is.usable

    of_above : (found : Option ℕ) → Above h pool own found → found ≡ Some g → IsUsableIn h pool g
    of_above None none e = let no : None ≡ Some g = e in cc
    of_above (Some b) is e = let same : b ≡ g = cc in subst (λ (x : ℕ). IsUsableIn h pool x) same is.usable

    holds : (below above : Option ℕ) → Below h pool own below → Above h pool own above → ((below ≡ Some g) ⊎ (above ≡ Some g)) → IsUsableIn h pool g
    holds below above under over (inl e) = of_below below under e
    holds below above under over (inr e) = of_above above over e

-- some partition is usable, so one is found
pub nearer-some : (h : History) (pool : Pool) (own : ℕ) (below above found : Option ℕ) → (IsUsableIn h pool own → ⊥) → Below h pool own below → Above h pool own above → Nearer own below above found → (k : ℕ) × (k < positions_of pool.shape) × (0 < usable_at pool k) → IsSome found
nearer-some h pool own below above (Some g) unusable under over nearer some = refl
nearer-some h pool own below above None unusable under over nearer (k, lt, some) =
    let usable = at-usable h pool (partition_of h k) k lt refl some in
    absurd (elim (cases_lt (partition_of h k) own) [
      | inl less ↦ subst (λ (o : Option ℕ). Below h pool own o) nearer.0 under (partition_of h k) less usable
      | inr ge ↦ elim (cases_eq (partition_of h k) own) [
        | inl same ↦ unusable (subst (λ (x : ℕ). IsUsableIn h pool x) same usable)
        | inr other ↦ subst (λ (o : Option ℕ). Above h pool own o) nearer.1 over (partition_of h k) (omega arith) usable
      ]
    ])

-- the most dead rows
pub most-dead : (h : History) (pool : Pool) (g first end : ℕ) (found : Option ℕ) → IsHistory h → h.positions ≡ positions_of pool.shape → first ≡ first_of h g → end ≡ end_of h g → first < end → Wins (dead_at pool) first (end - 1) found → MatchOption found ((k : ℕ) → HasRows h (deads pool) g k → ⊥) (IsMost (HasRows h (deads pool) g) (slice_index (deads pool)))
most-dead h pool g first end None whole same low high order wins = λ k has.
    let below = rows-below (deads pool) (positions_of pool.shape) k (deads-long pool) has.1 in
    let low_k = within-first h g k whole has.0 in
    let high_k = within-end h g k whole (omega arith) has.0 in
    let none = wins k (omega arith) (omega arith) in
    let here = at (dead_at pool) (positions_of pool.shape) k below in
    let some = has.1 in
    absurd (omega arith)
most-dead h pool g first end (Some p) whole same low high order wins =
    let above = wins.above in
    let below = wins.below in
    let some = wins.some in
    let here = at (dead_at pool) (positions_of pool.shape) p (omega arith) in
    record {
      holds = (within-is h g p whole (omega arith) (omega arith), omega arith);
      most = λ y has. (step y has).0;
      lowest = λ y has e. (step y has).1 e;
    }
  where
    step : (y : ℕ) → HasRows h (deads pool) g y → (slice_index (deads pool) y ≤ slice_index (deads pool) p) × (slice_index (deads pool) y ≡ slice_index (deads pool) p → p ≤ y)
    step y has =
        let inside = rows-below (deads pool) (positions_of pool.shape) y (deads-long pool) has.1 in
        let low_y = within-first h g y whole has.0 in
        let high_y = within-end h g y whole (omega arith) has.0 in
        let at_y = at (dead_at pool) (positions_of pool.shape) y inside in
        let below = wins.below in
        let at_p = at (dead_at pool) (positions_of pool.shape) p (omega arith) in
        let most = wins.most y (omega arith) (omega arith) in (
          omega arith,
          λ e. elim (cases_lt y p) [
            | inl lower ↦ let less = wins.lowest y (omega arith) lower in absurd (omega arith)
            | inr least ↦ least
          ],
        )

-- where a partition is usable and no row is free there, one is dead
pub some-dead : (h : History) (pool : Pool) (g : ℕ) → IsUsableIn h pool g → ((k : ℕ) → HasRows h (frees pool) g k → ⊥) → (k : ℕ) × HasRows h (deads pool) g k
some-dead h pool g (k, inl has) none = absurd (none k has)
some-dead h pool g (k, inr has) none = (k, has)

-- one of several is found
pub found-some : (P : ℕ → Type 0) (Q : ℕ → Type 0) (found : Option ℕ) → MatchOption found ((k : ℕ) → P k → ⊥) Q → (k : ℕ) × P k → IsSome found
found-some P Q None none (k, has) = absurd (none k has)
found-some P Q (Some k) is has = refl

-- a turn stands in its partition
pub turn-inside : (h : History) (g turn : ℕ) → IsHistory h → g < length h.turns → turn ≡ slice_index h.turns g → (first_of h g ≤ turn) × (turn + 1 ≤ end_of h g)
turn-inside h g turn whole counted is =
    let low = within-first h g (slice_index h.turns g) whole (whole.within g counted) in
    let high = within-end h g (slice_index h.turns g) whole (whole.inside g counted) (whole.within g counted) in
    (omega arith, omega arith)

-- no row of the partition is free
pub beside-none : (h : History) (pool : Pool) (g first end : ℕ) (avoided : Option ℕ) → IsHistory h → h.positions ≡ positions_of pool.shape → first ≡ first_of h g → end ≡ end_of h g → Lowest (free_at pool) first end None → (k : ℕ) → IsFreeBeside h pool g avoided k → ⊥
beside-none h pool g first end avoided whole same low high lowest k is =
    let position = is.position in
    let low_k = within-first h g k whole is.near in
    let high_k = within-end h g k whole (omega arith) is.near in
    let none = lowest k (omega arith) (omega arith) in
    let some = is.free in
    omega arith

-- another segment stands at the lowest position with a free row than the avoided one
pub beside-first : (h : History) (pool : Pool) (g first end k : ℕ) (avoided : Option ℕ) → IsHistory h → h.positions ≡ positions_of pool.shape → first ≡ first_of h g → end ≡ end_of h g → IsLowest (free_at pool) first end k → avoided ≢ Some (slice_index pool.positions k) → IsLeast (IsFreeBeside h pool g avoided) (λ x. x) k
beside-first h pool g first end k avoided whole same low high lowest other =
    let below = lowest.below in
    let above = lowest.above in
    record {
      holds = record { position = omega arith; near = within-is h g k whole (omega arith) (omega arith); free = lowest.some; other = other };
      least = λ y is. least y is (cases_lt y k);
      lowest = λ y is e. least y is (cases_lt y k);
    }
  where
    least : (y : ℕ) → IsFreeBeside h pool g avoided y → (y < k) ⊎ (k ≤ y) → k ≤ y
    least y is (inl less) = let low_y = within-first h g y whole is.near in let no = lowest.none y (omega arith) less in let some = is.free in absurd (omega arith)
    least y is (inr at_least) = at_least

-- it is the avoided one's, so that it is another's at each position above
pub beside-next : (h : History) (pool : Pool) (g first end k : ℕ) (avoided found : Option ℕ) → IsHistory h → IsPool pool → h.positions ≡ positions_of pool.shape → first ≡ first_of h g → end ≡ end_of h g → IsLowest (free_at pool) first end k → avoided ≡ Some (slice_index pool.positions k) → Lowest (free_at pool) (k + 1) end found → MatchOption found ((y : ℕ) → IsFreeBeside h pool g avoided y → ⊥) (IsLeast (IsFreeBeside h pool g avoided) (λ x. x))
beside-next h pool g first end k avoided None whole are same low high lowest it none = λ y is. past y is (cases_lt y k) (cases_eq y k)
  where
    past : (y : ℕ) → IsFreeBeside h pool g avoided y → (y < k) ⊎ (k ≤ y) → (y ≡ k) ⊎ (y ≡ k → ⊥) → ⊥
    past y is (inl less) at_k = let low_y = within-first h g y whole is.near in let no = lowest.none y (omega arith) less in let some = is.free in omega arith
    past y is (inr ge) (inl here) = is.other (it ∙ ap (λ (x : ℕ). Some (slice_index pool.positions x)) (sym here))
    past y is (inr ge) (inr apart) = let position = is.position in let high_y = within-end h g y whole (omega arith) is.near in let no = none y (omega arith) (omega arith) in let some = is.free in omega arith
beside-next h pool g first end k avoided (Some p) whole are same low high lowest it next =
    let above = next.above in
    let below = next.below in
    let from = lowest.above in
    record {
      holds = record { position = omega arith; near = within-is h g p whole (omega arith) (omega arith); free = next.some; other = other (omega arith) (omega arith) };
      least = λ y is. least y is (cases_lt y p);
      lowest = λ y is e. least y is (cases_lt y p);
    }
  where
    other : k < positions_of pool.shape → p < positions_of pool.shape → avoided ≢ Some (slice_index pool.positions p)
    other lt_k lt_p is =
        let both : Some (slice_index pool.positions k) ≡ Some (slice_index pool.positions p) = sym it ∙ is in
        let one : slice_index pool.positions k ≡ slice_index pool.positions p = cc in
        let met = are.apart k p (omega (arith, lt_k)) (omega (arith, lt_p)) one in
        let above = next.above in
        omega arith

    before : (y : ℕ) → IsFreeBeside h pool g avoided y → y < p → (y < k) ⊎ (k ≤ y) → (y ≡ k) ⊎ (y ≡ k → ⊥) → ⊥
    before y is less (inl lower) at_k = let low_y = within-first h g y whole is.near in let no = lowest.none y (omega arith) lower in let some = is.free in omega arith
    before y is less (inr ge) (inl here) = is.other (it ∙ ap (λ (x : ℕ). Some (slice_index pool.positions x)) (sym here))
    before y is less (inr ge) (inr apart) = let no = next.none y (omega arith) less in let some = is.free in omega arith

    least : (y : ℕ) → IsFreeBeside h pool g avoided y → (y < p) ⊎ (p ≤ y) → p ≤ y
    least y is (inl less) = absurd (before y is less (cases_lt y k) (cases_eq y k))
    least y is (inr at_least) = at_least

-- a victim stands in its partition
victim-in : (victims : Victims) (h : History) (dead : List ℕ) (g k : ℕ) → IsVictim victims h dead g k → partition_of h k ≡ g
victim-in MostDead h dead g k victim = victim.holds.0
victim-in InTurn h dead g k victim = victim.holds.0

-- the choice within the nearest usable partition
pub choice-free : (h : History) (free dead : List ℕ) (home g k : ℕ) → IsNearest h free dead home g → IsLeast (HasRows h free g) (λ x. x) k → IsChoice h free dead home (Free k)
choice-free h free dead home g k nearest least = subst (λ (x : ℕ). IsNearest h free dead home x × IsLeast (HasRows h free x) (λ y. y) k) (sym least.holds.0) (nearest, least)

-- a partition without a free row is cleaned at its victim
pub choice-clean : (h : History) (free dead : List ℕ) (home g k : ℕ) (aside : Option ℕ) → IsNearest h free dead home g → ((x : ℕ) → HasRows h free g x → ⊥) → IsVictim (victims_of h.policy) h dead g k → IsAside h g aside → IsChoice h free dead home (Clean k aside)
choice-clean h free dead home g k aside nearest none victim beside =
    subst (λ (x : ℕ). IsNearest h free dead home x × ((y : ℕ) → HasRows h free x y → ⊥) × IsVictim (victims_of h.policy) h dead x k × IsAside h x aside) (sym (victim-in (victims_of h.policy) h dead g k victim)) (nearest, none, victim, beside)

pub below-under : (h : History) (pool : Pool) (own : ℕ) (found : Option ℕ) → Below h pool own found → IfSome found (λ g. g < own)
below-under h pool own None none = tt
below-under h pool own (Some g) is = is.under

pub above-over : (h : History) (pool : Pool) (own : ℕ) (found : Option ℕ) → Above h pool own found → IfSome found (λ g. own < g)
above-over h pool own None none = tt
above-over h pool own (Some g) is = is.over

-- a usable partition is one of those there are
pub in-count : (h : History) (pool : Pool) (g : ℕ) → IsHistory h → h.positions ≡ positions_of pool.shape → IsUsableIn h pool g → g < length h.heats
in-count h pool g whole same usable = usable-counted h (frees pool) (deads pool) g whole (frees-long pool ∙ sym same) (deads-long pool ∙ sym same) usable

-- the segments were compared
pub avoided-is : (avoided : Option ℕ) (s : ℕ) → false ≡ not (option_eq (λ (x y : ℕ). x == y) avoided (Some s)) → avoided ≡ Some s
avoided-is None s same = absurd (let no : false ≡ true = same in cc)
avoided-is (Some x) s same = elim (cases_eq x s) [
  | inl is ↦ ap (λ (n : ℕ). Some n) is
  | inr other ↦ absurd (let no : false ≡ true = same ∙ ap not (ne_eqb x s other) in cc)
]

pub avoided-other : (avoided : Option ℕ) (s : ℕ) → true ≡ not (option_eq (λ (x y : ℕ). x == y) avoided (Some s)) → avoided ≢ Some s
avoided-other avoided s same is =
    let here : true ≡ not (s == s) = subst (λ (o : Option ℕ). true ≡ not (option_eq (λ (x y : ℕ). x == y) o (Some s))) is same in
    let no : true ≡ false = here ∙ ap not (eq-eqb s s refl) in
    cc

-- bounds that a call of the pool asks for
pub in-order : (first end : ℕ) → first < end → first ≤ end
in-order first end less = omega arith

pub next-order : (k end : ℕ) → k < end → k + 1 ≤ end
next-order k end less = omega arith

pub inside : (k end n m : ℕ) → k < end → end ≤ n → n ≡ m → k < m
inside k end n m below within same = omega arith
