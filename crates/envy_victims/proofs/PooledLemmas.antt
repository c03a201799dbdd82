-- What a pool answers, as the policy that parts pages by their lives asks for it.
use Rattle.std.proofs.Common.{◌≡◌, inl, inr, ℕ, ◌+◌, ◌-◌, ◌<◌, ◌≤◌, length, get_or, slice_index, Option, None, Some, MatchOption, sym, ◌∙◌, subst, arith}
use Rattle.std.specs.Prelude.{min}
use Rattle.std.proofs.lemmas.Bool.{cases_lt}
use Rattle.std.proofs.lemmas.List.{get_or_past}
use Rattle.std.proofs.lemmas.List.FromFn.{get_or-map-range_with_len}
use Rattle.envy_policy.specs.Notes.{Notes}
use Rattle.envy_policy.specs.History.{History, IsHistory, AreLives}
use Rattle.envy_policy.specs.Lifetime.{IsCounted, IsLowest as IsLowestOf}
use Rattle.envy_space.specs.Pool.{Pool, IsPool, free_at, dead_at}
use Rattle.envy_space.specs.Winners.{Lowest}
use Rattle.envy_victims.specs.Choosing.{counts_in, deads, frees}
use Rattle.envy_victims.proofs.ChoosingLemmas.{rows_of, long}
use Rattle.envy_base.specs.Shape.{positions_of}

abbrev pub kept_at : Pool → ℕ → ℕ
kept_at pool k = slice_index pool.kept (slice_index pool.positions k)

pub at : (f : ℕ → ℕ) (n k : ℕ) → k < length (rows_of f n) → get_or (rows_of f n) k 0 ≡ f k
at f n k lt = get_or-map-range_with_len f 0 n k k 0 (omega (arith, lt, long f n)) (omega arith)

pub below-long : (f : ℕ → ℕ) (n k : ℕ) → k < length (rows_of f n) → k < n
below-long f n k lt = omega (arith, lt, long f n)

-- no position has more rows than there are
few : (f : ℕ → ℕ) (n most : ℕ) → ((k : ℕ) → k < n → f k ≤ most) → (k : ℕ) → slice_index (rows_of f n) k ≤ most
few f n most all k = elim (cases_lt k n) [
  | inl lt ↦ let is = at f n k (omega (arith, lt, long f n)) in let least = all k lt in omega (arith, is, least)
  | inr past ↦ let none = get_or_past (rows_of f n) k 0 (omega (arith, past, long f n)) in omega (arith, none)
]

rows-few : (pool : Pool) → IsPool pool → pool.shape.rows ≤ 16777216
rows-few pool whole = let shape = whole.shape in let most = shape.few_rows in omega (arith, most)

-- what the pool counts are counts of as many positions
pub counted : (pool : Pool) (positions : ℕ) → IsPool pool → positions ≡ positions_of pool.shape → IsCounted positions (counts_in pool)
counted pool positions whole is = record {
  free = long (free_at pool) (positions_of pool.shape) ∙ sym is;
  dead = long (dead_at pool) (positions_of pool.shape) ∙ sym is;
  kept = long (kept_at pool) (positions_of pool.shape) ∙ sym is;
  few_dead = few (dead_at pool) (positions_of pool.shape) 16777216 (λ k lt. let fit = whole.fills_fit (slice_index pool.positions k) in let rows = rows-few pool whole in omega (arith, fit, rows));
  few_kept = few (kept_at pool) (positions_of pool.shape) 16777216 (λ k lt. let fit = whole.fills_fit (slice_index pool.positions k) in let less = whole.kept_fit (slice_index pool.positions k) in let rows = rows-few pool whole in omega (arith, fit, less, rows));
}

-- some position has a free or a dead row
pub some-row : (pool : Pool) → (k : ℕ) × (k < positions_of pool.shape) × (0 < free_at pool k + dead_at pool k) → (k : ℕ) × (0 < slice_index (frees pool) k + slice_index (deads pool) k)
some-row pool (k, lt, some) =
    let free = at (free_at pool) (positions_of pool.shape) k (omega (arith, lt, long (free_at pool) (positions_of pool.shape))) in
    let dead = at (dead_at pool) (positions_of pool.shape) k (omega (arith, lt, long (dead_at pool) (positions_of pool.shape))) in
    (k, omega (arith, free, dead, some))

-- what is noted of lives has the sizes of the history
pub lives-long : (h : History) (n : Notes) → IsHistory h → h.lives ≡ Some n → (length n.born ≡ h.pages) × (length n.cleaned ≡ h.positions)
lives-long h n whole is = let are : AreLives h.policy h.pages h.positions (Some n) = subst (λ (l : Option Notes). AreLives h.policy h.pages h.positions l) is whole.lives in (are.1, are.2)

-- the lowest position with a free row from the start on
pub first-free : (pool : Pool) (start first end : ℕ) (found : Option ℕ) → end ≡ positions_of pool.shape → first ≡ min start end → Lowest (free_at pool) first end found → MatchOption found ((k : ℕ) → start ≤ k → slice_index (frees pool) k ≡ 0) (IsLowestOf (λ k. (start ≤ k) × (0 < slice_index (frees pool) k)))
first-free pool start first end None is_end is_first none = λ k from. elim (cases_lt k end) [
  | inl lt ↦ at (free_at pool) (positions_of pool.shape) k (omega (arith, lt, is_end, long (free_at pool) (positions_of pool.shape))) ∙ none k (omega arith) lt
  | inr past ↦ get_or_past (frees pool) k 0 (omega (arith, past, is_end, long (free_at pool) (positions_of pool.shape)))
]
first-free pool start first end (Some p) is_end is_first lowest =
    let above = lowest.above in
    let below = lowest.below in
    let some = lowest.some in
    let here = at (free_at pool) (positions_of pool.shape) p (omega (arith, below, is_end, long (free_at pool) (positions_of pool.shape))) in
    record {
      holds = (omega arith, omega (arith, here, some));
      least = λ y has. least y has.0 has.1;
      lowest = λ y has e. least y has.0 has.1;
    }
  where
    least : (y : ℕ) → start ≤ y → 0 < slice_index (frees pool) y → p ≤ y
    least y from has = elim (cases_lt y p) [
      | inl less ↦
          let below = lowest.below in
          let none = lowest.none y (omega arith) less in
          let here = at (free_at pool) (positions_of pool.shape) y (omega (arith, less, below, is_end, long (free_at pool) (positions_of pool.shape))) in
          absurd (omega (arith, here, none, has))
      | inr at_least ↦ at_least
    ]
