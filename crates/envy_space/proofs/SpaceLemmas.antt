-- What a space keeps, when two segments change places or all is cleared.
use Rattle.std.proofs.Common.{◌≡◌, ◌≢◌, ◌⊎◌, inl, inr, ℕ, ◌+◌, ◌-◌, ◌<◌, ◌≤◌, List, length, get_or, set, take, replicate, refl, sym, ◌∙◌, ap, arith}
use Rattle.std.specs.Prelude.{swap, sum_by}
use Rattle.std.specs.List.{range_with_len}
use Rattle.std.proofs.lemmas.Bool.{cases_eq, cases_lt}
use Rattle.std.proofs.lemmas.List.{get_or-replicate, get_or-set_other, get_or-set_same, get_or-take, get_or_past, length-replicate, length-set, length-take, map-id, ext_get_or}
use Rattle.std.proofs.lemmas.List.Edits.{length-swap}
use Rattle.std.proofs.lemmas.Option.{get_or_from_slice_get, slice_get-get_or}
use Rattle.std.proofs.lemmas.List.FromFn.{get_or-range_with_len, length-range_with_len, sum_by-map-range_with_len_more}
use Rattle.envy_base.specs.declared.shape.Shape.{Shape}
use Rattle.envy_base.specs.Shape.{IsShape, all_positions_of, positions_of}
use Rattle.envy_soundness.specs.Sound.{IsPlaced, IsSpare}
use Rattle.envy_space.specs.Order.{IsOrder}
use Rattle.envy_space.specs.Pool.{Pool, IsPool, IsSpace, StandsAt, empty_pool, free_at, dead_at}
use Rattle.envy_space.specs.Winners.{flag}
use Rattle.envy_space.proofs.OrderLemmas.{IsOrder-places, ArePlaces-range, swapped, swapped_first, swapped_second, swapped_other}

-- one number more in a sum
pub sum_by-range_more : (g : ℕ → ℕ) (a n j : ℕ) → a + n ≡ j → sum_by g (range_with_len a (n + 1)) ≡ sum_by g (range_with_len a n) + g j
sum_by-range_more g a n j e =
    ap (λ (xs : List ℕ). sum_by g xs) (sym (map-id (range_with_len a (n + 1))))
    ∙ sum_by-map-range_with_len_more g (λ (x : ℕ). x) a n j e
    ∙ ap (λ (xs : List ℕ). sum_by g xs + g j) (map-id (range_with_len a n))

pub zeros_at : (n s : ℕ) → get_or (replicate {A = ℕ} n 0) s 0 ≡ 0
zeros_at n s = at (cases_lt s n)
  where
    at : (s < n) ⊎ (n ≤ s) → get_or (replicate {A = ℕ} n 0) s 0 ≡ 0
    at (inl lt) = get_or-replicate n s 0 0 lt
    at (inr ge) = let long : length (replicate {A = ℕ} n 0) ≡ n = length-replicate n 0 in get_or_past (replicate n 0) s 0 (omega arith)

take-range : (m n : ℕ) → m ≤ n → take m (range_with_len 0 n) ≡ range_with_len 0 m
take-range m n le =
    let long = length-range_with_len 0 n in
    let short = length-range_with_len 0 m in
    let taken = length-take m (range_with_len 0 n) in
    ext_get_or 0 _ _ (omega arith) (λ k lt.
    let low : k < m = omega arith in
    get_or-take m (range_with_len 0 n) k 0 low ∙ get_or-range_with_len 0 n k 0 (omega arith) ∙ sym (get_or-range_with_len 0 m k 0 low))

abbrev pub pool_of : Shape → List ℕ → List ℕ → List ℕ → Pool
pool_of sh fills kept order = record { shape = sh; fills = fills; kept = kept; positions = take (all_positions_of sh) order }

pub IsSpace-empty : (sh : Shape) → IsShape sh → IsSpace sh (replicate sh.segments 0) (replicate sh.segments 0) (range_with_len 0 sh.segments) (replicate sh.segments 0) (replicate sh.segments (flag sh.rows)) (replicate sh.segments (flag 0))
IsSpace-empty sh shape = record {
  shape = shape;
  fills_long = length-replicate sh.segments 0;
  kept_long = length-replicate sh.segments 0;
  order_long = length-range_with_len 0 sh.segments;
  dead_long = length-replicate sh.segments 0;
  fills_fit = λ s. let none = zeros_at sh.segments s in omega arith;
  kept_fit = λ s. omega arith;
  ordered = IsOrder-places _ _ (ArePlaces-range sh.segments (let few = shape.few_segments in omega arith));
  scores = λ k lt. zeros_at sh.segments k ∙ (let none = zeros_at sh.segments (get_or (range_with_len 0 sh.segments) k 0) in omega arith);
  has_free_long = length-replicate sh.segments (flag sh.rows);
  has_dead_long = length-replicate sh.segments (flag 0);
  free_flags = λ k lt. let at = get_or-replicate sh.segments k (flag sh.rows) 0 lt in let none = zeros_at sh.segments (get_or (range_with_len 0 sh.segments) k 0) in omega arith;
  dead_flags = λ k lt. let at = get_or-replicate sh.segments k (flag 0) 0 lt in let none = zeros_at sh.segments (get_or (range_with_len 0 sh.segments) k 0) in omega arith;
}

-- a space that was cleared
pub IsSpace-cleared : (sh : Shape) (fills kept order dead has_free has_dead : List ℕ) → IsShape sh → fills ≡ replicate sh.segments 0 → kept ≡ replicate sh.segments 0 → order ≡ range_with_len 0 sh.segments → dead ≡ replicate sh.segments 0 → has_free ≡ replicate sh.segments (flag sh.rows) → has_dead ≡ replicate sh.segments (flag 0) → IsSpace sh fills kept order dead has_free has_dead
IsSpace-cleared sh fills kept order dead has_free has_dead shape fills_is kept_is order_is dead_is free_is has_is = rw (fills_is, kept_is, order_is, dead_is, free_is, has_is) (IsSpace-empty sh shape)

pub pool-cleared : (sh : Shape) (fills kept order : List ℕ) → fills ≡ replicate sh.segments 0 → kept ≡ replicate sh.segments 0 → order ≡ range_with_len 0 sh.segments → pool_of sh fills kept order ≡ empty_pool sh
pool-cleared sh fills kept order fills_is kept_is order_is =
    let front : take (all_positions_of sh) order ≡ range_with_len 0 (all_positions_of sh) = ap (take (all_positions_of sh)) order_is ∙ take-range (all_positions_of sh) sh.segments (omega arith) in
    rw (fills_is, kept_is, front) refl

-- two segments have changed places
pub IsSpace-swap : (sh : Shape) (fills kept order dead has_free has_dead then_order then_dead then_free then_has : List ℕ) (i j : ℕ) → i < sh.segments → j < sh.segments → IsSpace sh fills kept order dead has_free has_dead → then_order ≡ swap order i j → IsOrder then_order → then_dead ≡ swap dead i j → then_free ≡ swap has_free i j → then_has ≡ swap has_dead i j → IsSpace sh fills kept then_order then_dead then_free then_has
IsSpace-swap sh fills kept order dead has_free has_dead then_order then_dead then_free then_has i j low lower was order_is ordered dead_is free_is has_is = record {
  shape = was.shape;
  fills_long = was.fills_long;
  kept_long = was.kept_long;
  order_long = ap length order_is ∙ length-swap order i j ∙ was.order_long;
  dead_long = ap length dead_is ∙ length-swap dead i j ∙ was.dead_long;
  fills_fit = was.fills_fit;
  kept_fit = was.kept_fit;
  ordered = ordered;
  scores = λ k lt.
      let from = swapped sh.segments i j k low lower lt in
      let order_at : get_or then_order k 0 ≡ get_or order from.0 0 = ap (λ (xs : List ℕ). get_or xs k 0) order_is ∙ from.2 order was.order_long in
      let dead_at : get_or then_dead k 0 ≡ get_or dead from.0 0 = ap (λ (xs : List ℕ). get_or xs k 0) dead_is ∙ from.2 dead was.dead_long in
      dead_at ∙ was.scores from.0 from.1 ∙ ap (λ (s : ℕ). get_or fills s 0 - get_or kept s 0) (sym order_at);
  has_free_long = ap length free_is ∙ length-swap has_free i j ∙ was.has_free_long;
  has_dead_long = ap length has_is ∙ length-swap has_dead i j ∙ was.has_dead_long;
  free_flags = λ k lt.
      let from = swapped sh.segments i j k low lower lt in
      let order_at : get_or then_order k 0 ≡ get_or order from.0 0 = ap (λ (xs : List ℕ). get_or xs k 0) order_is ∙ from.2 order was.order_long in
      let flag_at : get_or then_free k 0 ≡ get_or has_free from.0 0 = ap (λ (xs : List ℕ). get_or xs k 0) free_is ∙ from.2 has_free was.has_free_long in
      flag_at ∙ was.free_flags from.0 from.1 ∙ ap (λ (s : ℕ). flag (sh.rows - get_or fills s 0)) (sym order_at);
  dead_flags = λ k lt.
      let from = swapped sh.segments i j k low lower lt in
      let order_at : get_or then_order k 0 ≡ get_or order from.0 0 = ap (λ (xs : List ℕ). get_or xs k 0) order_is ∙ from.2 order was.order_long in
      let flag_at : get_or then_has k 0 ≡ get_or has_dead from.0 0 = ap (λ (xs : List ℕ). get_or xs k 0) has_is ∙ from.2 has_dead was.has_dead_long in
      flag_at ∙ was.dead_flags from.0 from.1 ∙ ap (λ (s : ℕ). flag (get_or fills s 0 - get_or kept s 0)) (sym order_at);
}

pub IsPool-space : (sh : Shape) (fills kept order dead has_free has_dead : List ℕ) → IsSpace sh fills kept order dead has_free has_dead → IsPool (pool_of sh fills kept order)
IsPool-space sh fills kept order dead has_free has_dead are =
    let long = are.order_long in
    record {
      shape = are.shape;
      fills_long = are.fills_long;
      kept_long = are.kept_long;
      positions_long = let e = length-take (all_positions_of sh) order in omega arith;
      fills_fit = are.fills_fit;
      kept_fit = are.kept_fit;
      positions_fit = λ k lt. let e = get_or-take (all_positions_of sh) order k 0 lt in let fit = are.ordered.fit k (omega arith) in omega arith;
      apart = λ i j low lower same. are.ordered.apart i j (omega arith) (omega arith) (sym (get_or-take (all_positions_of sh) order i 0 low) ∙ same ∙ get_or-take (all_positions_of sh) order j 0 lower);
    }

-- the segment of place j stands at position i
pub StandsAt-swap : (sh : Shape) (fills kept order dead has_free has_dead then_order then_dead then_free then_has : List ℕ) (i j s : ℕ) → i < all_positions_of sh → j < sh.segments → get_or order j 0 ≡ s → IsSpace sh fills kept order dead has_free has_dead → then_order ≡ swap order i j → IsOrder then_order → IsSpace sh fills kept then_order then_dead then_free then_has → StandsAt i s (pool_of sh fills kept order) (pool_of sh fills kept then_order)
StandsAt-swap sh fills kept order dead has_free has_dead then_order then_dead then_free then_has i j s low lower here was order_is ordered now =
    let long = was.order_long in
    record {
      is_pool = IsPool-space sh fills kept then_order then_dead then_free then_has now;
      shape = refl;
      fills = refl;
      kept = refl;
      here = get_or-take (all_positions_of sh) then_order i 0 low ∙ ap (λ (xs : List ℕ). get_or xs i 0) order_is ∙ swapped_first order i j (omega arith) (omega arith) ∙ here;
      others = λ k lt apart other.
          get_or-take (all_positions_of sh) then_order k 0 lt ∙ ap (λ (xs : List ℕ). get_or xs k 0) order_is
          ∙ swapped_other order i j k (omega arith) (omega arith) apart (λ same. other (get_or-take (all_positions_of sh) order k 0 lt ∙ ap (λ (p : ℕ). get_or order p 0) same ∙ here))
          ∙ sym (get_or-take (all_positions_of sh) order k 0 lt);
      there = λ k lt stood.
          let same : k ≡ j = was.ordered.apart k j (omega arith) (omega arith) (sym (get_or-take (all_positions_of sh) order k 0 lt) ∙ stood ∙ sym here) in
          get_or-take (all_positions_of sh) then_order k 0 lt ∙ ap (λ (xs : List ℕ). get_or xs k 0) order_is
          ∙ ap (λ (p : ℕ). get_or (swap order i j) p 0) same
          ∙ swapped_second order i j (omega arith) (omega arith)
          ∙ sym (get_or-take (all_positions_of sh) order i 0 low);
    }

-- what the flags say of a position
pub free-flags : (sh : Shape) (fills kept order dead has_free has_dead : List ℕ) → IsSpace sh fills kept order dead has_free has_dead → (k : ℕ) → k < all_positions_of sh → get_or has_free k 0 ≡ flag (free_at (pool_of sh fills kept order) k)
free-flags sh fills kept order dead has_free has_dead are k lt = are.free_flags k (omega arith) ∙ ap (λ (s : ℕ). flag (sh.rows - get_or fills s 0)) (sym (get_or-take (all_positions_of sh) order k 0 lt))

pub dead-flags : (sh : Shape) (fills kept order dead has_free has_dead : List ℕ) → IsSpace sh fills kept order dead has_free has_dead → (k : ℕ) → k < all_positions_of sh → get_or has_dead k 0 ≡ flag (dead_at (pool_of sh fills kept order) k)
dead-flags sh fills kept order dead has_free has_dead are k lt = are.dead_flags k (omega arith) ∙ ap (λ (s : ℕ). flag (get_or fills s 0 - get_or kept s 0)) (sym (get_or-take (all_positions_of sh) order k 0 lt))

-- and what they say of the place where a segment stands
pub free-flag-here : (sh : Shape) (fills kept order dead has_free has_dead : List ℕ) (s n place : ℕ) → IsSpace sh fills kept order dead has_free has_dead → place < sh.segments → get_or order place 0 ≡ s → n ≡ get_or fills s 0 → get_or has_free place 0 ≡ flag (sh.rows - n)
free-flag-here sh fills kept order dead has_free has_dead s n place are lt stands n_is = are.free_flags place lt ∙ ap (λ (x : ℕ). flag (sh.rows - x)) (ap (λ (i : ℕ). get_or fills i 0) stands ∙ sym n_is)

pub dead-flag-here : (sh : Shape) (fills kept order dead has_free has_dead : List ℕ) (s n m place : ℕ) → IsSpace sh fills kept order dead has_free has_dead → place < sh.segments → get_or order place 0 ≡ s → n ≡ get_or fills s 0 → m ≡ get_or kept s 0 → get_or has_dead place 0 ≡ flag (n - m)
dead-flag-here sh fills kept order dead has_free has_dead s n m place are lt stands n_is m_is =
    are.dead_flags place lt
    ∙ ap (λ (x : ℕ). flag (x - get_or kept (get_or order place 0) 0)) (ap (λ (i : ℕ). get_or fills i 0) stands ∙ sym n_is)
    ∙ ap (λ (x : ℕ). flag (n - x)) (ap (λ (i : ℕ). get_or kept i 0) stands ∙ sym m_is)

-- a number that was read
pub read-at : (xs : List ℕ) (s m : ℕ) → s < length xs → m ≡ get_or xs s m → m ≡ get_or xs s 0
read-at xs s m lt is = is ∙ sym (get_or_from_slice_get xs s (get_or xs s m) 0 (slice_get-get_or xs s m lt))

-- one place has another number, and so does the segment that stands there
written-at : (n place v : ℕ) (xs ys : List ℕ) (f g : ℕ → ℕ) → length xs ≡ n → place < n → ys ≡ set xs place v → g place ≡ v → ((k : ℕ) → k < n → k ≢ place → g k ≡ f k) → ((k : ℕ) → k < n → get_or xs k 0 ≡ f k) → (k : ℕ) → k < n → get_or ys k 0 ≡ g k
written-at n place v xs ys f g long low ys_is here others was k lt = ap (λ (zs : List ℕ). get_or zs k 0) ys_is ∙ at (cases_eq k place)
  where
    at : (k ≡ place) ⊎ (k ≡ place → ⊥) → get_or (set xs place v) k 0 ≡ g k
    at (inl same) = ap (λ (i : ℕ). get_or (set xs place v) i 0) same ∙ get_or-set_same xs place v 0 (omega arith) ∙ sym here ∙ ap g (sym same)
    at (inr other) = get_or-set_other xs place k v 0 other ∙ was k lt ∙ sym (others k lt other)

-- the number of the segment at a place
number-here : (xs order : List ℕ) (place s n : ℕ) → s < length xs → get_or order place 0 ≡ s → get_or (set xs s n) (get_or order place 0) 0 ≡ n
number-here xs order place s n lt stands = ap (λ (i : ℕ). get_or (set xs s n) i 0) stands ∙ get_or-set_same xs s n 0 lt

number-other : (xs order : List ℕ) (place s n k : ℕ) → IsOrder order → place < length order → k < length order → get_or order place 0 ≡ s → k ≢ place → get_or (set xs s n) (get_or order k 0) 0 ≡ get_or xs (get_or order k 0) 0
number-other xs order place s n k ordered low lt stands other = get_or-set_other xs s (get_or order k 0) n 0 (λ same. other (ordered.apart k place lt low (same ∙ sym stands)))

-- the fill of a segment is another
pub IsSpace-filled : (sh : Shape) (fills kept order dead has_free has_dead then_dead then_free then_has : List ℕ) (s n m place : ℕ) → s < sh.segments → n ≤ sh.rows → m ≡ get_or kept s 0 → m ≤ n → place < sh.segments → get_or order place 0 ≡ s → IsSpace sh fills kept order dead has_free has_dead → then_dead ≡ set dead place (n - m) → then_free ≡ set has_free place (flag (sh.rows - n)) → then_has ≡ set has_dead place (flag (n - m)) → IsSpace sh (set fills s n) kept order then_dead then_free then_has
IsSpace-filled sh fills kept order dead has_free has_dead then_dead then_free then_has s n m place lt fits m_is le low stands was dead_is free_is has_is =
    let fills_long = was.fills_long in
    let order_long = was.order_long in
    let here : get_or (set fills s n) (get_or order place 0) 0 ≡ n = number-here fills order place s n (omega arith) stands in
    let kept_here : get_or kept (get_or order place 0) 0 ≡ m = ap (λ (i : ℕ). get_or kept i 0) stands ∙ sym m_is in
    record {
      shape = was.shape;
      fills_long = length-set fills s n ∙ fills_long;
      kept_long = was.kept_long;
      order_long = order_long;
      dead_long = ap length dead_is ∙ length-set dead place (n - m) ∙ was.dead_long;
      fills_fit = λ t. fit t (cases_eq t s);
      kept_fit = λ t. below t (cases_eq t s);
      ordered = was.ordered;
      scores = written-at sh.segments place (n - m) dead then_dead (λ k. get_or fills (get_or order k 0) 0 - get_or kept (get_or order k 0) 0) (λ k. get_or (set fills s n) (get_or order k 0) 0 - get_or kept (get_or order k 0) 0)
          was.dead_long low dead_is (omega arith) (λ k k_lt other. ap (λ (x : ℕ). x - get_or kept (get_or order k 0) 0) (others k k_lt other)) was.scores;
      has_free_long = ap length free_is ∙ length-set has_free place (flag (sh.rows - n)) ∙ was.has_free_long;
      has_dead_long = ap length has_is ∙ length-set has_dead place (flag (n - m)) ∙ was.has_dead_long;
      free_flags = written-at sh.segments place (flag (sh.rows - n)) has_free then_free (λ k. flag (sh.rows - get_or fills (get_or order k 0) 0)) (λ k. flag (sh.rows - get_or (set fills s n) (get_or order k 0) 0))
          was.has_free_long low free_is (ap (λ (x : ℕ). flag (sh.rows - x)) here) (λ k k_lt other. ap (λ (x : ℕ). flag (sh.rows - x)) (others k k_lt other)) was.free_flags;
      dead_flags = written-at sh.segments place (flag (n - m)) has_dead then_has (λ k. flag (get_or fills (get_or order k 0) 0 - get_or kept (get_or order k 0) 0)) (λ k. flag (get_or (set fills s n) (get_or order k 0) 0 - get_or kept (get_or order k 0) 0))
          was.has_dead_long low has_is (ap (λ (x : ℕ). flag (x - get_or kept (get_or order place 0) 0)) here ∙ ap (λ (x : ℕ). flag (n - x)) kept_here) (λ k k_lt other. ap (λ (x : ℕ). flag (x - get_or kept (get_or order k 0) 0)) (others k k_lt other)) was.dead_flags;
    }
  where
    others : (k : ℕ) → k < sh.segments → k ≢ place → get_or (set fills s n) (get_or order k 0) 0 ≡ get_or fills (get_or order k 0) 0
    others k k_lt other = number-other fills order place s n k was.ordered (rw was.order_long low) (rw was.order_long k_lt) stands other

    fit : (t : ℕ) → (t ≡ s) ⊎ (t ≡ s → ⊥) → get_or (set fills s n) t 0 ≤ sh.rows
    fit t (inl same) = let long = was.fills_long in let at = ap (λ (i : ℕ). get_or (set fills s n) i 0) same in let is = get_or-set_same fills s n 0 (omega arith) in omega arith
    fit t (inr other) = let is = get_or-set_other fills s t n 0 other in let le = was.fills_fit t in omega arith

    below : (t : ℕ) → (t ≡ s) ⊎ (t ≡ s → ⊥) → get_or kept t 0 ≤ get_or (set fills s n) t 0
    below t (inl same) = let long = was.fills_long in let at = ap (λ (i : ℕ). get_or (set fills s n) i 0) same in let is = get_or-set_same fills s n 0 (omega arith) in let k_at = ap (λ (i : ℕ). get_or kept i 0) same in omega arith
    below t (inr other) = let is = get_or-set_other fills s t n 0 other in let le = was.kept_fit t in omega arith

-- another number of its rows is kept
pub IsSpace-kept : (sh : Shape) (fills kept order dead has_free has_dead then_dead then_has : List ℕ) (s n m place : ℕ) → s < sh.segments → m ≡ get_or fills s 0 → n ≤ m → place < sh.segments → get_or order place 0 ≡ s → IsSpace sh fills kept order dead has_free has_dead → then_dead ≡ set dead place (m - n) → then_has ≡ set has_dead place (flag (m - n)) → IsSpace sh fills (set kept s n) order then_dead has_free then_has
IsSpace-kept sh fills kept order dead has_free has_dead then_dead then_has s n m place lt m_is le low stands was dead_is has_is =
    let kept_long = was.kept_long in
    let here : get_or (set kept s n) (get_or order place 0) 0 ≡ n = number-here kept order place s n (omega arith) stands in
    let fill_here : get_or fills (get_or order place 0) 0 ≡ m = ap (λ (i : ℕ). get_or fills i 0) stands ∙ sym m_is in
    record {
      shape = was.shape;
      fills_long = was.fills_long;
      kept_long = length-set kept s n ∙ kept_long;
      order_long = was.order_long;
      dead_long = ap length dead_is ∙ length-set dead place (m - n) ∙ was.dead_long;
      fills_fit = was.fills_fit;
      kept_fit = λ t. below t (cases_eq t s);
      ordered = was.ordered;
      scores = written-at sh.segments place (m - n) dead then_dead (λ k. get_or fills (get_or order k 0) 0 - get_or kept (get_or order k 0) 0) (λ k. get_or fills (get_or order k 0) 0 - get_or (set kept s n) (get_or order k 0) 0)
          was.dead_long low dead_is (omega arith) (λ k k_lt other. ap (λ (x : ℕ). get_or fills (get_or order k 0) 0 - x) (others k k_lt other)) was.scores;
      has_free_long = was.has_free_long;
      has_dead_long = ap length has_is ∙ length-set has_dead place (flag (m - n)) ∙ was.has_dead_long;
      free_flags = was.free_flags;
      dead_flags = written-at sh.segments place (flag (m - n)) has_dead then_has (λ k. flag (get_or fills (get_or order k 0) 0 - get_or kept (get_or order k 0) 0)) (λ k. flag (get_or fills (get_or order k 0) 0 - get_or (set kept s n) (get_or order k 0) 0))
          was.has_dead_long low has_is (ap (λ (x : ℕ). flag (x - get_or (set kept s n) (get_or order place 0) 0)) fill_here ∙ ap (λ (x : ℕ). flag (m - x)) here) (λ k k_lt other. ap (λ (x : ℕ). flag (get_or fills (get_or order k 0) 0 - x)) (others k k_lt other)) was.dead_flags;
    }
  where
    others : (k : ℕ) → k < sh.segments → k ≢ place → get_or (set kept s n) (get_or order k 0) 0 ≡ get_or kept (get_or order k 0) 0
    others k k_lt other = number-other kept order place s n k was.ordered (rw was.order_long low) (rw was.order_long k_lt) stands other

    below : (t : ℕ) → (t ≡ s) ⊎ (t ≡ s → ⊥) → get_or (set kept s n) t 0 ≤ get_or fills t 0
    below t (inl same) = let long = was.kept_long in let at = ap (λ (i : ℕ). get_or (set kept s n) i 0) same in let is = get_or-set_same kept s n 0 (omega arith) in let f_at = ap (λ (i : ℕ). get_or fills i 0) same in omega arith
    below t (inr other) = let is = get_or-set_other kept s t n 0 other in let le = was.kept_fit t in omega arith

-- what a look at an order says of the pool: where a segment stands, the segment at a position, and the spare
pub placed-within : (sh : Shape) (fills kept order dead has_free has_dead : List ℕ) (s : ℕ) → IsSpace sh fills kept order dead has_free has_dead → IsPlaced sh (take (all_positions_of sh) order) s → s < length order
placed-within sh fills kept order dead has_free has_dead s are (k, lt, is) =
    let long = are.order_long in
    let at = get_or-take (all_positions_of sh) order k 0 (omega (arith, lt)) in
    let fit = are.ordered.fit k (omega arith) in
    omega arith

pub placed-low : (sh : Shape) (fills kept order dead has_free has_dead : List ℕ) (s q : ℕ) → IsSpace sh fills kept order dead has_free has_dead → IsPlaced sh (take (all_positions_of sh) order) s → q < length order → get_or order q 0 ≡ s → q < positions_of sh
placed-low sh fills kept order dead has_free has_dead s q are (k, lt, is) within stands =
    let long = are.order_long in
    let same : q ≡ k = are.ordered.apart q k within (omega arith) (stands ∙ sym is ∙ get_or-take (all_positions_of sh) order k 0 (omega (arith, lt))) in
    rw same lt

pub spare-last : (sh : Shape) (fills kept order dead has_free has_dead : List ℕ) (e : ℕ) → IsSpace sh fills kept order dead has_free has_dead → e ≡ get_or order (all_positions_of sh) 0 → IsSpare sh (take (all_positions_of sh) order) e
spare-last sh fills kept order dead has_free has_dead e are is =
    let long = are.order_long in
    let some = are.shape.segments in
    let fit = are.ordered.fit (all_positions_of sh) (omega arith) in
    record {
      segment = omega arith;
      nowhere = λ k lt stands.
          let same : k ≡ all_positions_of sh = are.ordered.apart k (all_positions_of sh) (omega arith) (omega arith) (sym (get_or-take (all_positions_of sh) order k 0 lt) ∙ stands ∙ is) in
          absurd (omega arith);
    }
