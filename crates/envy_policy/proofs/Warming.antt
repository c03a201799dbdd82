-- Heats that are kept with a halving that isn't done of all of them.
use Rattle.std.proofs.Common.{◌≡◌, ◌≢◌, inl, inr, ℕ, ◌+◌, ◌*◌, ◌/◌, ◌^◌, ◌<◌, ◌≤◌, List, length, map, replicate, sum, slice_index, get_or, set, Fits, w32, refl, sym, ap, ◌∙◌, arith}
use Rattle.std.specs.List.{range_with_len}
use Rattle.std.specs.Prelude.{nat_lt, if◌then◌else◌}
use Rattle.std.proofs.lemmas.Bool.{cases_eq, cases_lt, eq-eqb, ne_eqb, lt-ltb, le-ltb}
use Rattle.std.proofs.lemmas.List.{ext_get_or, get_or-set_same, get_or-set_other, get_or-map, get_or-replicate, length-map, length-replicate, length-set}
use Rattle.std.proofs.lemmas.List.FromFn.{fill_by_all, get_or-map-range_with_len, length-map-range_with_len}
use Rattle.std.proofs.lemmas.List.Sums.{sum-map, sum_by-set, sum_by-le-sum_by, get_or-le-sum_by}
use Rattle.std.proofs.lemmas.List.Folds.{sum_by-replicate}
use Rattle.envy_policy.specs.Heats.{Warmth, AreKept, cold, noted, halved_by, heat_of, heats_of, half_of, halves_of, warmer}
use Rattle.envy_policy.proofs.HistoryLemmas.{sum-halves}

-- lists by the number at each place

same-map : (f g : ℕ → ℕ) (n : ℕ) → ((k : ℕ) → k < n → f k ≡ g k) → map f (range_with_len 0 n) ≡ map g (range_with_len 0 n)
same-map f g n same = fill_by_all g (map f (range_with_len 0 n)) n 0 (length-map-range_with_len f 0 n) (λ k below. get_or-map-range_with_len f 0 n k k 0 below (omega arith) ∙ same k below)

set-map : (f g : ℕ → ℕ) (n p : ℕ) → p < n → ((k : ℕ) → k ≢ p → g k ≡ f k) → map g (range_with_len 0 n) ≡ set (map f (range_with_len 0 n)) p (g p)
set-map f g n p within others = sym (fill_by_all g (set old p (g p)) n 0 (length-set old p (g p) ∙ long) (λ k below. elim (cases_eq k p) [
  | inl same ↦ rw same (get_or-set_same old p (g p) 0 (omega (arith, long)))
  | inr other ↦ get_or-set_other old p k (g p) 0 other ∙ get_or-map-range_with_len f 0 n k k 0 below (omega arith) ∙ sym (others k other)
])) where
  old : List ℕ
  old = map f (range_with_len 0 n)

  long : length (map f (range_with_len 0 n)) ≡ n
  long = length-map-range_with_len f 0 n

sum-changed : (f g : ℕ → ℕ) (n p : ℕ) → p < n → ((k : ℕ) → k ≢ p → g k ≡ f k) → sum (map g (range_with_len 0 n)) + f p ≡ sum (map f (range_with_len 0 n)) + g p
sum-changed f g n p within others =
    let old : List ℕ = map f (range_with_len 0 n) in
    let is = ap sum (set-map f g n p within others) in
    let long = length-map-range_with_len f 0 n in
    let here = get_or-map-range_with_len f 0 n p p 0 within (omega arith) in
    let changed = sum_by-set (λ (x : ℕ). x) old p (g p) 0 (omega (arith, long)) in
    omega (arith, is, here, changed)

-- the heat at a place, and its half

-- a heat that has been halved stands as it is,
pub heat-done : (halved : ℕ) (kept : List ℕ) (g : ℕ) → g < halved → heat_of halved kept g ≡ slice_index kept g
heat-done halved kept g below = rw (lt-ltb g halved below) refl

-- one that hasn't is read as its half
pub heat-left : (halved : ℕ) (kept : List ℕ) (g : ℕ) → halved ≤ g → heat_of halved kept g ≡ slice_index kept g / 2
heat-left halved kept g beyond = rw (le-ltb g halved beyond) refl

half-done : (halved : ℕ) (kept : List ℕ) (g : ℕ) → g < halved → half_of halved kept g ≡ slice_index kept g / 2
half-done halved kept g below = rw (lt-ltb g halved below) refl

half-left : (halved : ℕ) (kept : List ℕ) (g : ℕ) → halved ≤ g → half_of halved kept g ≡ 0
half-left halved kept g beyond = rw (le-ltb g halved beyond) refl

pub length-heats : (halved : ℕ) (kept : List ℕ) → length (heats_of halved kept) ≡ length kept
length-heats halved kept = length-map-range_with_len (heat_of halved kept) 0 (length kept)

pub heat-at : (halved : ℕ) (kept : List ℕ) (g : ℕ) → g < length kept → slice_index (heats_of halved kept) g ≡ heat_of halved kept g
heat-at halved kept g within = get_or-map-range_with_len (heat_of halved kept) 0 (length kept) g g 0 within (omega arith)

-- one more is halved

one-heat : (kept : List ℕ) (i k : ℕ) → i < length kept → heat_of (i + 1) (set kept i (get_or kept i 0 / 2)) k ≡ heat_of i kept k
one-heat kept i k within = elim (cases_eq k i) [
  | inl same ↦ rw same (heat-done (i + 1) (set kept i (get_or kept i 0 / 2)) i (omega arith) ∙ get_or-set_same kept i (get_or kept i 0 / 2) 0 within ∙ sym (heat-left i kept i (omega arith)))
  | inr other ↦ elim (cases_lt k i) [
    | inl below ↦ heat-done (i + 1) (set kept i (get_or kept i 0 / 2)) k (omega arith) ∙ get_or-set_other kept i k (get_or kept i 0 / 2) 0 other ∙ sym (heat-done i kept k below)
    | inr beyond ↦ heat-left (i + 1) (set kept i (get_or kept i 0 / 2)) k (omega arith) ∙ ap (λ (x : ℕ). x / 2) (get_or-set_other kept i k (get_or kept i 0 / 2) 0 other) ∙ sym (heat-left i kept k beyond)
  ]
]

-- halving one more changes no heat that is read
pub one-heats : (kept : List ℕ) (i : ℕ) → i < length kept → heats_of (i + 1) (set kept i (get_or kept i 0 / 2)) ≡ heats_of i kept
one-heats kept i within =
    let new : List ℕ = set kept i (get_or kept i 0 / 2) in
    ap (λ n. map (heat_of (i + 1) new) (range_with_len 0 n)) (length-set kept i (get_or kept i 0 / 2))
    ∙ same-map (heat_of (i + 1) new) (heat_of i kept) (length kept) (λ k below. one-heat kept i k within)

one-half : (kept : List ℕ) (i k : ℕ) → k ≢ i → half_of (i + 1) (set kept i (get_or kept i 0 / 2)) k ≡ half_of i kept k
one-half kept i k other = elim (cases_lt k i) [
  | inl below ↦ half-done (i + 1) (set kept i (get_or kept i 0 / 2)) k (omega arith) ∙ ap (λ (x : ℕ). x / 2) (get_or-set_other kept i k (get_or kept i 0 / 2) 0 other) ∙ sym (half-done i kept k below)
  | inr beyond ↦ half-left (i + 1) (set kept i (get_or kept i 0 / 2)) k (omega arith) ∙ sym (half-left i kept k beyond)
]

-- and the sum of halves by that one
pub one-halves : (kept : List ℕ) (i : ℕ) → i < length kept → halves_of (i + 1) (set kept i (get_or kept i 0 / 2)) ≡ halves_of i kept + get_or kept i 0 / 2 / 2
one-halves kept i within =
    let new : List ℕ = set kept i (get_or kept i 0 / 2) in
    let long = ap (λ n. sum (map (half_of (i + 1) new) (range_with_len 0 n))) (length-set kept i (get_or kept i 0 / 2)) in
    let changed = sum-changed (half_of i kept) (half_of (i + 1) new) (length kept) i within (λ k other. one-half kept i k other) in
    let before = half-left i kept i (omega arith) in
    let after = half-done (i + 1) new i (omega arith) ∙ ap (λ (x : ℕ). x / 2) (get_or-set_same kept i (get_or kept i 0 / 2) 0 within) in
    omega (arith, long, changed, before, after)

-- one is raised

-- raising a heat by one as it is read
pub raised-heats : (halved : ℕ) (kept : List ℕ) (p y : ℕ) → p < length kept → heat_of halved (set kept p y) p ≡ heat_of halved kept p + 1 → heats_of halved (set kept p y) ≡ warmer (heats_of halved kept) p
raised-heats halved kept p y within raised =
    ap (λ n. map (heat_of halved (set kept p y)) (range_with_len 0 n)) (length-set kept p y)
    ∙ set-map (heat_of halved kept) (heat_of halved (set kept p y)) (length kept) p within (λ k other. ap (λ (x : ℕ). if nat_lt k halved then x else x / 2) (get_or-set_other kept p k y 0 other))
    ∙ ap (set (heats_of halved kept) p) (raised ∙ ap (λ (x : ℕ). x + 1) (sym (heat-at halved kept p within)))

-- changes the sum of halves by that one
pub raised-halves : (halved : ℕ) (kept : List ℕ) (p y : ℕ) → p < length kept → halves_of halved (set kept p y) + half_of halved kept p ≡ halves_of halved kept + half_of halved (set kept p y) p
raised-halves halved kept p y within =
    let long = ap (λ n. sum (map (half_of halved (set kept p y)) (range_with_len 0 n))) (length-set kept p y) in
    let changed = sum-changed (half_of halved kept) (half_of halved (set kept p y)) (length kept) p within (λ k other. ap (λ (x : ℕ). if nat_lt k halved then x / 2 else 0) (get_or-set_other kept p k y 0 other)) in
    omega (arith, long, changed)

-- the first are halved, and one of them is raised
pub done-heats : (halved : ℕ) (kept : List ℕ) (p : ℕ) → p < length kept → p < halved → heats_of halved (set kept p (get_or kept p 0 + 1)) ≡ warmer (heats_of halved kept) p
done-heats halved kept p within below = raised-heats halved kept p (get_or kept p 0 + 1) within
    (heat-done halved (set kept p (get_or kept p 0 + 1)) p below ∙ get_or-set_same kept p (get_or kept p 0 + 1) 0 within ∙ ap (λ (x : ℕ). x + 1) (sym (heat-done halved kept p below)))

-- for a heat that has been halved
pub done-halves : (halved : ℕ) (kept : List ℕ) (p : ℕ) → p < length kept → p < halved → halves_of halved (set kept p (get_or kept p 0 + 1)) + get_or kept p 0 / 2 ≡ halves_of halved kept + (get_or kept p 0 + 1) / 2
done-halves halved kept p within below =
    let changed = raised-halves halved kept p (get_or kept p 0 + 1) within in
    let before = half-done halved kept p below in
    let after = half-done halved (set kept p (get_or kept p 0 + 1)) p below ∙ ap (λ (x : ℕ). x / 2) (get_or-set_same kept p (get_or kept p 0 + 1) 0 within) in
    omega (arith, changed, before, after)

-- the others aren't, and one of them is raised
pub left-heats : (halved : ℕ) (kept : List ℕ) (p : ℕ) → p < length kept → halved ≤ p → heats_of halved (set kept p (get_or kept p 0 + 2)) ≡ warmer (heats_of halved kept) p
left-heats halved kept p within beyond = raised-heats halved kept p (get_or kept p 0 + 2) within
    (let before = heat-left halved kept p beyond in
    let after = heat-left halved (set kept p (get_or kept p 0 + 2)) p beyond ∙ ap (λ (x : ℕ). x / 2) (get_or-set_same kept p (get_or kept p 0 + 2) 0 within) in
    omega (arith, before, after))

-- and for one that hasn't
pub left-halves : (halved : ℕ) (kept : List ℕ) (p : ℕ) → p < length kept → halved ≤ p → halves_of halved (set kept p (get_or kept p 0 + 2)) ≡ halves_of halved kept
left-halves halved kept p within beyond =
    let changed = raised-halves halved kept p (get_or kept p 0 + 2) within in
    let before = half-left halved kept p beyond in
    let after = half-left halved (set kept p (get_or kept p 0 + 2)) p beyond in
    omega (arith, changed, before, after)

-- where none is halved yet, and where all are

pub none-heats : (kept : List ℕ) → heats_of 0 kept ≡ map (λ x. x / 2) kept
none-heats kept = sym (fill_by_all (heat_of 0 kept) (map (λ (x : ℕ). x / 2) kept) (length kept) 0 (length-map kept (λ (x : ℕ). x / 2)) (λ k below. get_or-map (λ (x : ℕ). x / 2) kept k 0 0 below ∙ sym (heat-left 0 kept k (omega arith))))

-- where all have been halved all stand as they are
pub all-heats : (kept : List ℕ) → heats_of (length kept) kept ≡ kept
all-heats kept = sym (fill_by_all (heat_of (length kept) kept) kept (length kept) 0 refl (λ k below. sym (heat-done (length kept) kept k below)))

pub none-halves : (kept : List ℕ) → halves_of 0 kept ≡ 0
none-halves kept = ap sum (sym (fill_by_all (half_of 0 kept) (replicate (length kept) 0) (length kept) 0 (length-replicate {A = ℕ} (length kept) 0) (λ k below. get_or-replicate {A = ℕ} (length kept) k 0 0 below ∙ sym (half-left 0 kept k (omega arith))))) ∙ zeros (length kept)
  where
    zeros : (n : ℕ) → sum (replicate n 0) ≡ 0
    zeros n = omega (arith, sum_by-replicate (λ (x : ℕ). x) n 0)

-- the halves of all are the sum of the heats that a halving leaves
pub all-halves : (kept : List ℕ) → halves_of (length kept) kept ≡ sum (heats_of 0 kept)
all-halves kept = ap sum (same-map (half_of (length kept) kept) (heat_of 0 kept) (length kept) (λ k below. half-done (length kept) kept k below ∙ sym (heat-left 0 kept k (omega arith))))

-- bounds

half-small : (halved : ℕ) (kept : List ℕ) (k : ℕ) → half_of halved kept k ≤ heat_of halved kept k
half-small halved kept k = elim (cases_lt k halved) [
  | inl below ↦ let half = half-done halved kept k below in let whole = heat-done halved kept k below in omega (arith, half, whole)
  | inr beyond ↦ let half = half-left halved kept k beyond in omega (arith, half)
]

-- the sum of halves is at most the sum of heats
pub halves-small : (halved : ℕ) (kept : List ℕ) → halves_of halved kept ≤ sum (heats_of halved kept)
halves-small halved kept =
    let half = sum-map (half_of halved kept) (range_with_len 0 (length kept)) in
    let whole = sum-map (heat_of halved kept) (range_with_len 0 (length kept)) in
    let small = sum_by-le-sum_by (half_of halved kept) (heat_of halved kept) (range_with_len 0 (length kept)) (λ k. half-small halved kept k) in
    omega (arith, half, whole, small)

-- a heat is at most twice the sum
pub kept-small : (halved : ℕ) (kept : List ℕ) (p : ℕ) → p < length kept → get_or kept p 0 ≤ 2 * sum (heats_of halved kept) + 1
kept-small halved kept p within =
    let long = length-heats halved kept in
    let heat = heat-at halved kept p within in
    let small = get_or-le-sum_by (λ (x : ℕ). x) (heats_of halved kept) p 0 (omega (arith, long)) in
    elim (cases_lt p halved) [
      | inl below ↦ let is = heat-done halved kept p below in omega (arith, heat, small, is)
      | inr beyond ↦ let is = heat-left halved kept p beyond in omega (arith, heat, small, is)
    ]

-- a start

pub cold-heats : (kept : List ℕ) (count : ℕ) → kept ≡ replicate count 0 → heats_of (halved_by 0 (length kept)) kept ≡ replicate count 0
cold-heats kept count is =
    let none : halved_by 0 (length kept) ≡ 0 = omega arith in
    ap (λ n. heats_of n kept) none ∙ none-heats kept ∙ ap (map (λ x. x / 2)) is
    ∙ sym (ext_get_or 0 (replicate count 0) (map (λ x. x / 2) (replicate count 0)) (sym (length-map (replicate count 0) (λ (x : ℕ). x / 2))) (λ k below.
    let low : k < count = omega (arith, length-replicate {A = ℕ} count 0, below) in
    let zero = get_or-replicate {A = ℕ} count k 0 0 low in
    zero ∙ sym (get_or-map (λ (x : ℕ). x / 2) (replicate count 0) k 0 0 below ∙ ap (λ (x : ℕ). x / 2) zero)))

pub kept-start : (kept : List ℕ) (count : ℕ) → kept ≡ replicate count 0 → count ≤ 4095 → AreKept kept 0 0 0
kept-start kept count is few = record {
  few = let long = ap length is ∙ length-replicate {A = ℕ} count 0 in omega (arith, long);
  since_few = omega arith;
  sum_is =
      let zeros = ap sum (cold-heats kept count is) in
      let zero = sum_by-replicate (λ (x : ℕ). x) count 0 in
      omega (arith, zeros, zero);
  cool = omega arith;
  halves_are = let none : halved_by 0 (length kept) ≡ 0 = omega arith in rw none (sym (none-halves kept));
}

-- a flush: some more are halved, and then one is raised
pub record Stepped (kept new : List ℕ) (since end more raise g : ℕ) : Type 0 where
  pub long : length new ≡ length kept
  pub within : g < length kept
  pub end_is : end ≡ halved_by (since + 1) (length kept)
  pub heats : heats_of end new ≡ warmer (heats_of (halved_by since (length kept)) kept) g
  pub halves : halves_of end new ≡ halves_of (halved_by since (length kept)) kept + more + raise

-- a step that notes a flush and halves a few
pub stepped : (kept old one mid new : List ℕ) (since count first end more raise g : ℕ) → count ≡ length kept → g < length kept → first ≡ halved_by since count → end ≡ halved_by (since + 1) count → old ≡ kept → mid ≡ one
    → length one ≡ length old → heats_of end one ≡ heats_of first old → halves_of end one ≡ halves_of first old + more
    → length new ≡ length mid → heats_of end new ≡ warmer (heats_of end mid) g → halves_of end new ≡ halves_of end mid + raise
    → Stepped kept new since end more raise g
stepped kept old one mid new since count first end more raise g is_count within is_first is_end is_old is_mid long heats halves long_new heats_new halves_new = record {
  long = long_new ∙ ap length is_mid ∙ long ∙ ap length is_old;
  within = within;
  end_is = is_end ∙ ap (halved_by (since + 1)) is_count;
  heats = heats_new ∙ ap (λ xs. warmer xs g) (ap (heats_of end) is_mid ∙ heats ∙ begun);
  halves =
      let first_halves = ap (halves_of end) is_mid in
      let begun_halves = ap (λ n. halves_of n old) (is_first ∙ ap (halved_by since) is_count) ∙ ap (halves_of (halved_by since (length kept))) is_old in
      omega (arith, halves_new, first_halves, halves, begun_halves);
} where
  begun : heats_of first old ≡ heats_of (halved_by since (length kept)) kept
  begun = ap (λ n. heats_of n old) (is_first ∙ ap (halved_by since) is_count) ∙ ap (heats_of (halved_by since (length kept))) is_old

-- the sum so far is no greater than that of the heats
pub halves-fit : (kept old one : List ℕ) (since count first end warmth halves more : ℕ) → AreKept kept since warmth halves → count ≡ length kept → first ≡ halved_by since count → old ≡ kept
    → heats_of end one ≡ heats_of first old → halves_of end one ≡ halves_of first old + more → halves + more ≤ 2047
halves-fit kept old one since count first end warmth halves more are is_count is_first is_old heats is =
    let small = halves-small end one in
    let same = ap sum (heats ∙ ap (λ n. heats_of n old) (is_first ∙ ap (halved_by since) is_count) ∙ ap (heats_of (halved_by since (length kept))) is_old) in
    let begun = ap (λ n. halves_of n old) (is_first ∙ ap (halved_by since) is_count) ∙ ap (halves_of (halved_by since (length kept))) is_old in
    omega (arith, small, same, begun, is, are.halves_are, are.sum_is, are.cool, are.since_few)

-- there is room for it
pub room-left : (kept old one mid : List ℕ) (since count first end warmth halves g : ℕ) → AreKept kept since warmth halves → count ≡ length kept → first ≡ halved_by since count → old ≡ kept → mid ≡ one
    → length one ≡ length old → heats_of end one ≡ heats_of first old → g < length kept → slice_index mid g < 4294967294
room-left kept old one mid since count first end warmth halves g are is_count is_first is_old is_mid long heats within =
    let long_old = ap length is_old in
    let small = kept-small end one g (omega (arith, long, long_old, within)) in
    let same = ap sum (heats ∙ ap (λ n. heats_of n old) (is_first ∙ ap (halved_by since) is_count) ∙ ap (heats_of (halved_by since (length kept))) is_old) in
    let here = ap (λ (xs : List ℕ). slice_index xs g) is_mid in
    omega (arith, small, same, here, are.sum_is, are.cool, are.since_few)

-- the sum of the heats behind it
stepped-sum : (kept new : List ℕ) (since end warmth halves more raise g : ℕ) → AreKept kept since warmth halves → Stepped kept new since end more raise g → sum (heats_of end new) ≡ warmth + 1
stepped-sum kept new since end warmth halves more raise g are step =
    let old : List ℕ = heats_of (halved_by since (length kept)) kept in
    let long = length-heats (halved_by since (length kept)) kept in
    let same = ap sum step.heats in
    let set = sum_by-set (λ (x : ℕ). x) old g (slice_index old g + 1) 0 (omega (arith, long, step.within)) in
    omega (arith, same, set, are.sum_is)

-- where a halving begins: then all are halved
all-halved : (kept new : List ℕ) (since end more raise g : ℕ) → Stepped kept new since end more raise g → length kept ≤ 4095 → since + 1 ≡ 1024 → end ≡ length new
all-halved kept new since end more raise g step few last = omega (arith, step.end_is, step.long, few, last)

-- at the end of a round all are halved, and the next begins
pub kept-anew : (kept new : List ℕ) (since end warmth halves more raise g : ℕ) → AreKept kept since warmth halves → Stepped kept new since end more raise g → since + 1 ≡ 1024 → AreKept new 0 (halves + more + raise) 0
kept-anew kept new since end warmth halves more raise g are step last = record {
  few = omega (arith, step.long, are.few);
  since_few = omega arith;
  sum_is = rw none total;
  cool =
      let whole = ap sum (all-heats new) in
      let half = sum-halves new in
      let halved = ap sum (none-heats new) in
      let is = stepped-sum kept new since end warmth halves more raise g are step in
      let same = ap (λ n. sum (heats_of n new)) all in
      omega (arith, total, whole, half, halved, is, same, are.cool, last);
  halves_are = rw none (sym (none-halves new));
} where
  none : halved_by 0 (length new) ≡ 0
  none = omega arith

  all : end ≡ length new
  all = all-halved kept new since end more raise g step are.few last

  total : halves + more + raise ≡ sum (heats_of 0 new)
  total = let same = ap (λ n. halves_of n new) all in let is = all-halves new in omega (arith, same, is, step.halves, are.halves_are)

-- and the heats are those noted
pub noted-anew : (w : Warmth) (kept new shown : List ℕ) (since end warmth halves more raise g : ℕ) → AreKept kept since warmth halves → Stepped kept new since end more raise g → since + 1 ≡ 1024
    → record { heats = heats_of (halved_by since (length kept)) kept; flushes = since } ≡ w → shown ≡ new → record { heats = heats_of (halved_by 0 (length shown)) shown; flushes = 0 } ≡ noted w g
noted-anew w kept new shown since end warmth halves more raise g are step last view is = ap (λ (xs : List ℕ). record { heats = heats_of (halved_by 0 (length xs)) xs; flushes = 0 }) is ∙ anew ∙ ap (λ (v : Warmth). noted v g) view
  where
    warm : new ≡ warmer (heats_of (halved_by since (length kept)) kept) g
    warm = sym (all-heats new) ∙ ap (λ n. heats_of n new) (sym (all-halved kept new since end more raise g step are.few last)) ∙ step.heats

    none : halved_by 0 (length new) ≡ 0
    none = omega arith

    half : heats_of (halved_by 0 (length new)) new ≡ map (λ x. x / 2) (warmer (heats_of (halved_by since (length kept)) kept) g)
    half = ap (λ n. heats_of n new) none ∙ none-heats new ∙ ap (map (λ x. x / 2)) warm

    anew : record { heats = heats_of (halved_by 0 (length new)) new; flushes = 0 } ≡ noted (record { heats = heats_of (halved_by since (length kept)) kept; flushes = since }) g
    anew = rw (eq-eqb (since + 1) 1024 last) (ap (λ (xs : List ℕ). record { heats = xs; flushes = 0 }) half)

-- before the last flush of a round some more are halved,
left-halved : (kept new : List ℕ) (since end more raise g : ℕ) → Stepped kept new since end more raise g → end ≡ halved_by (since + 1) (length new)
left-halved kept new since end more raise g step = step.end_is ∙ ap (halved_by (since + 1)) (sym step.long)

pub kept-on : (kept new shown : List ℕ) (since end warmth halves more raise g : ℕ) → AreKept kept since warmth halves → Stepped kept new since end more raise g → since + 1 ≢ 1024 → shown ≡ new → AreKept shown (since + 1) (warmth + 1) (halves + more + raise)
kept-on kept new shown since end warmth halves more raise g are step before is = rw is (record {
  few = omega (arith, step.long, are.few);
  since_few = omega (arith, are.since_few, before);
  sum_is = sym (stepped-sum kept new since end warmth halves more raise g are step) ∙ ap (λ n. sum (heats_of n new)) left;
  cool = omega (arith, are.cool);
  halves_are = let same = ap (λ n. halves_of n new) left in omega (arith, same, step.halves, are.halves_are);
}) where
  left : end ≡ halved_by (since + 1) (length new)
  left = left-halved kept new since end more raise g step

-- and the heats are those noted
pub noted-on : (w : Warmth) (kept new shown : List ℕ) (since end more raise g : ℕ) → Stepped kept new since end more raise g → since + 1 ≢ 1024
    → record { heats = heats_of (halved_by since (length kept)) kept; flushes = since } ≡ w → shown ≡ new → record { heats = heats_of (halved_by (since + 1) (length shown)) shown; flushes = since + 1 } ≡ noted w g
noted-on w kept new shown since end more raise g step before view is = ap (λ (xs : List ℕ). record { heats = heats_of (halved_by (since + 1) (length xs)) xs; flushes = since + 1 }) is ∙ on ∙ ap (λ (v : Warmth). noted v g) view
  where
    on : record { heats = heats_of (halved_by (since + 1) (length new)) new; flushes = since + 1 } ≡ noted (record { heats = heats_of (halved_by since (length kept)) kept; flushes = since }) g
    on = rw (ne_eqb (since + 1) 1024 before) (ap (λ (xs : List ℕ). record { heats = xs; flushes = since + 1 }) (ap (λ n. heats_of n new) (sym (left-halved kept new since end more raise g step)) ∙ step.heats))

-- a flush more: from the halved to those to be halved, all within the heats
pub halved-more : (since count other first end : ℕ) → first ≡ halved_by since count → end ≡ halved_by (since + 1) other → count ≡ other → first ≤ end
halved-more since count other first end is_first is_end same = omega (arith, is_first, is_end, same)

pub halved-within : (since count long end : ℕ) → end ≡ halved_by since count → count ≡ long → end ≤ long
halved-within since count long end is same = omega (arith, is, same)

-- what is counted fits
pub heats-fit : (kept old : List ℕ) (since count first warmth halves : ℕ) → AreKept kept since warmth halves → count ≡ length kept → first ≡ halved_by since count → old ≡ kept → sum (heats_of first old) < 4294967296
heats-fit kept old since count first warmth halves are is_count is_first is_old =
    let same = ap sum (ap (λ n. heats_of n old) (is_first ∙ ap (halved_by since) is_count) ∙ ap (heats_of (halved_by since (length kept))) is_old) in
    omega (arith, same, are.sum_is, are.cool, are.since_few)

pub since-fits : (kept : List ℕ) (since warmth halves : ℕ) → AreKept kept since warmth halves → Fits w32 (since + 1)
since-fits kept since warmth halves are = omega (arith, are.since_few)

pub warmth-fits : (kept : List ℕ) (since warmth halves : ℕ) → AreKept kept since warmth halves → Fits w32 (warmth + 1)
warmth-fits kept since warmth halves are = omega (arith, are.cool, are.since_few)

-- a halving in its course: the sum of the halves so far fits
pub halves-so-far : (kept old : List ℕ) (g first halves : ℕ) → g < length kept → heats_of g kept ≡ heats_of first old → halves_of g kept ≡ halves_of first old + halves → sum (heats_of first old) < 2 ^ 32 → halves + get_or kept g 0 / 2 / 2 < 2 ^ 32
halves-so-far kept old g first halves within heats is few =
    let new : List ℕ = set kept g (get_or kept g 0 / 2) in
    let small = halves-small (g + 1) new in
    let more = one-halves kept g within in
    let same = ap sum (one-heats kept g within ∙ heats) in
    omega (arith, small, more, same, is, few)

pub cold-view : (kept : List ℕ) (count : ℕ) → kept ≡ replicate count 0 → record { heats = heats_of (halved_by 0 (length kept)) kept; flushes = 0 } ≡ cold count
cold-view kept count is = ap (λ (heats : List ℕ). record { heats = heats; flushes = 0 }) (cold-heats kept count is)
