-- Sums over the numbers below n.
use Rattle.std.proofs.Common.{◌≡◌, ◌≢◌, ◌⊎◌, inl, inr, ℕ, zero, suc, ◌+◌, ◌*◌, ◌<◌, ◌≤◌, List, length, get_or, take, refl, sym, ◌∙◌, ap, add-one, arith}
use Rattle.std.specs.Prelude.{sum_by}
use Rattle.std.specs.List.{range_with_len}
use Rattle.std.proofs.lemmas.Bool.{cases_eq}
use Rattle.std.proofs.lemmas.List.{take_all}
use Rattle.std.proofs.lemmas.List.Sums.{sum_by-cons, sum_by_more}

range-from : (g : ℕ → ℕ) (a n j : ℕ) → j ≡ a + n → sum_by g (range_with_len a (suc n)) ≡ sum_by g (range_with_len a n) + g j
range-from g a zero j e = sum_by-cons g a (range_with_len (a + 1) zero) ∙ (let same : g j ≡ g a = ap g (omega arith) in omega arith)
range-from g a (suc n) j e =
    let first = sum_by-cons g a (range_with_len (a + 1) (suc n)) in
    let less = sum_by-cons g a (range_with_len (a + 1) n) in
    let rest = range-from g (a + 1) n j (omega arith) in
    omega arith

-- one more number
pub range_more : (g : ℕ → ℕ) (n : ℕ) → sum_by g (range_with_len 0 (suc n)) ≡ sum_by g (range_with_len 0 n) + g n
range_more g n = range-from g 0 n n (omega arith)

pub range-le : (g h : ℕ → ℕ) (n : ℕ) → ((k : ℕ) → k < n → g k ≤ h k) → sum_by g (range_with_len 0 n) ≤ sum_by h (range_with_len 0 n)
range-le g h zero each = omega arith
range-le g h (suc n) each =
    let left = range_more g n in
    let right = range_more h n in
    let rest = range-le g h n (λ k lt. each k (omega arith)) in
    let last = each n (omega arith) in
    omega arith

pub range-same : (g h : ℕ → ℕ) (n : ℕ) → ((k : ℕ) → k < n → g k ≡ h k) → sum_by g (range_with_len 0 n) ≡ sum_by h (range_with_len 0 n)
range-same g h zero each = refl
range-same g h (suc n) each =
    let left = range_more g n in
    let right = range_more h n in
    let rest = range-same g h n (λ k lt. each k (omega arith)) in
    let last = each n (omega arith) in
    omega arith

pub range-constant : (m n : ℕ) → sum_by (λ k. m) (range_with_len 0 n) ≡ n * m
range-constant m zero = omega arith
range-constant m (suc n) =
    let one = range_more (λ k. m) n in
    let rest = range-constant m n in
    omega arith

pub range-sum : (g h : ℕ → ℕ) (n : ℕ) → sum_by (λ k. g k + h k) (range_with_len 0 n) ≡ sum_by g (range_with_len 0 n) + sum_by h (range_with_len 0 n)
range-sum g h zero = omega arith
range-sum g h (suc n) =
    let whole = range_more (λ k. g k + h k) n in
    let left = range_more g n in
    let right = range_more h n in
    let rest = range-sum g h n in
    omega arith

-- each term is in the sum
pub range_has : (g : ℕ → ℕ) (n k : ℕ) → k < n → g k ≤ sum_by g (range_with_len 0 n)
range_has g zero k lt = omega arith
range_has g (suc n) k lt = at (λ low. range_has g n k low) (cases_eq k n)
  where
    at : (k < n → g k ≤ sum_by g (range_with_len 0 n)) → (k ≡ n) ⊎ (k ≡ n → ⊥) → g k ≤ sum_by g (range_with_len 0 (suc n))
    at rest (inl same) = let one = range_more g n in let here : g k ≡ g n = ap g same in omega arith
    at rest (inr other) = let one = range_more g n in let below = rest (omega arith) in omega arith

-- where the terms are 0
pub range-zero : (g : ℕ → ℕ) (n : ℕ) → ((k : ℕ) → k < n → g k ≡ 0) → sum_by g (range_with_len 0 n) ≡ 0
range-zero g n each = range-same g (λ k. 0) n each ∙ range-constant 0 n ∙ omega arith

-- where one term differs
pub range-other : (g h : ℕ → ℕ) (n p : ℕ) → p < n → ((k : ℕ) → k < n → k ≢ p → g k ≡ h k) → sum_by g (range_with_len 0 n) + h p ≡ sum_by h (range_with_len 0 n) + g p
range-other g h zero p lt each = absurd (omega arith)
range-other g h (suc n) p lt each = at (λ low. range-other g h n p low (λ k less ne. each k (omega arith) ne)) (cases_eq p n)
  where
    at : (p < n → sum_by g (range_with_len 0 n) + h p ≡ sum_by h (range_with_len 0 n) + g p) → (p ≡ n) ⊎ (p ≡ n → ⊥) → sum_by g (range_with_len 0 (suc n)) + h p ≡ sum_by h (range_with_len 0 (suc n)) + g p
    at rest (inl same) =
        let left = range_more g n in
        let right = range_more h n in
        let front = range-same g h n (λ k low. each k (omega arith) (λ e. absurd (omega arith))) in
        let one : g p ≡ g n = ap g same in
        let two : h p ≡ h n = ap h same in
        omega arith
    at rest (inr other) =
        let left = range_more g n in
        let right = range_more h n in
        let front = rest (omega arith) in
        let last = each n (omega arith) (λ e. other (sym e)) in
        omega arith

-- where no two terms are above 0, and none is above 1
pub range_lone : (g : ℕ → ℕ) (n : ℕ) → ((k : ℕ) → k < n → g k ≤ 1) → ((j k : ℕ) → j < n → k < n → 0 < g j → 0 < g k → j ≡ k) → sum_by g (range_with_len 0 n) ≤ 1
range_lone g zero small lone = omega arith
range_lone g (suc n) small lone = at (range_lone g n (λ k lt. small k (omega arith)) (λ j k low lt. lone j k (omega arith) (omega arith))) (cases_eq (g n) 0)
  where
    none : (g n ≡ 0 → ⊥) → (k : ℕ) → k < n → (g k ≡ 0) ⊎ (g k ≡ 0 → ⊥) → g k ≡ 0
    none last k lt (inl is) = is
    none last k lt (inr not) = let same = lone k n (omega arith) (omega arith) (omega arith) (omega arith) in absurd (omega arith)

    at : sum_by g (range_with_len 0 n) ≤ 1 → (g n ≡ 0) ⊎ (g n ≡ 0 → ⊥) → sum_by g (range_with_len 0 (suc n)) ≤ 1
    at rest (inl is) = let one = range_more g n in omega arith
    at rest (inr last) =
        let one = range_more g n in
        let most = small n (omega arith) in
        let front = range-zero g n (λ k lt. none last k lt (cases_eq (g k) 0)) in
        omega arith

-- the sum of sums, in either order
pub range-swap : (g : ℕ → ℕ → ℕ) (m n : ℕ) → sum_by (λ i. sum_by (λ k. g i k) (range_with_len 0 n)) (range_with_len 0 m) ≡ sum_by (λ k. sum_by (λ i. g i k) (range_with_len 0 m)) (range_with_len 0 n)
range-swap g zero n = sym (range-zero (λ k. 0) n (λ k lt. refl))
range-swap g (suc m) n =
    let more = range_more (λ i. sum_by (λ k. g i k) (range_with_len 0 n)) m in
    let rest = range-swap g m n in
    let split = range-sum (λ k. sum_by (λ i. g i k) (range_with_len 0 m)) (λ k. g m k) n in
    let same = range-same (λ k. sum_by (λ i. g i k) (range_with_len 0 (suc m))) (λ k. sum_by (λ i. g i k) (range_with_len 0 m) + g m k) n (λ k lt. range_more (λ i. g i k) m) in
    omega arith

-- a sum over a list, by its indices
sum_by-taken : {X : Type 0} (g : X → ℕ) (d : X) (xs : List X) (n : ℕ) → n ≤ length xs → sum_by g (take n xs) ≡ sum_by (λ k. g (get_or xs k d)) (range_with_len 0 n)
sum_by-taken {X} g d xs zero fits = refl
sum_by-taken {X} g d xs (suc n) fits =
    let left = sum_by_more g xs n d (omega arith) in
    let right = range_more (λ k. g (get_or xs k d)) n in
    let rest = sum_by-taken g d xs n (omega arith) in
    rw (sym (add-one n)) (omega arith)

pub sum_by-indexed : {X : Type 0} (g : X → ℕ) (d : X) (xs : List X) → sum_by g xs ≡ sum_by (λ k. g (get_or xs k d)) (range_with_len 0 (length xs))
sum_by-indexed {X} g d xs = ap (λ ys. sum_by g ys) (sym (take_all (length xs) xs (omega arith))) ∙ sum_by-taken g d xs (length xs) (omega arith)
