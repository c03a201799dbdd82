-- The sums of the balances are the sum of the deltas.
use Rattle.std.proofs.Common.{◌≡◌, ◌⊎◌, inl, inr, ℕ, zero, suc, ◌<◌, ◌≤◌, List, [], ◌∷◌, refl, sym, ◌∙◌, ap, arith}
use Rattle.std.specs.Prelude.{ℤ, pos, ◌+ℤ◌, ◌==◌, cond}
use Rattle.std.specs.List.{All}
use Rattle.std.proofs.Math.IntN.{+ℤ_comm, +ℤ_assoc, +ℤ_idl, +ℤ_idr}
use Rattle.std.proofs.lemmas.Bool.{cases_eq, ne_eqb, eq-eqb}
use Rattle.envy_tpca.specs.declared.transfer.Transfer.{Transfer}
use Rattle.envy_tpca.specs.Summing.{sum_below}
use Rattle.envy_tpca.specs.Tpc.{deltas, deltas_of}

-- each transfer has its record below n: the sums of all records are the sum of the deltas
abbrev pub SumsOf : Type 0
SumsOf = (at : Transfer → ℕ) (n : ℕ) (ts : List Transfer) → All (λ t. at t < n) ts → sum_below n (λ k. deltas_of at k ts) ≡ deltas ts

-- (a + b) + (c + d) is (a + c) + (b + d)
swapped : (a b c d : ℤ) → (a +ℤ b) +ℤ (c +ℤ d) ≡ (a +ℤ c) +ℤ (b +ℤ d)
swapped a b c d = +ℤ_assoc a b (c +ℤ d) ∙ ap (λ (x : ℤ). a +ℤ x) (sym (+ℤ_assoc b c d) ∙ ap (λ (x : ℤ). x +ℤ d) (+ℤ_comm b c) ∙ +ℤ_assoc c b d) ∙ sym (+ℤ_assoc a c (b +ℤ d))

pub sum-zero : (n : ℕ) → sum_below n (λ k. pos 0) ≡ pos 0
sum-zero zero = refl
sum-zero (suc n) = +ℤ_idr (sum_below n (λ k. pos 0)) ∙ sum-zero n

-- sums of sums
pub sum-both : (n : ℕ) (f g : ℕ → ℤ) → sum_below n (λ k. f k +ℤ g k) ≡ sum_below n f +ℤ sum_below n g
sum-both zero f g = refl
sum-both (suc n) f g = ap (λ (x : ℤ). x +ℤ (f n +ℤ g n)) (sum-both n f g) ∙ swapped (sum_below n f) (sum_below n g) (f n) (g n)

-- one at i alone
pub sum-none : (n i : ℕ) (x : ℤ) → n ≤ i → sum_below n (λ k. cond (i == k) x (pos 0)) ≡ pos 0
sum-none zero i x le = refl
sum-none (suc n) i x le = rw (ne_eqb i n (λ e. omega arith)) (+ℤ_idr (sum_below n (λ k. cond (i == k) x (pos 0))) ∙ sum-none n i x (omega arith))

-- a sum of which one part isn't 0
pub sum-one : (n i : ℕ) (x : ℤ) → i < n → sum_below n (λ k. cond (i == k) x (pos 0)) ≡ x
sum-one zero i x lt = absurd (omega arith)
sum-one (suc n) i x lt = at (cases_eq i n) (λ less. sum-one n i x less)
  where
    at : (i ≡ n) ⊎ (i ≡ n → ⊥) → (i < n → sum_below n (λ k. cond (i == k) x (pos 0)) ≡ x) → sum_below (suc n) (λ k. cond (i == k) x (pos 0)) ≡ x
    at (inl same) more = rw (eq-eqb i n same) (ap (λ (y : ℤ). y +ℤ x) (sum-none n i x (omega arith)) ∙ +ℤ_idl x)
    at (inr other) more = rw (ne_eqb i n other) (+ℤ_idr (sum_below n (λ k. cond (i == k) x (pos 0))) ∙ more (omega arith))

pub sums-are : SumsOf
sums-are at n [] all = sum-zero n
sums-are at n (t ∷ ts) all =
    sum-both n (λ k. cond (at t == k) t.delta (pos 0)) (λ k. deltas_of at k ts)
    ∙ ap (λ (x : ℤ). x +ℤ sum_below n (λ k. deltas_of at k ts)) (sum-one n (at t) t.delta (all 0 t (omega arith)))
    ∙ ap (λ (x : ℤ). t.delta +ℤ x) (sums-are at n ts (λ k d lt. all (suc k) d (omega arith)))
