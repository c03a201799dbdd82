-- What a restart finds, and how large the sums are.
use Rattle.std.proofs.Common.{◌≡◌, ◌⊎◌, inl, inr, ℕ, suc, ◌<◌, ◌≤◌, ◌+◌, ◌*◌, true, false, cond, List, [], ◌∷◌, length, get_or, replicate, arith}
use Rattle.std.specs.Prelude.{ℤ, pos, negsuc, ◌+ℤ◌, ◌==◌, ◌^◌, unsigned_abs}
use Rattle.std.proofs.Common.{w64}
use Rattle.std.proofs.lemmas.List.{length-replicate, get_or-replicate, get_or_past}
use Rattle.std.proofs.lemmas.Int.{fits_signed_from_abs, ints}
use Rattle.std.proofs.lemmas.Bool.{cases_lt, cases_Bool}
use Rattle.envy_tpca.specs.declared.places.Places.{Places}
use Rattle.envy_tpca.specs.declared.transfer.Transfer.{Transfer}
use Rattle.envy_tpca.specs.Summing.{Small}
use Rattle.envy_tpca.specs.Tpc.{TpcAt, deltas_of, branch_at, teller_at, account_at}
use Rattle.envy_tpca.specs.Trial.{AreSmall}

-- words of zeros are those after no transfer
abbrev pub ZerosLaw : Type 0
ZerosLaw = (l : Places) (size : ℕ) → TpcAt l size [] (replicate size 0)

-- sums of so many small deltas are far from the ends of a signed word
abbrev pub BoundLaw : Type 0
BoundLaw = (at : Transfer → ℕ) (k : ℕ) (ts : List Transfer) → AreSmall ts → length ts ≤ 2 ^ 32 → Small (deltas_of at k ts)

zero-at : (n a : ℕ) → get_or {A = ℕ} (replicate n 0) a 0 ≡ 0
zero-at n a = at (cases_lt a n)
  where
    at : (a < n) ⊎ (n ≤ a) → get_or {A = ℕ} (replicate n 0) a 0 ≡ 0
    at (inl lt) = get_or-replicate n a 0 0 lt
    at (inr le) = get_or_past (replicate n 0) a 0 (rw length-replicate le)

pub zeros-law : ZerosLaw
zeros-law l size = record {
  long = length-replicate size 0;
  count = zero-at size 0;
  branches = λ k lt. zero-at size (branch_at l k);
  tellers = λ k lt. zero-at size (teller_at l k);
  accounts = λ k lt. zero-at size (account_at l k);
  history = λ j d lt. absurd (omega arith);
  gap = λ a le lt. zero-at size a;
  rest = λ a le. zero-at size a;
}

abs-sub : (m n : ℕ) → unsigned_abs (pos m +ℤ negsuc n) ≤ m + suc n
abs-sub m n = omega (arith, ints)

pub abs-add : (x y : ℤ) → unsigned_abs (x +ℤ y) ≤ unsigned_abs x + unsigned_abs y
abs-add (pos m) (pos n) = omega arith
abs-add (pos m) (negsuc n) = abs-sub m n
abs-add (negsuc m) (pos n) = let e : unsigned_abs (negsuc m +ℤ pos n) ≤ n + suc m = abs-sub n m in omega arith
abs-add (negsuc m) (negsuc n) = omega arith

-- deltas add up to less than a million for each transfer
pub abs-of : (at : Transfer → ℕ) (k : ℕ) (ts : List Transfer) → AreSmall ts → unsigned_abs (deltas_of at k ts) ≤ length ts * 10 ^ 6
abs-of at k [] all = omega arith
abs-of at k (t ∷ ts) all =
    let e = abs-add (cond (at t == k) t.delta (pos 0)) (deltas_of at k ts) in
    let rest = abs-of at k ts (λ i d lt. all (suc i) d (omega arith)) in
    let first : unsigned_abs (cond (at t == k) t.delta (pos 0)) ≤ 10 ^ 6 = one (cases_Bool (at t == k)) in
    omega arith
  where
    one : ((at t == k) ≡ true) ⊎ ((at t == k) ≡ false) → unsigned_abs (cond (at t == k) t.delta (pos 0)) ≤ 10 ^ 6
    one (inl e) = rw e (let small = all 0 t (omega arith) in omega arith)
    one (inr e) = rw e (omega arith)

pub bound-law : BoundLaw
bound-law at k ts all few = fits_signed_from_abs w64 (deltas_of at k ts) (let e = abs-of at k ts all in omega arith)
