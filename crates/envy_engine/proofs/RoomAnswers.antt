-- Whether a frame is free, from how many are used.
use Rattle.std.proofs.Common.{◌≡◌, ◌≢◌, ◌⊎◌, inl, inr, ℕ, ◌<◌, ◌≤◌, List, [], length, drop, ap, arith}
use Rattle.std.proofs.lemmas.Bool.{cases_lt}
use Rattle.std.proofs.lemmas.List.{length-drop}

-- of at least two frames some are held where all are
pub held-some : {A : Type 0} (xs : List A) (n : ℕ) → length xs ≡ n → 2 ≤ n → xs ≢ []
held-some xs n full two none = let empty : length xs ≡ 0 = ap length none in omega arith

-- one was given back
pub room-made : {A : Type 0} (n m : ℕ) (xs ys : List A) → length xs ≡ n → 2 ≤ n → ys ≡ drop 1 xs → m ≡ n → length ys < m
room-made n m xs ys full two rest same =
    let less = length-drop 1 xs in
    let left : length ys ≡ length (drop 1 xs) = ap length rest in
    omega arith

-- not all are held
pub room-left : (n m k : ℕ) → n ≤ m → m ≡ k → (n ≡ k → ⊥) → n < m
room-left n m k le is none = at (cases_lt n m)
  where
    at : (n < m) ⊎ (m ≤ n) → n < m
    at (inl lt) = lt
    at (inr past) = absurd (none (omega arith))
