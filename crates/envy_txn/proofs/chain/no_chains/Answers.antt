use Rattle.std.proofs.Common.{◌≡◌, ◌⊎◌, inl, inr, ℕ, ◌<◌, ◌≤◌, get_or, replicate, arith}
use Rattle.std.proofs.lemmas.Bool.{cases_lt}
use Rattle.std.proofs.lemmas.List.{get_or-replicate, get_or_past, length-replicate}
use Rattle.envy_txn.proofs.chain.no_chains.Goals as goal

zeros : (n t : ℕ) → ◌≡◌ {A = ℕ} (get_or (replicate n 0) t 0) 0
zeros n t = at (cases_lt t n)
  where
    at : (t < n) ⊎ (n ≤ t) → ◌≡◌ {A = ℕ} (get_or (replicate n 0) t 0) 0
    at (inl below) = get_or-replicate {A = ℕ} n t 0 0 below
    at (inr past) = let long = length-replicate {A = ℕ} n 0 in get_or_past (replicate n 0) t 0 (omega arith)

pub returns-clause-none : goal.returns-clause-none
returns-clause-none c = zeros 256
