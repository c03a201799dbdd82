-- Bounds of the programs of a worker and of the next.
use Rattle.std.proofs.Common.{ℕ, ◌+◌, ◌≤◌, arith}

pub le-same : (n : ℕ) → n ≤ n
le-same n = omega arith

pub row-next : (n : ℕ) → n + 12 + 1 ≤ n + 13
row-next n = omega arith

pub row-less : (n : ℕ) → n + 12 ≤ n + 13
row-less n = omega arith

pub plus-none : (n : ℕ) → n + 0 ≤ n
plus-none n = omega arith

pub turn-next : (n : ℕ) → n + 4 + 1 ≤ n + 5
turn-next n = omega arith

pub turn-less : (n : ℕ) → n + 4 ≤ n + 5
turn-less n = omega arith

pub three-four : 3 ≤ 4
three-four = omega arith
