-- Runs of positions: which partition a position lies in, and where a partition begins.
use Rattle.std.proofs.Common.{◌≡◌, ℕ, ◌+◌, ◌-◌, ◌*◌, ◌/◌, ◌<◌, ◌≤◌, arith}
use Rattle.std.proofs.lemmas.Nat.{mul-le, le-div, div_below, div-add-mod'}
use Rattle.envy_policy.specs.History.{count_in}

-- a position lies in its partition's run
pub run-holds : (run k : ℕ) → 1 ≤ run → (k / run * run ≤ k) × (k < k / run * run + run)
run-holds run k some = let whole = div-add-mod' k run in (omega arith, omega arith)

-- and in no other run
pub run-is : (run g k : ℕ) → 1 ≤ run → g * run ≤ k → k < g * run + run → k / run ≡ g
run-is run g k some low high =
    let own = run-holds run k some in
    let at_least : g ≤ k / run = le-div g k run some low in
    let at_most : k / run < g + 1 = div_below k run (g + 1) some (omega arith) in
    omega arith

-- each partition begins at a position
pub begins : (n run g : ℕ) → 1 ≤ run → 1 ≤ n → g < count_in n run → g * run < n
begins n run g some some_n in_count =
    let own = run-holds run (n - 1) some in
    let least : g * run ≤ (n - 1) / run * run = mul-le g run ((n - 1) / run) run (omega arith) (omega arith) in
    omega arith

-- each position lies in a partition that is counted
pub counted : (n run k : ℕ) → 1 ≤ run → k < n → k / run < count_in n run
counted n run k some below =
    let own = run-holds run k some in
    let least : k / run ≤ (n - 1) / run = le-div (k / run) (n - 1) run some (omega arith) in
    omega arith

pub count-small : (n run : ℕ) → 1 ≤ run → 1 ≤ n → count_in n run ≤ n
count-small n run some some_n =
    let own = run-holds run (n - 1) some in
    let least : (n - 1) / run * 1 ≤ (n - 1) / run * run = mul-le _ 1 _ run (omega arith) some in
    omega arith
