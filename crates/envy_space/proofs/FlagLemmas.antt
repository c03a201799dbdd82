-- The lowest and the highest place that has a flag.
use Rattle.std.proofs.Common.{◌≡◌, ℕ, ◌<◌, List, get_or, Option, None, Some, arith}
use Rattle.envy_space.specs.Winners.{Lowest, Highest, flag}

-- flags tell of rows
pub Lowest-rows : (flags : List ℕ) (rows : ℕ → ℕ) (first end : ℕ) (answer : Option ℕ) → ((k : ℕ) → k < end → get_or flags k 0 ≡ flag (rows k)) → Lowest (λ (k : ℕ). get_or flags k 0) first end answer → Lowest rows first end answer
Lowest-rows flags rows first end None are lowest = λ j low high. let here = are j high in let none = lowest j low high in omega arith
Lowest-rows flags rows first end (Some k) are lowest =
    let below = lowest.below in
    record {
      above = lowest.above;
      below = below;
      some = let here = are k below in let some = lowest.some in omega arith;
      none = λ j low high. let here = are j (omega arith) in let none = lowest.none j low high in omega arith;
    }

pub Highest-rows : (flags : List ℕ) (rows : ℕ → ℕ) (first end : ℕ) (answer : Option ℕ) → ((k : ℕ) → k < end → get_or flags k 0 ≡ flag (rows k)) → Highest (λ (k : ℕ). get_or flags k 0) first end answer → Highest rows first end answer
Highest-rows flags rows first end None are highest = λ j low high. let here = are j high in let none = highest j low high in omega arith
Highest-rows flags rows first end (Some k) are highest =
    let below = highest.below in
    record {
      above = highest.above;
      below = below;
      some = let here = are k below in let some = highest.some in omega arith;
      none = λ j low high. let here = are j high in let none = highest.none j low high in omega arith;
    }
