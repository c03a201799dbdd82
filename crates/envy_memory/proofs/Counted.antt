-- What is counted in one call after another, and in calls that begin no flash work.
use Rattle.std.proofs.Common.{◌≡◌, ◌⊎◌, inl, inr, ℕ, ◌+◌, ◌-◌, ◌^◌, ◌<◌, ◌≤◌, ap, arith}
use Rattle.std.specs.Prelude.{sum}
use Rattle.std.proofs.lemmas.Bool.{cases_lt}
use Rattle.envy_base.specs.Counting.{up}
use Rattle.envy_array.specs.declared.counts.Counts.{Counts}
use Rattle.envy_engine.specs.Counts.{Tallies}
use Rattle.envy_soundness.specs.Same.{Counted, Grows}
use Rattle.envy_memory.specs.Picture.{Picture, counts_of}
use Rattle.envy_memory.specs.Rises.{RoseBy, RoseOver}

-- below the top a count rises by one
pub up-low : (n : ℕ) → n + 1 < 2 ^ 64 → up n ≡ n + 1
unfolding up
up-low n lt = omega arith

-- a count that is at least n where it is below the top
pub below-top : (n count : ℕ) → n < 2 ^ 64 - 1 → (count < 2 ^ 64 - 1 → n ≤ count) → n ≤ count
below-top n count low le = at (cases_lt count (2 ^ 64 - 1))
  where
    at : (count < 2 ^ 64 - 1) ⊎ (2 ^ 64 - 1 ≤ count) → n ≤ count
    at (inl lt) = le lt
    at (inr top) = omega arith

pub RoseBy-trans : (i j a b c : ℕ) → RoseBy i a b → RoseBy j b c → RoseBy (i + j) a c
RoseBy-trans i j a b c x y = λ lt. let first = x (omega arith) in let later = y (omega arith) in omega arith

pub RoseOver-trans : (i j a b c : ℕ) → RoseOver i a b → RoseOver j b c → RoseOver (i + j) a c
RoseOver-trans i j a b c x y = let p = x.kept in let q = y.kept in record { kept = omega arith; rise = λ lt. let later = y.rise lt in let first = x.rise (omega arith) in omega arith }

-- counters that stay, where no program and no erase began
pub Tallies-stay : (old new : Picture) → counts_of new.parts ≡ counts_of old.parts → new.chart.begun ≡ old.chart.begun → sum new.chart.erases ≡ sum old.chart.erases → Tallies old.chart old.parts new.chart new.parts
Tallies-stay old new counts begun erases =
    let flushes = ap (λ (c : Counts). c.flushes) counts in
    let copies = ap (λ (c : Counts). c.copies) counts in
    let moves = ap (λ (c : Counts). c.moves) counts in
    let erased = ap (λ (c : Counts). c.erases) counts in
    record {
      programs = record { first = omega arith; second = omega arith; third = omega arith; fourth = omega arith; same = λ i j k l. omega arith };
      erases = record { first = omega arith; second = omega arith; same = λ l m. omega arith };
    }

-- no program and no erase began
pub begun-stay : (old new : Picture) → Counted 0 0 old.chart new.chart → (new.chart.begun ≡ old.chart.begun) × (sum new.chart.erases ≡ sum old.chart.erases)
begun-stay old new c = let low = c.begun in let few = c.few in let least = Grows.least c.erases in let most = Grows.few c.erases in (omega arith, omega arith)
