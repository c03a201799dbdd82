-- What stays, over two calls of which one begins no flash operation.
use Rattle.std.proofs.Common.{ℕ, ◌+◌, ◌≤◌, arith}
use Rattle.envy_base.specs.Counting.{Tally}
use Rattle.envy_base.proofs.Counting.{Tally-trans}
use Rattle.envy_map.specs.Fields.{Chart}
use Rattle.envy_soundness.specs.Same.{Same, Stays, Counted}
use Rattle.envy_soundness.proofs.Composition.{Same-trans, Same-more}

pub same_then : (k j : ℕ) (a b c : Chart) → Same 0 0 a b → Same k j b c → Same k j a c
same_then k j a b c s t = Same-more (0 + k) (0 + j) k j a c (omega arith) (omega arith) (Same-trans 0 0 k j a b c s t)

pub then_same : (k j : ℕ) (a b c : Chart) → Same k j a b → Same 0 0 b c → Same k j a c
then_same k j a b c s t = Same-more (k + 0) (j + 0) k j a c (omega arith) (omega arith) (Same-trans k j 0 0 a b c s t)

pub same_within : (k j : ℕ) (a b : Chart) → Same 0 0 a b → Same k j a b
same_within k j a b s = Same-more 0 0 k j a b (omega arith) (omega arith) s

-- two steps that leave the array, within a bound
pub same_two : (i j k l m n : ℕ) (a b c : Chart) → i + k ≤ m → j + l ≤ n → Same i j a b → Same k l b c → Same m n a c
same_two i j k l m n a b c le less s t = Same-more (i + k) (j + l) m n a c le less (Same-trans i j k l a b c s t)

-- where no program began, a count may stay
pub tally_still : (n : ℕ) (a b : Chart) → Same 0 0 a b → Tally a.begun n b.begun n
tally_still n a b s =
    let least = Counted.begun (Stays.counted (Same.stays s)) in
    let most = Counted.few (Stays.counted (Same.stays s)) in
    record { first = omega arith; second = omega arith; same = λ l m. omega arith }

-- and where one began after that
pub tally_then : (n m : ℕ) (a b c : Chart) → Same 0 0 a b → Tally b.begun n c.begun m → Tally a.begun n c.begun m
tally_then n m a b c s t = Tally-trans a.begun n b.begun n c.begun m (tally_still n a b s) t

-- and where none began after that
pub tally_end : (n m : ℕ) (a b c : Chart) → Tally a.begun n b.begun m → Same 0 0 b c → Tally a.begun n c.begun m
tally_end n m a b c t s = Tally-trans a.begun n b.begun m c.begun m t (tally_still m b c s)
