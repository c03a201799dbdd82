-- A count that a call is lent rises where a flash operation begins, however that ends.
use Rattle.std.proofs.Common.{◌≡◌, inl, inr, ℕ, ◌<◌, false, List, length, get_or, set, ap, subst, arith}
use Rattle.std.specs.Prelude.{IsTrue, Result, Ok, Err, sum}
use Rattle.std.proofs.lemmas.List.Sums.{sum_by-set, get_or-le-sum_by}
use Rattle.envy_base.specs.Counting.{up, Tally}
use Rattle.envy_base.specs.State.{State, Programs}
use Rattle.envy_base.specs.declared.board.Trouble.{Trouble}
use Rattle.envy_base.specs.declared.board.Trouble.TheVariants.{Off as TroubleOff, Bad}
use Rattle.envy_base.proofs.Counting.{Tally-both, up-least, up-below}

-- a program has begun
pub begun-programmed : (old new : State) (q : ℕ) (x : List ℕ) (r : Result Unit Trouble) → IsTrue old.on → Programs old q x r new → new.begun ≡ up old.begun
begun-programmed old new q x (Ok done) on (was, is) = ap (λ (s : State). s.begun) is
begun-programmed old new q x (Err TroubleOff) on (inl (off, is)) = absurd (let no : IsTrue false = subst IsTrue off on in cc)
begun-programmed old new q x (Err TroubleOff) on (inr (was, xs, page, is)) = ap (λ (s : State). s.begun) is
begun-programmed old new q x (Err Bad) on (was, xs, page, is) = ap (λ (s : State). s.begun) is

pub tally-programmed : (old new : State) (q n m : ℕ) (x : List ℕ) (r : Result Unit Trouble) → IsTrue old.on → Programs old q x r new → m ≡ up n → Tally old.begun n new.begun m
tally-programmed old new q n m x r on programs is = rw (begun-programmed old new q x r on programs, is) (Tally-both old.begun n)

-- an erase of segment e has begun
pub tally-erased : (xs ys : List ℕ) (e n m : ℕ) → e < length xs → ys ≡ set xs e (up (get_or xs e 0)) → m ≡ up n → Tally (sum xs) n (sum ys) m
tally-erased xs ys e n m lt is count =
    let step = sum_by-set (λ (x : ℕ). x) xs e (up (get_or xs e 0)) 0 lt in
    let has = get_or-le-sum_by (λ (x : ℕ). x) xs e 0 lt in
    let least = up-least (get_or xs e 0) in
    let more = up-least n in
    rw (is, count) (record {
      first = omega arith;
      second = up-least n;
      same = λ l k. let x = up-below (get_or xs e 0) (omega arith) in let y = up-below n k in omega arith;
    })

-- none has
pub tally-unbegun : (xs ys : List ℕ) (n : ℕ) → ys ≡ xs → Tally (sum xs) n (sum ys) n
tally-unbegun xs ys n is = rw is (record { first = omega arith; second = omega arith; same = λ l m. omega arith })
