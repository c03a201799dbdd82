-- A failure that is told raises the count of answers by one, and the board's own by one at least.
use Rattle.std.proofs.Common.{◌≡◌, inl, inr, ℕ, ◌-◌, ◌^◌, ◌<◌, ◌≤◌, Bool, true, false, IsTrue, List, Err, sym, ◌∙◌, arith}
use Rattle.std.proofs.lemmas.Bool.{cases_lt}
use Rattle.envy_base.specs.declared.board.Off.{Off}
use Rattle.envy_base.specs.declared.board.Trouble.TheVariants.{Off as TroubleOff, Bad}
use Rattle.envy_base.specs.Counting.{Rose, up}
use Rattle.envy_base.specs.State.{State}
use Rattle.envy_counted.specs.LooseBoard.{AnyPuts, AnyPrograms, AnyErases}

up-low : (told own then_own : ℕ) → told ≤ own → own < then_own → up told ≤ then_own
unfolding up
up-low told own then_own few more = omega arith

up-top : (told own then_own : ℕ) → told ≤ own → own ≤ then_own → 2 ^ 64 - 1 ≤ own → up told ≤ then_own
unfolding up
up-top told own then_own few more top = omega arith

-- a failure more is told, and not more than there were
pub up-told : (told own then_own : ℕ) → told ≤ own → own ≤ then_own → Rose own then_own → up told ≤ then_own
up-told told own then_own few more rose = elim (cases_lt own (2 ^ 64 - 1)) [ inl low ↦ up-low told own then_own few (rose low) | inr top ↦ up-top told own then_own few more top ]

pub up-mono : (a b : ℕ) → a ≤ b → up a ≤ up b
unfolding up
up-mono a b le = omega arith

dark_lit : (on : Bool) → on ≡ false → IsTrue on → ⊥
dark_lit on off lit = let no : false ≡ true = sym off ∙ lit in cc

-- where power was on, `Off` of each call is a failure of power, of which the board counts one at least
pub put_cut : (told : ℕ) (old : State) (w v : ℕ) (off : Off) (new : State) → told ≤ old.cuts → IsTrue old.on → AnyPuts old w v (Err off) new → up told ≤ new.cuts
put_cut told old w v off new few lit (inl out) = absurd (dark_lit old.on out.0 lit)
put_cut told old w v off new few lit (inr (on, c, rose, more, inl is)) = rw is (up-told told old.cuts c few more rose)
put_cut told old w v off new few lit (inr (on, c, rose, more, inr is)) = rw is (up-told told old.cuts c few more rose)

-- a program that power ends is counted,
pub program_cut : (told : ℕ) (old : State) (q : ℕ) (x : List ℕ) (new : State) → told ≤ old.cuts → IsTrue old.on → AnyPrograms old q x (Err TroubleOff) new → up told ≤ new.cuts
program_cut told old q x new few lit (inl out) = absurd (dark_lit old.on out.0 lit)
program_cut told old q x new few lit (inr (on, c, b, rose, more, bads, xs, page, is)) = rw is (up-told told old.cuts c few more rose)

-- an erase that power ends,
pub erase_cut : (told : ℕ) (old : State) (e : ℕ) (new : State) → told ≤ old.cuts → IsTrue old.on → AnyErases old e (Err TroubleOff) new → up told ≤ new.cuts
erase_cut told old e new few lit (inl out) = absurd (dark_lit old.on out.0 lit)
erase_cut told old e new few lit (inr (on, c, b, rose, more, bads, rows, only, is)) = rw is (up-told told old.cuts c few more rose)

-- `Bad` is a bad operation, of which the board counts one at least
pub program_bad : (told : ℕ) (old : State) (q : ℕ) (x : List ℕ) (new : State) → told ≤ old.bads → AnyPrograms old q x (Err Bad) new → up told ≤ new.bads
program_bad told old q x new few (on, c, b, cuts, rose, more, xs, page, is) = rw is (up-told told old.bads b few more rose)

-- and an erase that fails
pub erase_bad : (told : ℕ) (old : State) (e : ℕ) (new : State) → told ≤ old.bads → AnyErases old e (Err Bad) new → up told ≤ new.bads
erase_bad told old e new few (on, c, b, cuts, rose, more, rows, only, is) = rw is (up-told told old.bads b few more rose)
