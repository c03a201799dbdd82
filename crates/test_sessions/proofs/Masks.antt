-- What an erase does to a board, but for its plans.
use Rattle.std.proofs.Common.{inl, inr, ℕ, Ok, Err, ap}
use Rattle.std.specs.Prelude.{Result}
use Rattle.envy_base.specs.State.{State, Erases}
use Rattle.envy_base.specs.declared.board.Trouble.{Trouble}
use Rattle.envy_base.specs.declared.board.Trouble.TheVariants.{Off as TroubleOff, Bad}
use Rattle.test_sessions.specs.Worn.{unplanned}

pub erases-unplanned : (s t : State) (e : ℕ) (r : Result Unit Trouble) → Erases s e r t → Erases (unplanned s) e r (unplanned t)
erases-unplanned s t e (Ok done) (on, rows, only, is) = (on, rows, only, ap unplanned is)
erases-unplanned s t e (Err TroubleOff) (inl (off, is)) = inl (off, ap unplanned is)
erases-unplanned s t e (Err TroubleOff) (inr (on, rows, only, is)) = inr (on, rows, only, ap unplanned is)
erases-unplanned s t e (Err Bad) (on, rows, only, is) = (on, rows, only, ap unplanned is)
