-- What an erase tells of the rows, of power and of the segments that went bad.
use Rattle.std.proofs.Common.{◌≡◌, inl, inr, ℕ, ◌/◌, ◌≢◌, List, [], get_or, sym, ◌∙◌, ap, subst}
use Rattle.std.specs.Prelude.{IsErrOf, Result, Ok, Err, OnOk}
use Rattle.envy_base.specs.Counting.{up}
use Rattle.envy_base.specs.State.{State, Only, Erases, IsOnes}
use Rattle.envy_base.specs.declared.board.Trouble.{Trouble}
use Rattle.envy_base.specs.declared.board.Trouble.TheVariants.{Off as TroubleOff, Bad}
use Rattle.envy_map.specs.Fields.{Chart, chart}
use Rattle.envy_soundness.specs.Power.{power_after}
use Rattle.envy_soundness.proofs.EraseLaw.{Began}

pub erased-rows : (s new : State) (e : ℕ) (r : Result Unit Trouble) → Erases s e r new → OnOk r (Only s.shape.rows e IsOnes s.flash new.flash)
erased-rows s new e (Ok done) (on, rows, only, is) = subst (λ (xs : List (List ℕ)). Only s.shape.rows e IsOnes s.flash xs) (sym (ap (λ (x : State). x.flash) is)) only
erased-rows s new e (Err t) h = tt

pub erased-power : (s new : State) (e : ℕ) (r : Result Unit Trouble) → Erases s e r new → new.on ≡ power_after r
erased-power s new e (Ok done) (on, rows, only, is) = ap (λ (x : State). x.on) is ∙ on
erased-power s new e (Err TroubleOff) (inl (off, is)) = ap (λ (x : State). x.on) is ∙ off
erased-power s new e (Err TroubleOff) (inr (on, rows, only, is)) = ap (λ (x : State). x.on) is
erased-power s new e (Err Bad) (on, rows, only, is) = ap (λ (x : State). x.on) is ∙ on

pub erased-bad : (s new : State) (e : ℕ) (r : Result Unit Trouble) → Erases s e r new → IsErrOf r Bad → new.bads ≡ up s.bads
erased-bad s new e (Ok done) h is = absurd (cc)
erased-bad s new e (Err TroubleOff) h is = absurd (cc)
erased-bad s new e (Err Bad) (on, rows, only, same) is = ap (λ (x : State). x.bads) same

-- the same of the board before a wear word was written
pub rows-before : (c : Chart) (s new : State) (e : ℕ) (r : Result Unit Trouble) → c.shape ≡ s.shape → c.flash ≡ s.flash → Erases s e r new → OnOk r (Only c.shape.rows e IsOnes c.flash new.flash)
rows-before c s new e r shape flash h = rw (shape, flash) (erased-rows s new e r h)

pub others-before : (c : Chart) (s new : State) (e : ℕ) → c.shape ≡ s.shape → c.flash ≡ s.flash → Began e (chart s) (chart new) → (q : ℕ) → q / c.shape.rows ≢ e → get_or new.flash q [] ≡ get_or c.flash q []
others-before c s new e shape flash b = rw (shape, flash) b.others
