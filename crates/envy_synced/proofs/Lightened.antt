-- An operation of a journaled board, and what isn't synced made anew behind it.
use Rattle.std.specs.Prelude.{IsTrue}
use Rattle.std.proofs.Common.{◌≡◌, ◌∙◌, inl, inr, ℕ, ◌<◌, Bool, true, false, List, [], ◌∷◌, ◌++◌, length, Ok, Err, refl, sym, ap, subst, arith, length-append}
use Rattle.std.proofs.lemmas.Bool.{false≢true}
use Rattle.envy_base.specs.declared.board.Off.{Off}
use Rattle.envy_base.specs.declared.board.Trouble.{Trouble}
use Rattle.envy_base.specs.declared.board.Trouble.TheVariants.{Off as TroubleOff, Bad}
use Rattle.envy_base.specs.declared.shape.Shape.{Shape}
use Rattle.envy_base.specs.State.{State, IsBoard, Puts, Programs, Erases, cut}
use Rattle.envy_device.specs.Device.{LeavesOnly}
use Rattle.envy_journal.specs.declared.operation.Operation.{Operation}
use Rattle.envy_journal.specs.Head.{StandsFor}
use Rattle.envy_journal.specs.Journal.{journal_state}
use Rattle.envy_journal.specs.Steady.{IsSteady}
use Rattle.envy_journal.proofs.Moments.{joined}
use Rattle.envy_journal.proofs.Redone.{erase-unlogged, program-unlogged}
use Rattle.envy_synced.proofs.Going.{journal_off, never-bad}

-- a journaled board whose power is on hasn't ended
pub journal_on : (dead : Bool) (s : State) → IsTrue (journal_state dead s).on → dead ≡ false
journal_on true s on = absurd (false≢true on)
journal_on false s on = refl

pub journal_shape : (dead : Bool) (s : State) → (journal_state dead s).shape ≡ s.shape
journal_shape true s = refl
journal_shape false s = refl

-- its power is off once it has ended
pub cut_behind : (d e : Bool) (a b : State) → b ≡ a → IsTrue e → IsTrue (journal_state d a).on → journal_state e b ≡ cut (journal_state d a)
cut_behind true e a b same dead on = absurd (false≢true on)
cut_behind false true a b same dead on = ap cut same
cut_behind false false a b same dead on = absurd (false≢true dead)

module _ (d e : Bool) (a b : State) (was : IsSteady a) (now : IsSteady b) where
  -- an operation that fails ends it
  pub put_ends : (w v : ℕ) (off : Off) → Puts (journal_state d a) w v (Err off) (journal_state e b) → IsTrue e
  put_ends w v off (inl (dark, is)) = journal_off e b now.on (ap (λ (x : State). x.on) is ∙ dark)
  put_ends w v off (inr (on, inl is)) = journal_off e b now.on (ap (λ (x : State). x.on) is)
  put_ends w v off (inr (on, inr is)) = journal_off e b now.on (ap (λ (x : State). x.on) is)

  pub program_ends : (q : ℕ) (page : List ℕ) (trouble : Trouble) → Programs (journal_state d a) q page (Err trouble) (journal_state e b) → IsTrue e
  program_ends q page TroubleOff (inl (dark, is)) = journal_off e b now.on (ap (λ (x : State). x.on) is ∙ dark)
  program_ends q page TroubleOff (inr (on, xs, fits, is)) = journal_off e b now.on (ap (λ (x : State). x.on) is)
  program_ends q page Bad (on, xs, fits, is) = absurd (never-bad d e a b was now (ap (λ (x : State). x.bads) is))

  pub erase_ends : (n : ℕ) (trouble : Trouble) → Erases (journal_state d a) n (Err trouble) (journal_state e b) → IsTrue e
  erase_ends n TroubleOff (inl (dark, is)) = journal_off e b now.on (ap (λ (x : State). x.on) is ∙ dark)
  erase_ends n TroubleOff (inr (on, rows, only, is)) = journal_off e b now.on (ap (λ (x : State). x.on) is)
  erase_ends n Bad (on, rows, only, is) = absurd (never-bad d e a b was now (ap (λ (x : State). x.bads) is))

-- what an operation that is done says
pub record Did (s t : State) : Type 0 where
  pub was_on : IsTrue s.on
  pub on : IsTrue t.on
  pub shape : t.shape ≡ s.shape

module _ (s t : State) where
  pub put_did : (w v : ℕ) → Puts s w v (Ok tt) t → Did s t
  put_did w v (on, is) = record { was_on = on; on = ap (λ (x : State). x.on) is ∙ on; shape = ap (λ (x : State). x.shape) is }

  pub program_did : (q : ℕ) (page : List ℕ) → Programs s q page (Ok tt) t → Did s t
  program_did q page (on, is) = record { was_on = on; on = ap (λ (x : State). x.on) is ∙ on; shape = ap (λ (x : State). x.shape) is }

  pub erase_did : (n : ℕ) → Erases s n (Ok tt) t → Did s t
  erase_did n (on, rows, only, is) = record { was_on = on; on = ap (λ (x : State). x.on) is ∙ on; shape = ap (λ (x : State). x.shape) is }

  -- power fails behind it
  module _ (u : State) (is : u ≡ cut t) where
    pub put_cut : (w v : ℕ) (off : Off) → Puts s w v (Ok tt) t → Puts s w v (Err off) u
    put_cut w v off (on, now) = inr (on, inr (is ∙ ap cut now))

    pub program_cut : IsBoard t → (q : ℕ) (page : List ℕ) → q < length s.flash → Programs s q page (Ok tt) t → Programs s q page (Err TroubleOff) u
    program_cut board q page lt did = subst (λ (x : State). Programs s q page (Err TroubleOff) x) (sym is) (program-unlogged false s t q page refl board lt did)

    pub erase_cut : IsBoard t → (n : ℕ) → Erases s n (Ok tt) t → Erases s n (Err TroubleOff) u
    erase_cut board n did = subst (λ (x : State). Erases s n (Err TroubleOff) x) (sym is) (erase-unlogged false s t n refl board did)

-- a crash of the one call or of the other
pub left_both : {D : Type 0} (moment : D → ℕ) (left_since : D → ℕ → List ℕ → Type 0) (old mid new : D) (sh sh' : Shape) (p p' : List Operation) → sh' ≡ sh → p' ≡ p → LeavesOnly moment left_since old mid (StandsFor sh p) → LeavesOnly moment left_since mid new (StandsFor sh' p')
    → LeavesOnly moment left_since old new (StandsFor sh p)
left_both moment left_since old mid new sh sh' p p' shape same first second =
    joined moment left_since old mid new (StandsFor sh p) first
    (subst (λ (l : List Operation). LeavesOnly moment left_since mid new (StandsFor sh l)) same (subst (λ (x : Shape). LeavesOnly moment left_since mid new (StandsFor x p')) shape second))

-- what adds nothing is nothing
pub none_more : (all more : List Operation) → all ++ more ≡ all → more ≡ []
none_more all [] is = refl
none_more all (o ∷ more) is = absurd (omega (arith, ap (λ (l : List Operation). length l) is, length-append all (o ∷ more)))
