-- What one call more makes of what a crash may leave.
use Rattle.std.proofs.Common.{◌≡◌, ◌⊎◌, inl, inr, ℕ, ◌+◌, ◌≤◌, List, [], ◌∷◌, ◌++◌, length, take, Bool, refl, sym, subst, arith, length-append}
use Rattle.std.proofs.lemmas.Bool.{cases_lt}
use Rattle.std.proofs.lemmas.List.{take_all, take-append-le}
use Rattle.envy_device.specs.Device.{Elapses}
use Rattle.envy_torn.specs.declared.call.Call.{Call}
use Rattle.envy_torn.specs.Calls.{seen_by, seen_after, Leaves, Outcome, OutcomeOf, LeftBy}

-- one call more is seen
pub seen_more : (calls : List Call) (call : Call) (seen : List ℕ) → seen_after (calls ++ call ∷ []) seen ≡ seen_by call (seen_after calls seen)
seen_more [] call seen = refl
seen_more (x ∷ calls) call seen = seen_more calls call (seen_by x seen)

-- and may be left by a crash, or not
pub outcome_more : (w : Bool) (calls : List Call) (call : Call) (seen : List ℕ) (may : List ℕ → Type 0) (c : List ℕ) → Outcome w (calls ++ call ∷ []) seen may c
    → (d : List ℕ) × Outcome w calls seen may d × Leaves w call (seen_after calls seen) d c
outcome_more w [] call seen may c some = some
outcome_more w (x ∷ calls) call seen may c some = outcome_more w calls call (seen_by x seen) (λ e. (d : List ℕ) × may d × Leaves w x seen d e) c some

module _ (w : Bool) (first : List ℕ) (calls : List Call) where
  -- without a call no time goes by
  pub time_same : Elapses (length calls) (length calls) (LeftBy w first calls) (LeftBy w first calls) (OutcomeOf w first calls)
  time_same = record { later = omega arith; nothing_else = λ t c le left. inl left; keeps = λ t c le left. left }

  module _ (call : Call) where
    abbrev more : List Call
    more = calls ++ call ∷ []

    long : length more ≡ length calls + 1
    long = length-append calls (call ∷ [])

    early : (k : ℕ) → k ≤ length calls → take k more ≡ take k calls
    early k le = take-append-le k calls (call ∷ []) le

    nothing_else : (t : ℕ) (c : List ℕ) → t ≤ length calls → LeftBy w first more t c → LeftBy w first calls t c ⊎ OutcomeOf w first more c
    nothing_else t c le (k, after, within, left) = elim (cases_lt k (length more)) [
      | inl lt ↦
          let small : k ≤ length calls = omega (arith, long) in
          inl (k, after, small, subst (λ (l : List Call). OutcomeOf w first l c) (early k small) left)
      | inr ge ↦ inr (subst (λ (l : List Call). OutcomeOf w first l c) (take_all k more ge) left)
    ]

    keeps : (t : ℕ) (c : List ℕ) → t ≤ length calls → LeftBy w first calls t c → LeftBy w first more t c
    keeps t c le (k, after, within, left) = (k, after, omega (arith, long), subst (λ (l : List Call). OutcomeOf w first l c) (sym (early k within)) left)

    -- each call takes time
    pub time_more : Elapses (length calls) (length more) (LeftBy w first calls) (LeftBy w first more) (OutcomeOf w first more)
    time_more = record { later = omega (arith, long); nothing_else = nothing_else; keeps = keeps }
