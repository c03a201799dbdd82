-- All slots aborted one by one leave what a failure of power leaves.
use Rattle.std.proofs.Common.{◌≡◌, ◌≢◌, ◌⊎◌, inl, inr, ℕ, ◌+◌, ◌<◌, ◌≤◌, List, length, replicate, Option, None, Some, Result, Ok, Err, MatchResult, refl, sym, ◌∙◌, ap, subst, arith}
use Rattle.std.proofs.lemmas.List.{length-replicate, ext_get_or, get_or-replicate}
use Rattle.std.proofs.lemmas.Bool.{cases_eq}
use Rattle.envy_array.specs.Array.{Array, Saved, slot_of, undone, undo_all, aborted, restarted, IsArray}
use Rattle.envy_array.specs.Step.{Step, Abort, Done}
use Rattle.envy_array.proofs.Keeping.{step-keeps}
use Rattle.envy_array.proofs.Owning.{slot_cases, slot-within}
use Rattle.envy_array.proofs.Undoing.{undone-aborted, undo_all-closed}
use Rattle.envy_plain.specs.declared.refusal.Refusal.{Refusal}
use Rattle.envy_plain.specs.declared.refusal.Refusal.TheVariants.{Range, Closed, Held, Full, Busy}
use Rattle.envy_plain.specs.Refusals.{answer_of}
use Rattle.envy_plain.proofs.Parts.{array-of}

-- the slots below t are closed, and what a restart leaves is the same
pub record IsClosedBelow (old now : Array) (t : ℕ) : Type 0 where
  pub array : IsArray now
  pub same : undone now ≡ undone old
  pub shadows : now.shadows ≡ old.shadows
  pub closed : (u : ℕ) → u < t → slot_of now u ≡ None

after-aborted : (old mid new : Array) (t : ℕ) (saved : Saved) → IsClosedBelow old mid t → slot_of mid t ≡ Some saved → new ≡ aborted mid t saved → IsClosedBelow old new (t + 1)
after-aborted old mid new t saved below opened is = record {
  array = step-keeps mid new (Abort t) Done below.array (saved, opened, is);
  same = ap undone is ∙ undone-aborted mid t saved below.array.apart opened ∙ below.same;
  shadows = ap (λ (n : Array). n.shadows) is ∙ below.shadows;
  closed = λ u lt. ap (λ (n : Array). slot_of n u) is ∙ at u lt (slot_cases mid t u None (slot-within mid t saved opened));
}
  where
    at : (u : ℕ) → u < t + 1 → ((u ≡ t) × (slot_of (aborted mid t saved) u ≡ None)) ⊎ ((u ≢ t) × (slot_of (aborted mid t saved) u ≡ slot_of mid u)) → slot_of (aborted mid t saved) u ≡ None
    at u lt (inl (same, none)) = none
    at u lt (inr (other, old_slot)) = old_slot ∙ below.closed u (omega arith)

after-closed : (old mid new : Array) (t : ℕ) → IsClosedBelow old mid t → slot_of mid t ≡ None → new ≡ mid → IsClosedBelow old new (t + 1)
after-closed old mid new t below none is = subst (λ (n : Array). IsClosedBelow old n (t + 1)) (sym is) (record { array = below.array; same = below.same; shadows = below.shadows; closed = λ u lt. at u lt (cases_eq u t) })
  where
    at : (u : ℕ) → u < t + 1 → (u ≡ t) ⊎ (u ≡ t → ⊥) → slot_of mid u ≡ None
    at u lt (inl same) = ap (slot_of mid) same ∙ none
    at u lt (inr other) = below.closed u (omega arith)

-- one slot more is aborted
pub IsClosedBelow-more : (old mid new : Array) (t : ℕ) (r : Result Unit Refusal) → IsClosedBelow old mid t → MatchResult r (λ done. Step mid (Abort t) Done new) (λ e. Step mid (Abort t) (answer_of e) new) → IsClosedBelow old new (t + 1)
IsClosedBelow-more old mid new t (Ok done) below (saved, opened, is) = after-aborted old mid new t saved below opened is
IsClosedBelow-more old mid new t (Err Range) below never = absurd never
IsClosedBelow-more old mid new t (Err Closed) below (none, is) = after-closed old mid new t below none is
IsClosedBelow-more old mid new t (Err (Held u)) below never = absurd never
IsClosedBelow-more old mid new t (Err Full) below never = absurd never
IsClosedBelow-more old mid new t (Err Busy) below never = absurd never

-- all 64 slots
pub IsClosedBelow-all : (old now : Array) (t : ℕ) → 64 ≤ t → IsClosedBelow old now t → now ≡ restarted old
IsClosedBelow-all old now t le below = by 64 refl
  where
    by : (n : ℕ) → n ≡ 64 → now ≡ array-of (undone old) (replicate n None) old.shadows
    by n is =
        let long : length now.slots ≡ n = below.array.slots ∙ sym is in
        let slots : now.slots ≡ replicate n None = ext_get_or None now.slots (replicate n None) (long ∙ sym (length-replicate n None)) (λ u lt. below.closed u (omega arith) ∙ sym (get_or-replicate n u None None (rw (← long) lt))) in
        let words : now.words ≡ undone old = sym (ap (λ (s : List (Option Saved)). undo_all s now.words) slots ∙ undo_all-closed n now.words) ∙ below.same in
        ap (λ (s : List (Option Saved)). array-of now.words s now.shadows) slots ∙ ap (λ (ws : List ℕ). array-of ws (replicate n None) now.shadows) words ∙ ap (array-of (undone old) (replicate n None)) below.shadows
