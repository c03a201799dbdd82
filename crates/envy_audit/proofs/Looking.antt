-- Which pages and rows the map speaks of.
use Rattle.std.proofs.Common.{◌≡◌, ◌⊎◌, ℕ, ◌<◌, ◌≤◌, ◌↔◌, IsTrue, leb, leb-true, le-leb, take, count_by, List, length, get_or, Option, Some, None, refl, sym, ◌∙◌, ap, inl, inr, arith}
use Rattle.std.proofs.lemmas.Bool.{cases_lt}
use Rattle.std.proofs.lemmas.List.{get_or_past, take_all}
use Rattle.std.proofs.lemmas.Option.{none-some}
use Rattle.envy_base.specs.declared.fields.Place.{Place}
use Rattle.envy_base.specs.declared.fields.Undo.{Undo}
use Rattle.envy_base.specs.State.{State, IsBoard}
use Rattle.envy_map.specs.Fields.{chart, place, undo}
use Rattle.envy_soundness.specs.Sound.{slot_named, owned_by}
use Rattle.envy_audit.specs.Points.{FewAreOwned}
use Rattle.envy_map.proofs.Sizes.{length-places, length-undos}

looked-up : {A : Type 0} (xs : List (Option A)) (i : ℕ) (x : A) → get_or xs i None ≡ Some x → i < length xs
looked-up xs i x is = by_place (cases_lt i (length xs))
  where
    by_place : (i < length xs) ⊎ (length xs ≤ i) → i < length xs
    by_place (inl less) = less
    by_place (inr past) = absurd (none-some x (sym (get_or_past xs i None past) ∙ is))

pub place-within : (s : State) → IsBoard s → (p : ℕ) (x : Place) → place (chart s).fields p ≡ Some x → p < s.shape.pages
place-within s board p x is = omega (arith, looked-up (chart s).fields.places p x is, length-places s board)

pub undo-within : (s : State) → IsBoard s → (p : ℕ) (x : Undo) → undo (chart s).fields p ≡ Some x → p < s.shape.pages
undo-within s board p x is = omega (arith, looked-up (chart s).fields.undos p x is, length-undos s board)

pub named-within : (s : State) → IsBoard s → (p t : ℕ) → slot_named (undo (chart s).fields p) ≡ Some t → p < s.shape.pages
named-within s board p t named = by_undo (undo (chart s).fields p) refl named
  where
    by_undo : (u : Option Undo) → undo (chart s).fields p ≡ u → slot_named u ≡ Some t → p < s.shape.pages
    by_undo None e named = absurd (none-some t named)
    by_undo (Some u) e named = undo-within s board p u e

-- a count over all pages
pub few-tell : (s : State) (owned page told : ℕ) → IsBoard s → page ≡ s.shape.pages → told ≡ s.shape.shadows → owned ≡ count_by (owned_by (chart s).fields.slots) (take page (chart s).fields.undos) → IsTrue (leb owned told) ↔ FewAreOwned (chart s)
few-tell s owned page told board end shadows counted =
    let whole : take page (chart s).fields.undos ≡ (chart s).fields.undos = take_all page (chart s).fields.undos (omega (arith, length-undos s board)) in
    let same : owned ≡ count_by (owned_by (chart s).fields.slots) (chart s).fields.undos = counted ∙ ap (count_by (owned_by (chart s).fields.slots)) whole in
    (λ sure. few owned told sure same shadows, λ fact. many owned told same shadows fact)
  where
    few : (n m : ℕ) → IsTrue (leb n m) → n ≡ count_by (owned_by (chart s).fields.slots) (chart s).fields.undos → m ≡ s.shape.shadows → FewAreOwned (chart s)
    few n m sure is is' = omega (arith, leb-true n m sure)

    many : (n m : ℕ) → n ≡ count_by (owned_by (chart s).fields.slots) (chart s).fields.undos → m ≡ s.shape.shadows → FewAreOwned (chart s) → IsTrue (leb n m)
    many n m is is' fact = le-leb n m (omega (arith, fact))
