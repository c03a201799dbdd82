-- The place and the active undo of a page name no row together, after each kind of write.
use Rattle.std.proofs.Common.{◌≡◌, ◌≢◌, ◌⊎◌, inl, inr, ℕ, ◌<◌, ◌≤◌, List, length, get_or, set, Option, Some, None, sym, ◌∙◌, ap}
use Rattle.std.proofs.lemmas.Bool.{cases_eq, cases_lt}
use Rattle.std.proofs.lemmas.List.{get_or-set_same, get_or-set_other, set_past}
use Rattle.envy_base.specs.declared.fields.Place.{Place}
use Rattle.envy_base.specs.declared.fields.Place.TheVariants.{Row}
use Rattle.envy_base.specs.declared.fields.Slot.{Slot}
use Rattle.envy_base.specs.declared.fields.Slot.TheVariants.{Active}
use Rattle.envy_base.specs.declared.fields.Undo.{Undo}
use Rattle.envy_base.specs.declared.fields.Undo.TheVariants.{Shadow}
use Rattle.envy_soundness.specs.Naming.{AreParted}
use Rattle.envy_soundness.specs.Sound.{slot_named}

-- what stands at an index after another value was written at one
written : {A : Type 0} (xs : List (Option A)) (p r : ℕ) (x : Option A) → (get_or (set xs p x) r None ≡ get_or xs r None) ⊎ ((r ≡ p) × (get_or (set xs p x) r None ≡ x))
written {A = A} xs p r x = at (cases_eq r p) (cases_lt p (length xs))
  where
    at : (r ≡ p) ⊎ (r ≡ p → ⊥) → (p < length xs) ⊎ (length xs ≤ p) → (get_or (set xs p x) r None ≡ get_or xs r None) ⊎ ((r ≡ p) × (get_or (set xs p x) r None ≡ x))
    at (inl same) (inl lt) = inr (same, ap (λ (n : ℕ). get_or (set xs p x) n None) same ∙ get_or-set_same xs p x None lt)
    at (inl same) (inr past) = inl (ap (λ (ys : List (Option A)). get_or ys r None) (set_past xs p x past))
    at (inr other) room = inl (get_or-set_other xs p r x None other)

-- a place becomes a row that no active undo of the page names
pub AreParted-rowed : (slots : List (Option Slot)) (undos : List (Option Undo)) (places : List (Option Place)) (p q : ℕ) → AreParted slots undos places → ((t : ℕ) → get_or undos p None ≡ Some (Shadow t q) → get_or slots t None ≢ Some Active) → AreParted slots undos (set places p (Some (Row q)))
AreParted-rowed slots undos places p q was apart r t x shadow active is = at (written places p r (Some (Row q)))
  where
    at : (get_or (set places p (Some (Row q))) r None ≡ get_or places r None) ⊎ ((r ≡ p) × (get_or (set places p (Some (Row q))) r None ≡ Some (Row q))) → ⊥
    at (inl stays) = was r t x shadow active (sym stays ∙ is)
    at (inr (same, now)) =
        let row : Some (Row q) ≡ Some (Row x) = sym now ∙ is in
        let one : x ≡ q = cc in
        apart t (ap (λ (n : ℕ). get_or undos n None) (sym same) ∙ shadow ∙ ap (λ (n : ℕ). Some (Shadow t n)) one) active

-- a place becomes a frame, or absent
pub AreParted-placed : (slots : List (Option Slot)) (undos : List (Option Undo)) (places : List (Option Place)) (p : ℕ) (x : Option Place) → AreParted slots undos places → ((q : ℕ) → x ≢ Some (Row q)) → AreParted slots undos (set places p x)
AreParted-placed slots undos places p x was none r t q shadow active is = at (written places p r x)
  where
    at : (get_or (set places p x) r None ≡ get_or places r None) ⊎ ((r ≡ p) × (get_or (set places p x) r None ≡ x)) → ⊥
    at (inl stays) = was r t q shadow active (sym stays ∙ is)
    at (inr (same, now)) = none q (sym now ∙ is)

-- an undo comes to name a row that the page's place doesn't
pub AreParted-shaded : (slots : List (Option Slot)) (undos : List (Option Undo)) (places : List (Option Place)) (p s q : ℕ) → AreParted slots undos places → get_or places p None ≢ Some (Row q) → AreParted slots (set undos p (Some (Shadow s q))) places
AreParted-shaded slots undos places p s q was apart r t x shadow active is = at (written undos p r (Some (Shadow s q)))
  where
    at : (get_or (set undos p (Some (Shadow s q))) r None ≡ get_or undos r None) ⊎ ((r ≡ p) × (get_or (set undos p (Some (Shadow s q))) r None ≡ Some (Shadow s q))) → ⊥
    at (inl stays) = was r t x (sym stays ∙ shadow) active is
    at (inr (same, now)) =
        let row : Some (Shadow s q) ≡ Some (Shadow t x) = sym now ∙ shadow in
        let one : x ≡ q = cc in
        apart (ap (λ (n : ℕ). get_or places n None) (sym same) ∙ is ∙ ap (λ (n : ℕ). Some (Row n)) one)

-- an undo becomes one that names no row
pub AreParted-unshaded : (slots : List (Option Slot)) (undos : List (Option Undo)) (places : List (Option Place)) (p : ℕ) (u : Option Undo) → AreParted slots undos places → ((t q : ℕ) → u ≢ Some (Shadow t q)) → AreParted slots (set undos p u) places
AreParted-unshaded slots undos places p u was none r t x shadow active is = at (written undos p r u)
  where
    at : (get_or (set undos p u) r None ≡ get_or undos r None) ⊎ ((r ≡ p) × (get_or (set undos p u) r None ≡ u)) → ⊥
    at (inl stays) = was r t x (sym stays ∙ shadow) active is
    at (inr (same, now)) = none t x (sym now ∙ shadow)

-- a slot that no undo names becomes any
pub AreParted-unused : (slots : List (Option Slot)) (undos : List (Option Undo)) (places : List (Option Place)) (t : ℕ) (x : Option Slot) → AreParted slots undos places → ((p : ℕ) → slot_named (get_or undos p None) ≢ Some t) → AreParted (set slots t x) undos places
AreParted-unused slots undos places t x was unused r s q shadow active is = at (written slots t s x)
  where
    at : (get_or (set slots t x) s None ≡ get_or slots s None) ⊎ ((s ≡ t) × (get_or (set slots t x) s None ≡ x)) → ⊥
    at (inl stays) = was r s q shadow (sym stays ∙ active) is
    at (inr (same, now)) = unused r (ap slot_named shadow ∙ ap (λ (n : ℕ). Some n) same)

-- a slot becomes one that isn't active
pub AreParted-closed : (slots : List (Option Slot)) (undos : List (Option Undo)) (places : List (Option Place)) (t : ℕ) (x : Option Slot) → AreParted slots undos places → x ≢ Some Active → AreParted (set slots t x) undos places
AreParted-closed slots undos places t x was closed r s q shadow active is = at (written slots t s x)
  where
    at : (get_or (set slots t x) s None ≡ get_or slots s None) ⊎ ((s ≡ t) × (get_or (set slots t x) s None ≡ x)) → ⊥
    at (inl stays) = was r s q shadow (sym stays ∙ active) is
    at (inr (same, now)) = closed (sym now ∙ active)
