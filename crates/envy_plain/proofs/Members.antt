-- A saved word stands in its slot's list.
use Rattle.std.proofs.Common.{◌≡◌, ◌⊎◌, inl, inr, ℕ, zero, suc, ◌<◌, Bool, true, false, List, [], ◌∷◌, length, get_or, Contains, refl, sym, ◌∙◌, ap, subst, arith}
use Rattle.std.specs.Prelude.{◌==◌}
use Rattle.std.proofs.lemmas.List.Elements.{Contains-append_left, Contains-append_right}
use Rattle.std.proofs.lemmas.Bool.{cases_Bool, or_left, or_right, eq-eqb}
use Rattle.envy_array.specs.Array.{Saved, page_of, slot_of, saves_in}
use Rattle.envy_array.proofs.Undoing.{saves, saves-owns, has}
use Rattle.envy_plain.specs.declared.saved_word.SavedWord.{SavedWord}
use Rattle.envy_plain.specs.Fields.{saved_by, slot_in, array_in}
use Rattle.envy_plain.proofs.Parts.{part, part-own, slots_in-at, slot_in-open, slot_in-closed}
use Rattle.envy_plain.proofs.Turns.{IsUnsaved, saves-unsaved}

-- with its word
pub saved_by-member : (xs : List SavedWord) (k : ℕ) (d : SavedWord) → k < length xs → Contains (saved_by (get_or xs k d).slot xs) ((get_or xs k d).address, (get_or xs k d).before)
saved_by-member [] k d lt = absurd (omega arith)
saved_by-member (x ∷ xs) zero d lt =
    Contains-append_right (saved_by x.slot xs) (part x.slot x) (x.address, x.before) (subst (λ (l : Saved). Contains l (x.address, x.before)) (sym (part-own x)) (0, omega arith, refl))
saved_by-member (x ∷ xs) (suc k) d lt =
    Contains-append_left (saved_by (get_or xs k d).slot xs) (part (get_or xs k d).slot x) ((get_or xs k d).address, (get_or xs k d).before) (saved_by-member xs k d (omega arith))

saves-found : (xs : Saved) (a b : ℕ) → Contains xs (a, b) → saves a xs ≡ true
saves-found [] a b (k, lt, is) = absurd (omega arith)
saves-found (x ∷ xs) a b (k, lt, is) = at k lt is (λ k lt is. saves-found xs a b (k, lt, is))
  where
    at : (k : ℕ) → k < length (x ∷ xs) → get_or (x ∷ xs) k (a, b) ≡ (a, b) → ((k : ℕ) → k < length xs → get_or xs k (a, b) ≡ (a, b) → saves a xs ≡ true) → saves a (x ∷ xs) ≡ true
    at zero lt is more = or_left (x.0 == a) (saves a xs) (eq-eqb x.0 a (ap (λ (e : ℕ × ℕ). e.0) is))
    at (suc k) lt is more = or_right (x.0 == a) (saves a xs) (more k (omega arith) is)

-- a saved word is among those of its slot
pub saves-member : (xs : List SavedWord) (k : ℕ) (d : SavedWord) → k < length xs → saves (get_or xs k d).address (saved_by (get_or xs k d).slot xs) ≡ true
saves-member xs k d lt = saves-found (saved_by (get_or xs k d).slot xs) (get_or xs k d).address (get_or xs k d).before (saved_by-member xs k d lt)

-- and in its page
pub saves_in-member : (xs : List SavedWord) (k : ℕ) (d : SavedWord) → k < length xs → saves_in (page_of (get_or xs k d).address) (saved_by (get_or xs k d).slot xs) ≡ true
saves_in-member xs k d lt = saves-owns (get_or xs k d).address (saved_by (get_or xs k d).slot xs) (saves-member xs k d lt)

-- an address that no saved word has stands in no slot's list
pub has-unsaved : (words : List ℕ) (active : List Bool) (saved : List SavedWord) (shadows a t : ℕ) → length active ≡ 64 → IsUnsaved a saved → has a (slot_of (array_in words active saved shadows) t) ≡ false
has-unsaved words active saved shadows a t long none = ap (has a) (slots_in-at active saved t long) ∙ at (cases_Bool (get_or active t false))
  where
    at : (get_or active t false ≡ true) ⊎ (get_or active t false ≡ false) → has a (slot_in active saved t) ≡ false
    at (inl mark) = ap (has a) (slot_in-open active saved t mark) ∙ saves-unsaved t a saved none
    at (inr closed) = ap (has a) (slot_in-closed active saved t closed)
