-- What a call of `get` answers, and what the machine's readers make of it.
use Rattle.std.proofs.Common.{◌≡◌, ◌⊎◌, inl, inr, ℕ, ◌*◌, ◌/◌, ◌<◌, ◌≤◌, Bool, true, false, List, length, get_or, Option, None, Some, MatchResult, MatchBool, Bor, refl, sym, ◌∙◌, ap, arith}
use Rattle.std.specs.Option.{option_copied, ok_or, unwrap_or}
use Rattle.std.specs.Slice.{IsGetResult}
use Rattle.std.proofs.lemmas.List.{get_or_past}
use Rattle.std.proofs.lemmas.Bool.{ltb-true, ltb-false}
use Rattle.envy_array.specs.Array.{Array, Saved, page_of, pages, slot_of, owner}
use Rattle.envy_array.proofs.Owning.{owners, length-owners, owners-at}
use Rattle.envy_plain.specs.declared.saved_word.SavedWord.{SavedWord}
use Rattle.envy_plain.specs.declared.refusal.Refusal.TheVariants.{Range}
use Rattle.envy_plain.specs.Fields.{saved_by, array_in}
use Rattle.envy_plain.proofs.Machine.{slot-open, slot-closed}

-- the element, where there is one
pub got : {X : Type 0} (xs : List X) (i : ℕ) (g : Option (Bor X)) (o : Option X) → IsGetResult xs i i g → o ≡ option_copied g → ((x : X) × (i < length xs) × (o ≡ Some x) × ((d : X) → x ≡ get_or xs i d)) ⊎ ((length xs ≤ i) × (o ≡ None))
got xs i None o lookup is = inr (ltb-false i (length xs) (sym lookup.0), is)
got xs i (Some x) o lookup is = inl (x.now, ltb-true i (length xs) (sym lookup.0), is, λ d. lookup.4 (omega arith) d)

-- what the table of owners says of an address
pub owner-read : (m : Array) (a : ℕ) (xs : List (Option ℕ)) (g : Option (Bor (Option ℕ))) (o : Option (Option ℕ)) → length m.words ≡ 32 * pages m → xs ≡ owners m → IsGetResult xs (a / 32) (a / 32) g → o ≡ option_copied g → MatchResult (ok_or o Range) (λ slot. (a < length m.words) × (slot ≡ owner m (page_of a))) (λ e. (e ≡ Range) × (length m.words ≤ a))
owner-read m a xs g o whole table lookup is = at (got xs (a / 32) g o lookup is)
  where
    long : length xs ≡ pages m
    long = ap length table ∙ length-owners m

    at : ((x : Option ℕ) × (a / 32 < length xs) × (o ≡ Some x) × ((d : Option ℕ) → x ≡ get_or xs (a / 32) d)) ⊎ ((length xs ≤ a / 32) × (o ≡ None)) → MatchResult (ok_or o Range) (λ slot. (a < length m.words) × (slot ≡ owner m (page_of a))) (λ e. (e ≡ Range) × (length m.words ≤ a))
    at (inl (x, lt, found, read)) =
        let within : a / 32 < pages m = rw (← long) lt in
        let in_range : a < length m.words = omega arith in
        let it : x ≡ owner m (page_of a) = read None ∙ ap (λ (ys : List (Option ℕ)). get_or ys (a / 32) None) table ∙ owners-at m (a / 32) within in
        rw found (in_range, it)
    at (inr (le, none)) =
        let past : pages m ≤ a / 32 = rw (← long) le in
        let out : length m.words ≤ a = omega arith in
        rw none (refl, out)

-- whether a slot is open
pub open-read : (words : List ℕ) (active : List Bool) (saved : List SavedWord) (shadows t : ℕ) (m : Array) (g : Option (Bor Bool)) (o : Option Bool) → array_in words active saved shadows ≡ m → length active ≡ 64 → IsGetResult active t t g → o ≡ option_copied g → MatchBool (unwrap_or o false) ((list : Saved) × (slot_of m t ≡ Some list)) (slot_of m t ≡ None)
open-read words active saved shadows t m g o view long lookup is = by (unwrap_or o false) (at (got active t g o lookup is))
  where
    at : ((x : Bool) × (t < length active) × (o ≡ Some x) × ((d : Bool) → x ≡ get_or active t d)) ⊎ ((length active ≤ t) × (o ≡ None)) → unwrap_or o false ≡ get_or active t false
    at (inl (x, lt, found, read)) = rw found (read false)
    at (inr (le, none)) = rw none (sym (get_or_past active t false le))

    by : (b : Bool) → b ≡ get_or active t false → MatchBool b ((list : Saved) × (slot_of m t ≡ Some list)) (slot_of m t ≡ None)
    by true e = (saved_by t saved, ap (λ (n : Array). slot_of n t) (sym view) ∙ slot-open words active saved shadows t long (sym e))
    by false e = ap (λ (n : Array). slot_of n t) (sym view) ∙ slot-closed words active saved shadows t long (sym e)
