-- A new machine.
use Rattle.std.proofs.Common.{◌≡◌, ◌⊎◌, inl, inr, ℕ, ◌*◌, ◌<◌, ◌≤◌, Bool, false, List, [], length, get_or, replicate, Option, None, refl, sym, ◌∙◌, ap, subst, arith}
use Rattle.std.proofs.lemmas.List.{length-replicate, get_or-replicate, get_or_past, ext_get_or}
use Rattle.std.proofs.lemmas.Bool.{cases_lt}
use Rattle.envy_array.specs.Array.{Saved, pages, owner, owned, owns, zeros, IsArray}
use Rattle.envy_array.proofs.Owning.{owners, length-owners, owners-at, owned-none, owner-nobody}
use Rattle.envy_array.proofs.Keeping.{IsArray-zeros}
use Rattle.envy_plain.specs.declared.saved_word.SavedWord.{SavedWord}
use Rattle.envy_plain.specs.Fields.{slots_in, array_in, IsPlain}
use Rattle.envy_plain.proofs.Parts.{array-of, slots_in-is, slot_in-closed}

pub all-false : (n t : ℕ) → get_or (replicate n false) t false ≡ false
all-false n t = at (cases_lt t n)
  where
    at : (t < n) ⊎ (n ≤ t) → get_or (replicate n false) t false ≡ false
    at (inl lt) = get_or-replicate n t false false lt
    at (inr le) = get_or_past (replicate n false) t false (rw length-replicate le)

all-none : (n t : ℕ) → get_or {A = Option Saved} (replicate n None) t None ≡ None
all-none n t = at (cases_lt t n)
  where
    at : (t < n) ⊎ (n ≤ t) → get_or {A = Option Saved} (replicate n None) t None ≡ None
    at (inl lt) = get_or-replicate n t None None lt
    at (inr le) = get_or_past (replicate n None) t None (rw length-replicate le)

-- a machine of zeros with no slot open is the array of zeros
pub array-new : (words : List ℕ) (active : List Bool) (saved : List SavedWord) (count shadows : ℕ) → words ≡ replicate (32 * count) 0 → length active ≡ 64 → ((t : ℕ) → get_or active t false ≡ false) → saved ≡ [] → array_in words active saved shadows ≡ zeros count shadows
array-new words active saved count shadows words_are long closed none =
    ap (λ (xs : List SavedWord). array_in words active xs shadows) none
    ∙ ap (λ (slots : List (Option Saved)). array-of words slots shadows) (slots 64 refl)
    ∙ ap (λ (ws : List ℕ). array-of ws (replicate 64 None) shadows) words_are
  where
    slots : (n : ℕ) → n ≡ 64 → slots_in active [] ≡ replicate n None
    slots n is = slots_in-is active [] (replicate n None) long (length-replicate n None ∙ is) (λ t lt. slot_in-closed active [] t (closed t) ∙ sym (all-none n t))

-- and is sound
pub IsPlain-new : (words : List ℕ) (active : List Bool) (saved : List SavedWord) (table : List (Option ℕ)) (count shadows room : ℕ) → words ≡ replicate (32 * count) 0 → length active ≡ 64 → ((t : ℕ) → get_or active t false ≡ false) → saved ≡ [] → table ≡ replicate count None → 32 * shadows ≤ room → IsPlain words active saved table 0 shadows room
IsPlain-new words active saved table count shadows room words_are long closed none table_is enough =
    let is = array-new words active saved count shadows words_are long closed none in
    record {
      array = subst IsArray (sym is) (IsArray-zeros count shadows);
      slots = long;
      open_slots = λ k d lt. absurd (empty k lt);
      in_range = λ k d lt. absurd (empty k lt);
      once = λ k j d lt l. absurd (empty j l);
      table = table_is ∙ sym (ap owners is ∙ owners_are);
      counted = sym (ap owned is ∙ owned-none (zeros count shadows) (λ p. nobody p));
      enough = enough;
    }
  where
    empty : (k : ℕ) → k < length saved → ⊥
    empty k lt = let none_there : k < 0 = subst (λ (xs : List SavedWord). k < length xs) none lt in omega arith

    nobody : (p : ℕ) → owner (zeros count shadows) p ≡ None
    nobody p = owner-nobody (zeros count shadows) p (λ t. ap (owns p) (all-none 64 t))

    whole : pages (zeros count shadows) ≡ count
    whole = let e : length (zeros count shadows).words ≡ 32 * count = length-replicate (32 * count) 0 in omega arith

    owners_are : owners (zeros count shadows) ≡ replicate count None
    owners_are = ext_get_or None (owners (zeros count shadows)) (replicate count None) (length-owners (zeros count shadows) ∙ whole ∙ sym (length-replicate count None))
        (λ p lt. let within : p < pages (zeros count shadows) = rw (← length-owners (zeros count shadows)) lt in owners-at (zeros count shadows) p within ∙ nobody p ∙ sym (get_or-replicate count p None None (rw (← whole) within)))
