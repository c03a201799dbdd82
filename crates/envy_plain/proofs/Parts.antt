-- Each slot's part of the list of saved words.
use Rattle.std.proofs.Common.{◌≡◌, ◌≢◌, ◌⊎◌, inl, inr, ℕ, suc, ◌<◌, ◌≤◌, Bool, true, false, cond, not, List, [], ◌∷◌, ◌++◌, length, get_or, set, map, filter, Option, None, Some, IsTrue, All, refl, sym, ◌∙◌, ap, append-nil, append_assoc, arith}
use Rattle.std.specs.Prelude.{◌==◌}
use Rattle.std.specs.List.{range_with_len}
use Rattle.std.proofs.lemmas.List.{get_or-set_same, get_or-set_other, length-set, get_or_past, ext_get_or}
use Rattle.std.proofs.lemmas.List.FromFn.{get_or-map-range_with_len, length-map-range_with_len}
use Rattle.std.proofs.lemmas.Bool.{cases_eq, cases_lt, eq-eqb, ne_eqb}
use Rattle.envy_array.specs.Array.{Array, Saved}
use Rattle.envy_plain.specs.declared.saved_word.SavedWord.{SavedWord}
use Rattle.envy_plain.specs.Fields.{saved_by, slot_in, slots_in}

-- the array of these words and slots
abbrev pub array-of : List ℕ → List (Option Saved) → ℕ → Array
array-of words slots shadows = record { words = words; slots = slots; shadows = shadows }

-- ---- the pairs of a slot

-- what a saved word gives to a slot
abbrev pub part : ℕ → SavedWord → Saved
part t e = cond (e.slot == t) ((e.address, e.before) ∷ []) []

-- the part of a saved word that is its own slot's
pub part-own : (e : SavedWord) → part e.slot e ≡ (e.address, e.before) ∷ []
part-own e = rw (eq-eqb e.slot e.slot refl) refl

-- no part of it is another slot's
pub part-other : (t : ℕ) (e : SavedWord) → e.slot ≢ t → part t e ≡ []
part-other t e other = rw (ne_eqb e.slot t other) refl

pub saved_by-push : (t : ℕ) (xs : List SavedWord) (e : SavedWord) → saved_by t (xs ++ e ∷ []) ≡ part t e ++ saved_by t xs
saved_by-push t [] e = sym (append-nil (part t e))
saved_by-push t (x ∷ xs) e = ap (λ (l : Saved). l ++ part t x) (saved_by-push t xs e) ∙ append_assoc (part t e) (saved_by t xs) (part t x)

-- no saved word is the slot's
pub saved_by-none : (t : ℕ) (xs : List SavedWord) → All (λ e. e.slot ≢ t) xs → saved_by t xs ≡ []
saved_by-none t [] none = refl
saved_by-none t (x ∷ xs) none =
    rw (part-other t x (none 0 x (omega arith)))
    (ap (λ (l : Saved). l ++ []) (saved_by-none t xs (λ k d lt. none (suc k) d (omega arith))))

-- the saved words of all slots but one
abbrev pub is_other : ℕ → SavedWord → Bool
is_other t e = not (e.slot == t)

-- dropping a slot's words leaves those of the others
pub saved_by-kept : (t u : ℕ) (xs : List SavedWord) → u ≢ t → saved_by u (filter (is_other t) xs) ≡ saved_by u xs
saved_by-kept t u [] ne = refl
saved_by-kept t u (x ∷ xs) ne = at (cases_eq x.slot t) (saved_by-kept t u xs ne)
  where
    at : (x.slot ≡ t) ⊎ (x.slot ≡ t → ⊥) → saved_by u (filter (is_other t) xs) ≡ saved_by u xs → saved_by u (filter (is_other t) (x ∷ xs)) ≡ saved_by u (x ∷ xs)
    at (inl same) rest = rw (eq-eqb x.slot t same, part-other u x (λ e. ne (sym e ∙ same))) (rest ∙ sym (append-nil (saved_by u xs)))
    at (inr other) rest = rw (ne_eqb x.slot t other) (ap (λ (l : Saved). l ++ part u x) rest)

-- ---- the slots

pub length-slots_in : (active : List Bool) (saved : List SavedWord) → length (slots_in active saved) ≡ 64
unfolding slots_in
length-slots_in active saved = length-map-range_with_len (slot_in active saved) 0 64

pub slots_in-at : (active : List Bool) (saved : List SavedWord) (t : ℕ) → length active ≡ 64 → get_or (slots_in active saved) t None ≡ slot_in active saved t
unfolding slots_in
slots_in-at active saved t long = at (cases_lt t 64)
  where
    at : (t < 64) ⊎ (64 ≤ t) → get_or (map (slot_in active saved) (range_with_len 0 64)) t None ≡ slot_in active saved t
    at (inl lt) = get_or-map-range_with_len (slot_in active saved) 0 64 t t None lt (omega arith)
    at (inr le) = get_or_past (map (slot_in active saved) (range_with_len 0 64)) t None (rw (length-map-range_with_len (slot_in active saved) 0 64) le) ∙ sym (rw (get_or_past active t false (rw long le)) refl)

pub slots_in-is : (active : List Bool) (saved : List SavedWord) (xs : List (Option Saved)) → length active ≡ 64 → length xs ≡ 64 → ((t : ℕ) → t < 64 → slot_in active saved t ≡ get_or xs t None) → slots_in active saved ≡ xs
slots_in-is active saved xs long same each =
    ext_get_or None (slots_in active saved) xs (length-slots_in active saved ∙ sym same)
    (λ t lt. let room : t < 64 = rw (← length-slots_in active saved) lt in slots_in-at active saved t long ∙ each t room)

pub slot_in-open : (active : List Bool) (saved : List SavedWord) (t : ℕ) → IsTrue (get_or active t false) → slot_in active saved t ≡ Some (saved_by t saved)
slot_in-open active saved t is = rw is refl

pub slot_in-closed : (active : List Bool) (saved : List SavedWord) (t : ℕ) → get_or active t false ≡ false → slot_in active saved t ≡ None
slot_in-closed active saved t is = rw is refl

-- ---- a slot opens

-- opening a slot
pub slots_in-begun : (active : List Bool) (saved : List SavedWord) (t : ℕ) → length active ≡ 64 → t < 64 → saved_by t saved ≡ [] → slots_in (set active t true) saved ≡ set (slots_in active saved) t (Some [])
slots_in-begun active saved t long lt none =
    slots_in-is (set active t true) saved (set (slots_in active saved) t (Some [])) (length-set active t true ∙ long) (length-set (slots_in active saved) t (Some []) ∙ length-slots_in active saved) (λ u room. at u room (cases_eq u t))
  where
    at : (u : ℕ) → u < 64 → (u ≡ t) ⊎ (u ≡ t → ⊥) → slot_in (set active t true) saved u ≡ get_or (set (slots_in active saved) t (Some [])) u None
    at u room (inl same) =
        let in_active : t < length active = rw long lt in
        let in_slots : t < length (slots_in active saved) = rw (length-slots_in active saved) lt in
        rw same (slot_in-open (set active t true) saved t (get_or-set_same active t true false in_active) ∙ ap Some none ∙ sym (get_or-set_same (slots_in active saved) t (Some []) None in_slots))
    at u room (inr other) =
        ap (λ (b : Bool). cond b (Some (saved_by u saved)) None) (get_or-set_other active t u true false other)
        ∙ sym (get_or-set_other (slots_in active saved) t u (Some []) None other ∙ slots_in-at active saved u long)

-- ---- a word is saved

-- saving a word
pub slots_in-push : (active : List Bool) (saved : List SavedWord) (e : SavedWord) → length active ≡ 64 → e.slot < 64 → IsTrue (get_or active e.slot false) → slots_in active (saved ++ e ∷ []) ≡ set (slots_in active saved) e.slot (Some ((e.address, e.before) ∷ saved_by e.slot saved))
slots_in-push active saved e long lt is =
    slots_in-is active (saved ++ e ∷ []) (set (slots_in active saved) e.slot (Some ((e.address, e.before) ∷ saved_by e.slot saved))) long (length-set (slots_in active saved) e.slot (Some ((e.address, e.before) ∷ saved_by e.slot saved)) ∙ length-slots_in active saved) (λ u room. at u room (cases_eq u e.slot))
  where
    at : (u : ℕ) → u < 64 → (u ≡ e.slot) ⊎ (u ≡ e.slot → ⊥) → slot_in active (saved ++ e ∷ []) u ≡ get_or (set (slots_in active saved) e.slot (Some ((e.address, e.before) ∷ saved_by e.slot saved))) u None
    at u room (inl same) =
        let in_slots : e.slot < length (slots_in active saved) = rw (length-slots_in active saved) lt in
        rw same (slot_in-open active (saved ++ e ∷ []) e.slot is ∙ ap Some (saved_by-push e.slot saved e ∙ ap (λ (l : Saved). l ++ saved_by e.slot saved) (part-own e)) ∙ sym (get_or-set_same (slots_in active saved) e.slot (Some ((e.address, e.before) ∷ saved_by e.slot saved)) None in_slots))
    at u room (inr other) =
        ap (λ (l : Saved). cond (get_or active u false) (Some l) None) (saved_by-push u saved e ∙ ap (λ (l : Saved). l ++ saved_by u saved) (part-other u e (λ same. other (sym same))))
        ∙ sym (get_or-set_other (slots_in active saved) e.slot u (Some ((e.address, e.before) ∷ saved_by e.slot saved)) None other ∙ slots_in-at active saved u long)

-- ---- a slot closes

-- closing a slot
pub slots_in-closed : (active : List Bool) (saved : List SavedWord) (t : ℕ) → length active ≡ 64 → t < 64 → slots_in (set active t false) (filter (is_other t) saved) ≡ set (slots_in active saved) t None
slots_in-closed active saved t long lt =
    slots_in-is (set active t false) (filter (is_other t) saved) (set (slots_in active saved) t None) (length-set active t false ∙ long) (length-set (slots_in active saved) t None ∙ length-slots_in active saved) (λ u room. at u room (cases_eq u t))
  where
    at : (u : ℕ) → u < 64 → (u ≡ t) ⊎ (u ≡ t → ⊥) → slot_in (set active t false) (filter (is_other t) saved) u ≡ get_or (set (slots_in active saved) t None) u None
    at u room (inl same) =
        let in_active : t < length active = rw long lt in
        let in_slots : t < length (slots_in active saved) = rw (length-slots_in active saved) lt in
        rw same (slot_in-closed (set active t false) (filter (is_other t) saved) t (get_or-set_same active t false false in_active) ∙ sym (get_or-set_same (slots_in active saved) t None None in_slots))
    at u room (inr other) =
        ap (λ (b : Bool). cond b (Some (saved_by u (filter (is_other t) saved))) None) (get_or-set_other active t u false false other)
        ∙ ap (λ (l : Saved). cond (get_or active u false) (Some l) None) (saved_by-kept t u saved other)
        ∙ sym (get_or-set_other (slots_in active saved) t u None None other ∙ slots_in-at active saved u long)
