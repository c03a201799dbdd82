-- What each change of the fields makes of the array, and that the fields still fit together.
use Rattle.std.proofs.Common.{◌≡◌, ◌≢◌, ◌⊎◌, inl, inr, ℕ, ◌+◌, ◌-◌, ◌<◌, ◌≤◌, Bool, true, false, cond, not, List, [], ◌∷◌, ◌++◌, length, get_or, set, filter, Option, None, Some, is_some, count_by, IsTrue, All, refl, sym, ◌∙◌, ap, subst, le_trans, arith}
use Rattle.std.specs.Prelude.{◌==◌}
use Rattle.std.proofs.lemmas.List.{get_or-set_other, length-set, set-get_or, ext_get_or, get_or_past}
use Rattle.std.proofs.lemmas.List.Elements.{All-push, All-filter, filter_passes}
use Rattle.std.proofs.lemmas.List.Kept.{AllPairs-filter}
use Rattle.std.proofs.lemmas.List.Quantifiers.{all_pairs_push}
use Rattle.std.proofs.lemmas.Bool.{cases_eq, cases_lt, cases_Bool, eq-eqb}
use Rattle.envy_array.specs.Array.{Array, Saved, page_of, pages, slot_of, saves_in, owns, owner, owned, saving, with_slot, put, IsArray}
use Rattle.envy_array.specs.Step.{MayOwn}
use Rattle.envy_array.proofs.Owning.{owners, length-owners, owners-at, owned-counts, owners-same, owner-begun, owner-closed, owners-put, owned-put}
use Rattle.envy_array.proofs.Undoing.{saves}
use Rattle.envy_array.proofs.Keeping.{IsArray-begun, IsArray-closed, IsArray-put}
use Rattle.envy_plain.specs.declared.saved_word.SavedWord.{SavedWord}
use Rattle.envy_plain.specs.Fields.{saved_by, slots_in, array_in, IsPlain}
use Rattle.envy_plain.proofs.Parts.{array-of, is_other, saved_by-none, length-slots_in, slots_in-at, slot_in-open, slot_in-closed, slots_in-begun, slots_in-push, slots_in-closed}
use Rattle.envy_plain.proofs.Turns.{IsUnsaved, saves-unsaved}

-- ---- the slots of the array

-- an open slot has the words that are saved for it
pub slot-open : (words : List ℕ) (active : List Bool) (saved : List SavedWord) (shadows t : ℕ) → length active ≡ 64 → get_or active t false ≡ true → slot_of (array_in words active saved shadows) t ≡ Some (saved_by t saved)
slot-open words active saved shadows t long is = slots_in-at active saved t long ∙ slot_in-open active saved t is

-- a closed one has none
pub slot-closed : (words : List ℕ) (active : List Bool) (saved : List SavedWord) (shadows t : ℕ) → length active ≡ 64 → get_or active t false ≡ false → slot_of (array_in words active saved shadows) t ≡ None
slot-closed words active saved shadows t long is = slots_in-at active saved t long ∙ slot_in-closed active saved t is

-- an open slot is marked, and its list is its part of all saved words
pub slot-is : (words : List ℕ) (active : List Bool) (saved : List SavedWord) (shadows t : ℕ) (list : Saved) → length active ≡ 64 → slot_of (array_in words active saved shadows) t ≡ Some list → (get_or active t false ≡ true) × (saved_by t saved ≡ list)
slot-is words active saved shadows t list long is = at (cases_Bool (get_or active t false))
  where
    at : (get_or active t false ≡ true) ⊎ (get_or active t false ≡ false) → (get_or active t false ≡ true) × (saved_by t saved ≡ list)
    at (inl mark) = let same = slot-open words active saved shadows t long mark in (mark, cc)
    at (inr none) = let no = slot-closed words active saved shadows t long none in cc

pub marked-within : (active : List Bool) (t : ℕ) → get_or active t false ≡ true → t < length active
marked-within active t is = at (cases_lt t (length active))
  where
    at : (t < length active) ⊎ (length active ≤ t) → t < length active
    at (inl lt) = lt
    at (inr le) = let no = get_or_past active t false le in cc

-- ---- a slot opens

-- opening a slot for which no word is saved
pub array-begun : (words : List ℕ) (active : List Bool) (saved : List SavedWord) (shadows t : ℕ) → length active ≡ 64 → t < 64 → saved_by t saved ≡ [] → array_in words (set active t true) saved shadows ≡ with_slot (array_in words active saved shadows) t (Some [])
array-begun words active saved shadows t long lt none = ap (λ (slots : List (Option Saved)). array-of words slots shadows) (slots_in-begun active saved t long lt none)

-- a closed slot has saved nothing
pub saved_by-closed : (active : List Bool) (saved : List SavedWord) (t : ℕ) → All (λ e. IsTrue (get_or active e.slot false)) saved → get_or active t false ≡ false → saved_by t saved ≡ []
saved_by-closed active saved t opened none = saved_by-none t saved (λ k d lt same. both k d lt same (opened k d lt))
  where
    both : (k : ℕ) (d : SavedWord) → k < length saved → (get_or saved k d).slot ≡ t → IsTrue (get_or active (get_or saved k d).slot false) → ⊥
    both k d lt same is = let no : get_or active t false ≡ true = rw (← same) is in cc

-- and the machine is sound
pub IsPlain-begun : (words : List ℕ) (active : List Bool) (saved : List SavedWord) (table : List (Option ℕ)) (count shadows room t : ℕ) → t < 64 → get_or active t false ≡ false → IsPlain words active saved table count shadows room → IsPlain words (set active t true) saved table count shadows room
IsPlain-begun words active saved table count shadows room t lt none i =
    let m : Array = array_in words active saved shadows in
    let is = array-begun words active saved shadows t i.slots lt (saved_by-closed active saved t i.open_slots none) in
    let closed = slot-closed words active saved shadows t i.slots none in
    let in_slots : t < length m.slots = rw (length-slots_in active saved) lt in
    let same = owners-same m (with_slot m t (Some [])) refl (λ p l. owner-begun m t p closed) in
    record {
      array = subst IsArray (sym is) (IsArray-begun m t in_slots closed i.array);
      slots = length-set active t true ∙ i.slots;
      open_slots = λ k d l. at (get_or saved k d).slot (i.open_slots k d l) (cases_eq (get_or saved k d).slot t);
      in_range = i.in_range;
      once = i.once;
      table = i.table ∙ sym (ap owners is ∙ same);
      counted = i.counted ∙ owned-counts m ∙ ap (count_by is_some) (sym (ap owners is ∙ same)) ∙ sym (owned-counts (array_in words (set active t true) saved shadows));
      enough = i.enough;
    }
  where
    at : (s : ℕ) → IsTrue (get_or active s false) → (s ≡ t) ⊎ (s ≡ t → ⊥) → IsTrue (get_or (set active t true) s false)
    at s is (inl same) = let no : get_or active t false ≡ true = rw (← same) is in cc
    at s is (inr other) = get_or-set_other active t s true false other ∙ is

-- ---- a word is saved

-- saving one word more
pub array-pushed : (words : List ℕ) (active : List Bool) (saved : List SavedWord) (shadows t a : ℕ) → length active ≡ 64 → get_or active t false ≡ true → IsUnsaved a saved → array_in words active (saved ++ record { slot = t; address = a; before = get_or words a 0 } ∷ []) shadows ≡ put (array_in words active saved shadows) t (saved_by t saved) a (get_or words a 0)
array-pushed words active saved shadows t a long is none =
    let lt : t < 64 = rw (← long) (marked-within active t is) in
    ap (λ (slots : List (Option Saved)). array-of words slots shadows) (slots_in-push active saved (record { slot = t; address = a; before = get_or words a 0 }) long lt is)
    ∙ ap (λ (list : Saved). array-of words (set (slots_in active saved) t (Some list)) shadows) (sym (new (saves a (saved_by t saved)) refl (saves-unsaved t a saved none)))
    ∙ ap (λ (ws : List ℕ). array-of ws (set (slots_in active saved) t (Some (saving a (get_or words a 0) (saved_by t saved)))) shadows) (sym (set-get_or words a 0))
  where
    new : (b : Bool) → saves a (saved_by t saved) ≡ b → b ≡ false → saving a (get_or words a 0) (saved_by t saved) ≡ (a, get_or words a 0) ∷ saved_by t saved
    new true e none = cc
    new false e none = rw e refl

-- how the owners and their count change with the page of a word
pub record Takes (m : Array) (t a : ℕ) (table now : List (Option ℕ)) (count next : ℕ) : Type 0 where
  pub owner_set : now ≡ set table (page_of a) (Some t)
  pub counted : next + cond (is_some (owner m (page_of a))) 1 0 ≡ count + 1

-- and the machine is sound, with the page's owner
pub IsPlain-pushed : (words : List ℕ) (active : List Bool) (saved : List SavedWord) (table now : List (Option ℕ)) (count next shadows room more t a : ℕ) → a < length words → MayOwn (array_in words active saved shadows) t (page_of a) → get_or active t false ≡ true → IsUnsaved a saved → room ≤ more → Takes (array_in words active saved shadows) t a table now count next → IsPlain words active saved table count shadows room → IsPlain words active (saved ++ record { slot = t; address = a; before = get_or words a 0 } ∷ []) now next shadows more
IsPlain-pushed words active saved table now count next shadows room more t a lt may is none le takes i =
    let m : Array = array_in words active saved shadows in
    let e : SavedWord = record { slot = t; address = a; before = get_or words a 0 } in
    let pushed = array-pushed words active saved shadows t a i.slots is none in
    let opened = slot-open words active saved shadows t i.slots is in
    let put_owners = owners-put m t a (get_or words a 0) (saved_by t saved) i.array.whole i.array.apart lt opened may in
    let put_owned = owned-put m t a (get_or words a 0) (saved_by t saved) i.array.whole i.array.apart lt opened may in
    record {
      array = subst IsArray (sym pushed) (IsArray-put m t a (get_or words a 0) (saved_by t saved) lt may opened i.array);
      slots = i.slots;
      open_slots = All-push (λ (x : SavedWord). IsTrue (get_or active x.slot false)) saved e i.open_slots is;
      in_range = All-push (λ (x : SavedWord). x.address < length words) saved e i.in_range lt;
      once = all_pairs_push (λ (x y : SavedWord). x.address ≢ y.address) saved e i.once none;
      table = takes.owner_set ∙ ap (λ (xs : List (Option ℕ)). set xs (page_of a) (Some t)) i.table ∙ sym (ap owners pushed ∙ put_owners);
      counted = count_is _ _ _ (sym (ap owned pushed)) put_owned i.counted takes.counted;
      enough = le_trans i.enough le;
    }
  where
    count_is : (after now_owned before : ℕ) → after ≡ now_owned → after + cond (is_some (owner (array_in words active saved shadows) (page_of a))) 1 0 ≡ before + 1 → count ≡ before → next + cond (is_some (owner (array_in words active saved shadows) (page_of a))) 1 0 ≡ count + 1 → next ≡ now_owned
    count_is after now_owned before e f g h = omega arith

-- ---- a slot closes

-- dropping the words of a slot closes it
pub array-closed : (words : List ℕ) (active : List Bool) (saved : List SavedWord) (shadows t : ℕ) → length active ≡ 64 → t < 64 → array_in words (set active t false) (filter (is_other t) saved) shadows ≡ with_slot (array_in words active saved shadows) t None
array-closed words active saved shadows t long lt = ap (λ (slots : List (Option Saved)). array-of words slots shadows) (slots_in-closed active saved t long lt)

-- and the machine is sound, where its pages were given back
pub IsPlain-closed : (words : List ℕ) (active : List Bool) (saved : List SavedWord) (table now : List (Option ℕ)) (count shadows room taken t : ℕ) → get_or active t false ≡ true → length now ≡ length table → taken + count_by is_some now ≡ count_by is_some table → ((p : ℕ) → get_or now p None ≡ cond (saves_in p (saved_by t saved)) None (get_or table p None)) → IsPlain words active saved table count shadows room → IsPlain words (set active t false) (filter (is_other t) saved) now (count - taken) shadows room
IsPlain-closed words active saved table now count shadows room taken t is same_length sum each i =
    let m : Array = array_in words active saved shadows in
    let lt : t < 64 = rw (← i.slots) (marked-within active t is) in
    let in_slots : t < length m.slots = rw (length-slots_in active saved) lt in
    let closed = array-closed words active saved shadows t i.slots lt in
    let opened = slot-open words active saved shadows t i.slots is in
    let table_is : now ≡ owners (with_slot m t None) = tables m in_slots opened i.table i.array.apart in
    record {
      array = subst IsArray (sym closed) (IsArray-closed m t words in_slots refl i.array);
      slots = length-set active t false ∙ i.slots;
      open_slots = λ k d l. at (get_or (filter (is_other t) saved) k d).slot (All-filter (is_other t) (λ (x : SavedWord). IsTrue (get_or active x.slot false)) saved i.open_slots k d l) (filter_passes (is_other t) saved k d l);
      in_range = All-filter (is_other t) (λ (x : SavedWord). x.address < length words) saved i.in_range;
      once = AllPairs-filter (λ (x y : SavedWord). x.address ≢ y.address) (is_other t) saved i.once;
      table = table_is ∙ ap owners (sym closed);
      counted = counts _ _ (sym (owned-counts m ∙ ap (count_by is_some) (sym i.table))) (owned-counts (with_slot m t None) ∙ ap (count_by is_some) (sym table_is)) i.counted ∙ ap owned (sym closed);
      enough = i.enough;
    }
  where
    at : (s : ℕ) → IsTrue (get_or active s false) → not (s == t) ≡ true → IsTrue (get_or (set active t false) s false)
    at s mark other = get_or-set_other active t s false false (λ same. let no : not true ≡ true = rw (eq-eqb s t same) at other in cc) ∙ mark

    tables : (m : Array) → t < length m.slots → slot_of m t ≡ Some (saved_by t saved) → table ≡ owners m → ((x y p : ℕ) → IsTrue (owns p (slot_of m x)) → IsTrue (owns p (slot_of m y)) → x ≡ y) → now ≡ owners (with_slot m t None)
    tables m in_slots opened is_table apart =
        let long : length now ≡ pages m = same_length ∙ ap length is_table ∙ length-owners m in
        ext_get_or None now (owners (with_slot m t None)) (long ∙ sym (length-owners (with_slot m t None)))
        (λ p l. let within : p < pages m = rw (← long) l in
        each p
        ∙ ap (λ (o : Option ℕ). cond (saves_in p (saved_by t saved)) None o) (ap (λ (xs : List (Option ℕ)). get_or xs p None) is_table ∙ owners-at m p within)
        ∙ sym (owners-at (with_slot m t None) p within ∙ owner-closed m t p in_slots apart ∙ ap (λ (slot : Option Saved). cond (owns p slot) None (owner m p)) opened))

    counts : (before after : ℕ) → count_by is_some table ≡ before → after ≡ count_by is_some now → count ≡ before → count - taken ≡ after
    counts before after e f g = omega arith
