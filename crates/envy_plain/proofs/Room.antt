-- The saved words are never more than the pages that may be owned have.
use Rattle.std.proofs.Common.{◌≡◌, ◌≢◌, ◌⊎◌, inl, inr, ℕ, suc, ◌+◌, ◌*◌, ◌%◌, ◌<◌, ◌≤◌, Bool, true, false, cond, List, [], ◌∷◌, ◌++◌, length, get_or, set, map, take, Option, None, Some, is_some, count_by, sum_by, IsTrue, All, AllPairs, sym, ◌∙◌, ap, subst, append-nil, arith}
use Rattle.std.specs.Prelude.{eqb, unwrap_or}
use Rattle.std.specs.List.{list_any}
use Rattle.std.proofs.lemmas.List.{get_or-set_same, get_or-set_other, get_or-take, take-take, length-take, length-set, length-map, length-append, get_or-map, get_or_default}
use Rattle.std.proofs.lemmas.List.Sums.{sum_by-set, sum_by-le, sum_by_more_le}
use Rattle.std.proofs.lemmas.List.Folds.{Any-from_list_any}
use Rattle.std.proofs.lemmas.Map.Keys.{IsDistinct-from_apart}
use Rattle.std.proofs.lemmas.Map.Steps.{length-le_from_distinct_below}
use Rattle.std.proofs.lemmas.Bool.{cases_eq, cases_order, eqb-true, ne_eqb}
use Rattle.envy_array.specs.Array.{Array, Saved, page_of, pages, slot_of, saves_in, owns, owned}
use Rattle.envy_array.proofs.Owning.{length-owners, owners-at, owned-counts, owner-is, page-within}
use Rattle.envy_plain.specs.declared.saved_word.SavedWord.{SavedWord}
use Rattle.envy_plain.specs.Fields.{saved_by, slot_in, slots_in, array_in, IsPlain}
use Rattle.envy_plain.proofs.Parts.{part, part-own, part-other, length-slots_in, slots_in-at, slots_in-is, slot_in-open}
use Rattle.envy_plain.proofs.Machine.{slot-open, marked-within}
use Rattle.envy_plain.proofs.Members.{saves_in-member}

-- ---- each owned page has a place among the owned pages

-- how many pages below p are owned
rank : List (Option ℕ) → ℕ → ℕ
rank table p = count_by is_some (take p table)

rank-below : (table : List (Option ℕ)) (p : ℕ) → p < length table → is_some (get_or table p None) ≡ true → rank table p < count_by is_some table
unfolding rank
rank-below table p lt is =
    let e : count_by is_some (take p table) + cond (is_some (get_or table p None)) 1 0 ≤ count_by is_some table = sum_by_more_le (λ (o : Option ℕ). cond (is_some o) 1 0) table p None lt in
    let f : count_by is_some (take p table) + 1 ≤ count_by is_some table = rw is at e in
    omega arith

rank-less : (table : List (Option ℕ)) (p q : ℕ) → p < q → p < length table → is_some (get_or table p None) ≡ true → rank table p < rank table q
unfolding rank
rank-less table p q less lt is =
    let long = length-take q table in
    let front = rank-below (take q table) p (omega arith) (ap is_some (get_or-take q table p None less) ∙ is) in
    subst (λ (xs : List (Option ℕ)). count_by is_some xs < count_by is_some (take q table)) (take-take p q table (omega arith)) front

rank-apart : (table : List (Option ℕ)) (p q : ℕ) → p < length table → q < length table → is_some (get_or table p None) ≡ true → is_some (get_or table q None) ≡ true → rank table p ≡ rank table q → p ≡ q
rank-apart table p q lt room is too same = at (cases_order p q)
  where
    at : (p ≡ q) ⊎ ((p < q) ⊎ (q < p)) → p ≡ q
    at (inl e) = e
    at (inr (inl less)) = let x = rank-less table p q less lt is in absurd (omega arith)
    at (inr (inr more)) = let x = rank-less table q p more room too in absurd (omega arith)

-- ---- the words of owned pages

-- every address is of an owned page
abbrev pub AreOwned : List (Option ℕ) → List ℕ → Type 0
AreOwned table xs = All (λ a. (page_of a < length table) × (is_some (get_or table (page_of a) None) ≡ true)) xs

-- where an address stands among the words of the owned pages
place : List (Option ℕ) → ℕ → ℕ
place table a = 32 * rank table (page_of a) + a % 32

place-apart : (table : List (Option ℕ)) (a b : ℕ) → (page_of a < length table) × (is_some (get_or table (page_of a) None) ≡ true) → (page_of b < length table) × (is_some (get_or table (page_of b) None) ≡ true) → place table a ≡ place table b → a ≡ b
unfolding place
place-apart table a b first second same =
    let ranks : rank table (page_of a) ≡ rank table (page_of b) = omega arith in
    let pages_same : page_of a ≡ page_of b = rank-apart table (page_of a) (page_of b) first.0 second.0 first.1 second.1 ranks in
    omega arith

place-below : (table : List (Option ℕ)) (a : ℕ) → (page_of a < length table) × (is_some (get_or table (page_of a) None) ≡ true) → place table a < 32 * count_by is_some table
unfolding place
place-below table a it = let below = rank-below table (page_of a) it.0 it.1 in omega arith

-- different words in owned pages are at most 32 a page
pub length-owned : (table : List (Option ℕ)) (xs : List ℕ) → AllPairs (λ a b. a ≢ b) xs → AreOwned table xs → length xs ≤ 32 * count_by is_some table
length-owned table xs apart each =
    let long : length (map (place table) xs) ≡ length xs = length-map xs (place table) in
    let few : length (map (place table) xs) ≤ 32 * count_by is_some table = length-le_from_distinct_below (map (place table) xs) (32 * count_by is_some table) (IsDistinct-from_apart eqb (map (place table) xs) (λ i j d lt room. differ i j d lt (rw (← length-map xs (place table)) room))) below in
    omega arith
  where
    read : (i d : ℕ) → i < length xs → get_or (map (place table) xs) i d ≡ place table (get_or xs i 0)
    read i d lt = get_or-map (place table) xs i 0 d lt

    differ : (i j d : ℕ) → i < j → j < length xs → eqb (get_or (map (place table) xs) i d) (get_or (map (place table) xs) j d) ≡ false
    differ i j d lt room =
        ne_eqb (get_or (map (place table) xs) i d) (get_or (map (place table) xs) j d)
        (λ same. apart i j 0 lt room (place-apart table (get_or xs i 0) (get_or xs j 0) (each i 0 (omega arith)) (each j 0 room) (sym (read i d (omega arith)) ∙ same ∙ read j d room)))

    below : (q : ℕ) → list_any (eqb q) (map (place table) xs) ≡ true → q < 32 * count_by is_some table
    below q found = at (Any-from_list_any (eqb q) (map (place table) xs) found)
      where
        at : (k : ℕ) × (x : ℕ) × (k < length (map (place table) xs)) × (get_or (map (place table) xs) k x ≡ x) × (eqb q x ≡ true) → q < 32 * count_by is_some table
        at (k, x, lt, is, same) =
            let room : k < length xs = rw (← length-map xs (place table)) lt in
            let low = place-below table (get_or xs k 0) (each k 0 room) in
            let e = read k x room in
            let f = eqb-true q x same in
            omega arith

-- ---- the saved words of a machine

-- so there is room for every saved word
pub length-saved : (words : List ℕ) (active : List Bool) (saved : List SavedWord) (table : List (Option ℕ)) (count shadows room : ℕ) → IsPlain words active saved table count shadows room → length saved ≤ 32 * shadows
length-saved words active saved table count shadows room i =
    let few : length (map (λ (e : SavedWord). e.address) saved) ≤ 32 * count_by is_some table = length-owned table (map (λ (e : SavedWord). e.address) saved) apart each in
    let long : length (map (λ (e : SavedWord). e.address) saved) ≡ length saved = length-map saved (λ (e : SavedWord). e.address) in
    let counted : count_by is_some table ≡ owned m = ap (count_by is_some) i.table ∙ sym (owned-counts m) in
    let most : owned m ≤ shadows = i.array.few in
    omega arith
  where
    m : Array
    m = array_in words active saved shadows

    blank : SavedWord
    blank = record { slot = 0; address = 0; before = 0 }

    read : (k d : ℕ) → k < length saved → get_or (map (λ (e : SavedWord). e.address) saved) k d ≡ (get_or saved k blank).address
    read k d lt = get_or-map (λ (e : SavedWord). e.address) saved k blank d lt

    apart : AllPairs (λ a b. a ≢ b) (map (λ (e : SavedWord). e.address) saved)
    apart k j d lt l same =
        let in_range : j < length saved = rw (← length-map saved (λ (e : SavedWord). e.address)) l in
        i.once k j blank lt in_range (sym (read k d (omega arith)) ∙ same ∙ read j d in_range)

    each : AreOwned table (map (λ (e : SavedWord). e.address) saved)
    each k d l =
        let in_range : k < length saved = rw (← length-map saved (λ (e : SavedWord). e.address)) l in
        subst (λ (a : ℕ). (page_of a < length table) × (is_some (get_or table (page_of a) None) ≡ true)) (sym (read k d in_range)) (at (get_or saved k blank) (i.in_range k blank in_range) (i.open_slots k blank in_range) (saves_in-member saved k blank in_range))
      where
        at : (e : SavedWord) → e.address < length words → IsTrue (get_or active e.slot false) → saves_in (page_of e.address) (saved_by e.slot saved) ≡ true → (page_of e.address < length table) × (is_some (get_or table (page_of e.address) None) ≡ true)
        at e lt is own =
            let within : page_of e.address < pages m = page-within m e.address i.array.whole lt in
            let long : length table ≡ pages m = ap length i.table ∙ length-owners m in
            let owning : IsTrue (owns (page_of e.address) (slot_of m e.slot)) = ap (owns (page_of e.address)) (slot-open words active saved shadows e.slot i.slots is) ∙ own in
            let found : get_or table (page_of e.address) None ≡ Some e.slot = ap (λ (xs : List (Option ℕ)). get_or xs (page_of e.address) None) i.table ∙ owners-at m (page_of e.address) within ∙ owner-is m i.array.apart (page_of e.address) e.slot owning in
            (rw long within, ap is_some found)

-- ---- how many words an array's slots have saved

abbrev words_of : Option Saved → ℕ
words_of slot = length (unwrap_or slot [])

slots_in-cons : (active : List Bool) (e : SavedWord) (saved : List SavedWord) → length active ≡ 64 → e.slot < 64 → IsTrue (get_or active e.slot false) → slots_in active (e ∷ saved) ≡ set (slots_in active saved) e.slot (Some (saved_by e.slot saved ++ part e.slot e))
slots_in-cons active e saved long lt is =
    slots_in-is active (e ∷ saved) (set (slots_in active saved) e.slot (Some (saved_by e.slot saved ++ part e.slot e))) long (length-set (slots_in active saved) e.slot (Some (saved_by e.slot saved ++ part e.slot e)) ∙ length-slots_in active saved) (λ u room. at u (cases_eq u e.slot))
  where
    at : (u : ℕ) → (u ≡ e.slot) ⊎ (u ≡ e.slot → ⊥) → slot_in active (e ∷ saved) u ≡ get_or (set (slots_in active saved) e.slot (Some (saved_by e.slot saved ++ part e.slot e))) u None
    at u (inl same) =
        let in_slots : e.slot < length (slots_in active saved) = rw (length-slots_in active saved) lt in
        subst (λ (x : ℕ). slot_in active (e ∷ saved) x ≡ get_or (set (slots_in active saved) e.slot (Some (saved_by e.slot saved ++ part e.slot e))) x None) (sym same) (slot_in-open active (e ∷ saved) e.slot is ∙ sym (get_or-set_same (slots_in active saved) e.slot (Some (saved_by e.slot saved ++ part e.slot e)) None in_slots))
    at u (inr other) =
        ap (λ (l : Saved). cond (get_or active u false) (Some (saved_by u saved ++ l)) None) (part-other u e (λ same. other (sym same)))
        ∙ ap (λ (l : Saved). cond (get_or active u false) (Some l) None) (append-nil (saved_by u saved))
        ∙ sym (get_or-set_other (slots_in active saved) e.slot u (Some (saved_by e.slot saved ++ part e.slot e)) None other ∙ slots_in-at active saved u long)

-- the saved words are those of all slots
pub sum_by-slots_in : (active : List Bool) (saved : List SavedWord) → length active ≡ 64 → All (λ e. IsTrue (get_or active e.slot false)) saved → sum_by words_of (slots_in active saved) ≡ length saved
sum_by-slots_in active [] long opened = empty (sum_by-le words_of 0 (slots_in active []) (λ k d lt. none k d lt))
  where
    empty : sum_by words_of (slots_in active []) ≤ length (slots_in active []) * 0 → sum_by words_of (slots_in active []) ≡ 0
    empty le = omega arith

    none : (k : ℕ) (d : Option Saved) → k < length (slots_in active []) → words_of (get_or (slots_in active []) k d) ≤ 0
    none k d lt = subst (λ (slot : Option Saved). words_of slot ≤ 0) (sym (get_or_default (slots_in active []) k d None lt ∙ slots_in-at active [] k long)) (at (get_or active k false))
      where
        at : (b : Bool) → words_of (cond b (Some []) None) ≤ 0
        at true = omega arith
        at false = omega arith
sum_by-slots_in active (e ∷ saved) long opened = step (sum_by-slots_in active saved long (λ k d lt. opened (suc k) d (omega arith)))
  where
    step : sum_by words_of (slots_in active saved) ≡ length saved → sum_by words_of (slots_in active (e ∷ saved)) ≡ suc (length saved)
    step rest =
        let is : IsTrue (get_or active e.slot false) = opened 0 e (omega arith) in
        let lt : e.slot < 64 = rw (← long) (marked-within active e.slot is) in
        let in_slots : e.slot < length (slots_in active saved) = rw (length-slots_in active saved) lt in
        let sums : sum_by words_of (set (slots_in active saved) e.slot (Some (saved_by e.slot saved ++ part e.slot e))) + words_of (get_or (slots_in active saved) e.slot None) ≡ sum_by words_of (slots_in active saved) + length (saved_by e.slot saved ++ part e.slot e) = sum_by-set words_of (slots_in active saved) e.slot (Some (saved_by e.slot saved ++ part e.slot e)) None in_slots in
        let old : words_of (get_or (slots_in active saved) e.slot None) ≡ length (saved_by e.slot saved) = ap words_of (slots_in-at active saved e.slot long ∙ slot_in-open active saved e.slot is) in
        let new : length (saved_by e.slot saved ++ part e.slot e) ≡ length (saved_by e.slot saved) + 1 = length-append (saved_by e.slot saved) (part e.slot e) ∙ ap (λ (l : Saved). length (saved_by e.slot saved) + length l) (part-own e) in
        let whole : sum_by words_of (slots_in active (e ∷ saved)) ≡ sum_by words_of (set (slots_in active saved) e.slot (Some (saved_by e.slot saved ++ part e.slot e))) = ap (sum_by words_of) (slots_in-cons active e saved long lt is) in
        omega arith
