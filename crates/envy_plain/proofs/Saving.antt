-- A slot's first store to an address.
use Rattle.std.proofs.Common.{◌≡◌, ◌⊎◌, inl, inr, ℕ, zero, suc, ◌+◌, ◌*◌, ◌/◌, ◌<◌, ◌≤◌, Bool, true, false, List, [], ◌∷◌, ◌++◌, length, get_or, set, Option, None, Some, is_some, MatchOption, Any, refl, sym, ◌∙◌, ap, subst, arith}
use Rattle.std.specs.Prelude.{slice_index}
use Rattle.std.proofs.lemmas.List.{get_or_read, set-get_or, length_push}
use Rattle.envy_array.specs.Array.{Array, Saved, page_of, pages, slot_of, owner, owned, saving, with_slot, put}
use Rattle.envy_array.specs.Step.{MayOwn}
use Rattle.envy_array.proofs.Owning.{length-owners, owners-at, page-within}
use Rattle.envy_array.proofs.Total.{option_cases}
use Rattle.envy_plain.specs.declared.saved_word.SavedWord.{SavedWord}
use Rattle.envy_plain.specs.Fields.{saved_by, array_in, IsPlain}
use Rattle.envy_plain.proofs.Machine.{slot-is, array-pushed, Takes, IsPlain-pushed}
use Rattle.envy_plain.proofs.Moves.{saved-again}
use Rattle.envy_plain.proofs.Room.{length-saved}
use Rattle.envy_plain.proofs.Turns.{IsUnsaved}

-- ---- what was looked up

pub option-none : {X : Type 0} (o : Option X) (P : Type 0) (Q : X → Type 0) → is_some o ≡ false → MatchOption o P Q → P
option-none None P Q none it = it
option-none (Some x) P Q none it = cc

option-some : {X : Type 0} (o : Option X) (P : Type 0) (Q : X → Type 0) → is_some o ≡ true → MatchOption o P Q → (x : X) × Q x
option-some None P Q some it = cc
option-some (Some x) P Q some it = (x, it)

-- the machine, as a call of `save` finds it
pub record Finds (words : List ℕ) (active : List Bool) (saved : List SavedWord) (table : List (Option ℕ)) (count shadows room t a : ℕ) (m : Array) : Type 0 where
  pub plain : IsPlain words active saved table count shadows room
  pub view : array_in words active saved shadows ≡ m
  pub in_range : a < length m.words
  pub may : MayOwn m t (page_of a)
  pub opened : (list : Saved) × (slot_of m t ≡ Some list)

-- ---- the word is saved already

-- an address that is saved already isn't saved again
pub saves-again : (words : List ℕ) (active : List Bool) (saved xs : List SavedWord) (table : List (Option ℕ)) (count shadows room t a : ℕ) (m : Array) (o : Option ℕ) → Finds words active saved table count shadows room t a m → xs ≡ saved → true ≡ is_some o → MatchOption o (IsUnsaved a xs) (λ w. Any (λ e. (e.address ≡ a) × (e.before ≡ w)) xs) → (list : Saved) → slot_of m t ≡ Some list → m ≡ with_slot m t (Some (saving a (slice_index m.words a) list))
saves-again words active saved xs table count shadows room t a m o f same found look list is = at (option-some o (IsUnsaved a xs) (λ w. Any (λ e. (e.address ≡ a) × (e.before ≡ w)) xs) (sym found) look)
  where
    at : (w : ℕ) × Any (λ e. (e.address ≡ a) × (e.before ≡ w)) xs → m ≡ with_slot m t (Some (saving a (slice_index m.words a) list))
    at (w, any) = by (subst (λ (ys : List SavedWord). Any (λ e. (e.address ≡ a) × (e.before ≡ w)) ys) same any)
      where
        by : Any (λ e. (e.address ≡ a) × (e.before ≡ w)) saved → m ≡ with_slot m t (Some (saving a (slice_index m.words a) list))
        by (k, e, lt, read, (address, before)) = saved-again words active saved table count shadows room t a (slice_index m.words a) m list f.plain f.view f.may k e lt read address is

-- ---- the word joins the list

-- in the terms of the fields
may-here : (words : List ℕ) (active : List Bool) (saved : List SavedWord) (table : List (Option ℕ)) (count shadows room t a : ℕ) (m : Array) → Finds words active saved table count shadows room t a m → MayOwn (array_in words active saved shadows) t (page_of a)
may-here words active saved table count shadows room t a m f = subst (λ (n : Array). MayOwn n t (page_of a)) (sym f.view) f.may

lt-here : (words : List ℕ) (active : List Bool) (saved : List SavedWord) (table : List (Option ℕ)) (count shadows room t a : ℕ) (m : Array) → Finds words active saved table count shadows room t a m → a < length words
lt-here words active saved table count shadows room t a m f = subst (λ (n : Array). a < length n.words) (sym f.view) f.in_range

slot-here : (words : List ℕ) (active : List Bool) (saved : List SavedWord) (table : List (Option ℕ)) (count shadows room t a : ℕ) (m : Array) (list : Saved) → Finds words active saved table count shadows room t a m → slot_of m t ≡ Some list → (get_or active t false ≡ true) × (saved_by t saved ≡ list)
slot-here words active saved table count shadows room t a m list f is = slot-is words active saved shadows t list f.plain.slots (ap (λ (n : Array). slot_of n t) f.view ∙ is)

mark-here : (words : List ℕ) (active : List Bool) (saved : List SavedWord) (table : List (Option ℕ)) (count shadows room t a : ℕ) (m : Array) → Finds words active saved table count shadows room t a m → get_or active t false ≡ true
mark-here words active saved table count shadows room t a m f = at f.opened
  where
    at : (list : Saved) × (slot_of m t ≡ Some list) → get_or active t false ≡ true
    at (list, is) = (slot-here words active saved table count shadows room t a m list f is).0

-- the page's owner, as the table has it
pub table-at : (words : List ℕ) (active : List Bool) (saved : List SavedWord) (table : List (Option ℕ)) (count shadows room t a : ℕ) (m : Array) → Finds words active saved table count shadows room t a m → (page_of a < length table) × (get_or table (page_of a) None ≡ owner (array_in words active saved shadows) (page_of a))
table-at words active saved table count shadows room t a m f =
    let array : Array = array_in words active saved shadows in
    let i = f.plain in
    let within : page_of a < pages array = page-within array a i.array.whole (lt-here words active saved table count shadows room t a m f) in
    let long : length table ≡ pages array = ap length i.table ∙ length-owners array in
    (rw long within, ap (λ (xs : List (Option ℕ)). get_or xs (page_of a) None) i.table ∙ owners-at array (page_of a) within)

-- one that isn't is saved behind the others
pub pushed : (words : List ℕ) (active : List Bool) (saved next : List SavedWord) (table now : List (Option ℕ)) (count after shadows room more t a b : ℕ) (m : Array) → Finds words active saved table count shadows room t a m → IsUnsaved a saved → b ≡ get_or words a b → next ≡ saved ++ record { slot = t; address = a; before = b } ∷ [] → room ≤ more → Takes (array_in words active saved shadows) t a table now count after → IsPlain words active next now after shadows more
pushed words active saved next table now count after shadows room more t a b m f none read is le takes =
    let lt = lt-here words active saved table count shadows room t a m f in
    let before : b ≡ get_or words a 0 = get_or_read words a b lt read 0 in
    let list : next ≡ saved ++ record { slot = t; address = a; before = get_or words a 0 } ∷ [] = is ∙ ap (λ (w : ℕ). saved ++ record { slot = t; address = a; before = w } ∷ []) before in
    subst (λ (xs : List SavedWord). IsPlain words active xs now after shadows more) (sym list)
    (IsPlain-pushed words active saved table now count after shadows room more t a lt (may-here words active saved table count shadows room t a m f) (mark-here words active saved table count shadows room t a m f) none le takes f.plain)

-- and the array has it
pub array-saved : (words : List ℕ) (active : List Bool) (saved next : List SavedWord) (table : List (Option ℕ)) (count shadows room t a b : ℕ) (m : Array) → Finds words active saved table count shadows room t a m → IsUnsaved a saved → b ≡ get_or words a b → next ≡ saved ++ record { slot = t; address = a; before = b } ∷ [] → (list : Saved) → slot_of m t ≡ Some list → array_in words active next shadows ≡ with_slot m t (Some (saving a (slice_index m.words a) list))
array-saved words active saved next table count shadows room t a b m f none read is list opened =
    let lt = lt-here words active saved table count shadows room t a m f in
    let before : b ≡ get_or words a 0 = get_or_read words a b lt read 0 in
    let found = slot-here words active saved table count shadows room t a m list f opened in
    ap (λ (xs : List SavedWord). array_in words active xs shadows) (is ∙ ap (λ (w : ℕ). saved ++ record { slot = t; address = a; before = w } ∷ []) before)
    ∙ array-pushed words active saved shadows t a f.plain.slots found.0 none
    ∙ ap (λ (l : Saved). put (array_in words active saved shadows) t l a (get_or words a 0)) found.1
    ∙ ap (λ (ws : List ℕ). with_slot (record (array_in words active saved shadows) { words = ws }) t (Some (saving a (get_or words a 0) list))) (set-get_or words a 0)
    ∙ ap (λ (n : Array). with_slot n t (Some (saving a (slice_index n.words a) list))) f.view

-- ---- how the owners change

-- a free page gets an owner
pub Takes-new : (m : Array) (t a count : ℕ) (table : List (Option ℕ)) → owner m (page_of a) ≡ None → Takes m t a table (set table (page_of a) (Some t)) count (count + 1)
Takes-new m t a count table free = record { owner_set = refl; counted = rw free (omega arith) }

-- an owned one keeps it
pub Takes-old : (m : Array) (t a count u : ℕ) (table : List (Option ℕ)) → owner m (page_of a) ≡ Some u → Takes m t a table (set table (page_of a) (Some t)) count count
Takes-old m t a count u table owned_by = record { owner_set = refl; counted = rw owned_by refl }

-- there is room for the word
pub room-left : (words : List ℕ) (active : List Bool) (saved : List SavedWord) (table : List (Option ℕ)) (count shadows room t a : ℕ) (m : Array) → Finds words active saved table count shadows room t a m → IsUnsaved a saved → length saved < 32 * shadows
room-left words active saved table count shadows room t a m f none = at (option_cases (owner (array_in words active saved shadows) (page_of a)))
  where
    next : List SavedWord
    next = saved ++ record { slot = t; address = a; before = get_or words a 0 } ∷ []

    fits : (after : ℕ) → Takes (array_in words active saved shadows) t a table (set table (page_of a) (Some t)) count after → length saved < 32 * shadows
    fits after takes =
        let i : IsPlain words active next (set table (page_of a) (Some t)) after shadows room = pushed words active saved next table (set table (page_of a) (Some t)) count after shadows room room t a (get_or words a 0) m f none (sym (get_or_self words a)) refl (omega arith) takes in
        let few = length-saved words active next (set table (page_of a) (Some t)) after shadows room i in
        let long : length next ≡ length saved + 1 = length_push saved (record { slot = t; address = a; before = get_or words a 0 }) in
        omega arith
      where
        get_or_self : (xs : List ℕ) (k : ℕ) → get_or xs k (get_or xs k 0) ≡ get_or xs k 0
        get_or_self [] k = refl
        get_or_self (x ∷ xs) zero = refl
        get_or_self (x ∷ xs) (suc k) = get_or_self xs k

    at : (owner (array_in words active saved shadows) (page_of a) ≡ None) ⊎ ((u : ℕ) × (owner (array_in words active saved shadows) (page_of a) ≡ Some u)) → length saved < 32 * shadows
    at (inl free) = fits (count + 1) (Takes-new (array_in words active saved shadows) t a count table free)
    at (inr (u, owned_by)) = fits count (Takes-old (array_in words active saved shadows) t a count u table owned_by)

-- the page had no owner: it is taken
pub pushed-new : (words : List ℕ) (active : List Bool) (saved next : List SavedWord) (table : List (Option ℕ)) (count shadows room more t a b : ℕ) (m : Array) (x : Option ℕ) → Finds words active saved table count shadows room t a m → IsUnsaved a saved → b ≡ get_or words a b → next ≡ saved ++ record { slot = t; address = a; before = b } ∷ [] → room ≤ more → x ≡ get_or table (a / 32) x → is_some x ≡ false → IsPlain words active next (set table (a / 32) (Some t)) (count + 1) shadows more
pushed-new words active saved next table count shadows room more t a b m x f none read is le owner_read free =
    let found = table-at words active saved table count shadows room t a m f in
    let none_there : owner (array_in words active saved shadows) (page_of a) ≡ None = sym (sym (nothing x free) ∙ get_or_read table (a / 32) x found.0 owner_read None ∙ found.1) in
    pushed words active saved next table (set table (page_of a) (Some t)) count (count + 1) shadows room more t a b m f none read is le (Takes-new (array_in words active saved shadows) t a count table none_there)
  where
    nothing : (o : Option ℕ) → is_some o ≡ false → o ≡ None
    nothing None e = refl
    nothing (Some y) e = cc

-- the page is the slot's already
pub pushed-old : (words : List ℕ) (active : List Bool) (saved next : List SavedWord) (table : List (Option ℕ)) (count shadows room more t a b : ℕ) (m : Array) (x : Option ℕ) → Finds words active saved table count shadows room t a m → IsUnsaved a saved → b ≡ get_or words a b → next ≡ saved ++ record { slot = t; address = a; before = b } ∷ [] → room ≤ more → x ≡ get_or table (a / 32) x → is_some x ≡ true → IsPlain words active next table count shadows more
pushed-old words active saved next table count shadows room more t a b m x f none read is le owner_read taken =
    let found = table-at words active saved table count shadows room t a m f in
    let there : get_or table (page_of a) None ≡ x = sym (get_or_read table (a / 32) x found.0 owner_read None) in
    at x taken there (sym found.1 ∙ there) (may-here words active saved table count shadows room t a m f)
  where
    at : (o : Option ℕ) → is_some o ≡ true → get_or table (page_of a) None ≡ o → owner (array_in words active saved shadows) (page_of a) ≡ o → MayOwn (array_in words active saved shadows) t (page_of a) → IsPlain words active next table count shadows more
    at None e there owner_is may = cc
    at (Some u) e there owner_is (inr (free, room_left)) = cc
    at (Some u) e there owner_is (inl mine) =
        let same : Some u ≡ Some t = sym owner_is ∙ mine in
        let kept : set table (page_of a) (Some t) ≡ table = ap (set table (page_of a)) (sym (there ∙ same)) ∙ set-get_or table (page_of a) None in
        pushed words active saved next table table count count shadows room more t a b m f none read is le (record { owner_set = sym kept; counted = rw mine refl })

-- one more page may be owned
pub count-fits : (words : List ℕ) (active : List Bool) (saved : List SavedWord) (table : List (Option ℕ)) (count shadows room t a : ℕ) (m : Array) (x : Option ℕ) → Finds words active saved table count shadows room t a m → x ≡ get_or table (a / 32) x → is_some x ≡ false → count < shadows
count-fits words active saved table count shadows room t a m x f owner_read free = at (may-here words active saved table count shadows room t a m f)
  where
    at : MayOwn (array_in words active saved shadows) t (page_of a) → count < shadows
    at (inr (none, room_left)) = let few : owned (array_in words active saved shadows) ≤ shadows = f.plain.array.few in let counted = f.plain.counted in omega arith
    at (inl mine) =
        let found = table-at words active saved table count shadows room t a m f in
        let it : x ≡ Some t = get_or_read table (a / 32) x found.0 owner_read None ∙ found.1 ∙ mine in
        let clash : is_some {T = ℕ} (Some t) ≡ false = sym (ap is_some it) ∙ free in
        cc
