-- From what the machine's parts do to what a call does to the array.
use Rattle.std.proofs.Common.{◌≡◌, inl, inr, ℕ, ◌+◌, ◌-◌, ◌/◌, ◌<◌, Bool, true, false, cond, not, List, length, get_or, set, filter, count_by, Option, None, Some, is_some, MatchOption, IsTrue, All, Any, Contains, refl, sym, ◌∙◌, ap, subst, subst₂}
use Rattle.std.specs.Prelude.{slice_index, position, unwrap_or}
use Rattle.std.proofs.lemmas.List.{set-get_or}
use Rattle.envy_array.specs.Array.{Array, Saved, page_of, pages, slot_of, saves_in, owns, owner, owned, is_closed, put_back, undone, saving, with_slot, stored, put, aborted}
use Rattle.envy_array.specs.Step.{MayOwn}
use Rattle.std.proofs.lemmas.List.Quantifiers.{position-Some}
use Rattle.envy_array.proofs.Owning.{length-owners, page-within, position-None, position-first, position-nowhere, may_own-only}
use Rattle.envy_array.proofs.Undoing.{saves, saves-owns, has, undone-unsaved, undone-saved}
use Rattle.envy_plain.specs.declared.saved_word.SavedWord.{SavedWord}
use Rattle.envy_plain.specs.Fields.{saved_by, slot_in, slots_in, array_in, IsPlain}
use Rattle.envy_plain.proofs.Machine.{slot-open, slot-is, marked-within, array-closed, IsPlain-closed}
use Rattle.envy_plain.proofs.Members.{saved_by-member, saves-member, has-unsaved}
use Rattle.envy_plain.proofs.Parts.{is_other, length-slots_in, slots_in-at}
use Rattle.envy_plain.proofs.Turns.{IsUnsaved}

-- ---- abort

-- an abort puts back what its slot saved
pub aborts : (words next : List ℕ) (active : List Bool) (saved : List SavedWord) (shadows t : ℕ) (m after : Array) → array_in words active saved shadows ≡ m → length active ≡ 64 → (list : Saved) × (slot_of m t ≡ Some list) → next ≡ put_back (saved_by t saved) words → after ≡ with_slot (array_in next active saved shadows) t None → (x : Saved) × (slot_of m t ≡ Some x) × (after ≡ aborted m t x)
aborts words next active saved shadows t m after view long (list, is) words_are result =
    (list, is, result ∙ ap (λ (ws : List ℕ). with_slot (array_in ws active saved shadows) t None) (words_are ∙ ap (λ (l : Saved). put_back l words) part) ∙ ap (λ (n : Array). aborted n t list) view)
  where
    part : saved_by t saved ≡ list
    part = (slot-is words active saved shadows t list long (ap (λ (n : Array). slot_of n t) view ∙ is)).1

-- ---- begin

is_closed-slot : (active : List Bool) (saved : List SavedWord) (t : ℕ) → is_closed (slot_in active saved t) ≡ not (get_or active t false)
is_closed-slot active saved t = at (get_or active t false)
  where
    at : (b : Bool) → is_closed (cond b (Some (saved_by t saved)) None) ≡ not b
    at true = refl
    at false = refl

closed-slot : (active : List Bool) (saved : List SavedWord) (t : ℕ) → length active ≡ 64 → is_closed (get_or (slots_in active saved) t None) ≡ not (get_or active t false)
closed-slot active saved t long = ap is_closed (slots_in-at active saved t long) ∙ is_closed-slot active saved t

-- the first slot that isn't marked is the first closed one
pub first-found : (active : List Bool) (saved : List SavedWord) (t : ℕ) → length active ≡ 64 → Some t ≡ position not active → (t < 64) × (get_or active t false ≡ false) × (position is_closed (slots_in active saved) ≡ Some t)
first-found active saved t long is =
    let found = position-Some not active t false (sym is) in
    let lt : t < 64 = rw (← long) found.0 in
    let in_slots : t < length (slots_in active saved) = rw (length-slots_in active saved) lt in
    (lt, unmarked (get_or active t false) found.1, position-first is_closed (slots_in active saved) t None in_slots (closed-slot active saved t long ∙ found.1) (λ k l. closed-slot active saved k long ∙ found.2 k l))
  where
    unmarked : (b : Bool) → not b ≡ true → b ≡ false
    unmarked true e = cc
    unmarked false e = refl

-- where all are marked none is closed
pub first-none : (active : List Bool) (saved : List SavedWord) → length active ≡ 64 → None ≡ position not active → position is_closed (slots_in active saved) ≡ None
first-none active saved long is =
    position-nowhere is_closed (slots_in active saved) None
    (λ k lt. closed-slot active saved k long ∙ position-None not active (sym is) k false (rw long (rw (← length-slots_in active saved) lt)))

-- ---- put

-- a slot may own a page that it owns,
pub may-mine : (m : Array) (t p slot : ℕ) (o : Option ℕ) → o ≡ owner m p → o ≡ Some slot → slot ≡ t → MayOwn m t p
may-mine m t p slot o is found same = inl (sym is ∙ found ∙ ap Some same)

-- and a free one where there is room
pub may-free : (m array : Array) (t p count shadows : ℕ) (o : Option ℕ) → o ≡ owner m p → o ≡ None → array ≡ m → count ≡ owned array → shadows ≡ array.shadows → (count ≡ shadows → ⊥) → MayOwn m t p
may-free m array t p count shadows o is none view counted limit room =
    inr (sym is ∙ none, λ full. room (counted ∙ ap owned view ∙ full ∙ sym (limit ∙ ap (λ (n : Array). n.shadows) view)))

-- a put saves the word and stores over it
pub puts : (m mid after : Array) (t a w : ℕ) → a < length m.words → MayOwn m t (page_of a) → (list : Saved) × (slot_of m t ≡ Some list) → ((list : Saved) → slot_of m t ≡ Some list → mid ≡ with_slot m t (Some (saving a (slice_index m.words a) list))) → after ≡ stored mid a w → (a < length m.words) × MayOwn m t (page_of a) × (list : Saved) × (slot_of m t ≡ Some list) × (after ≡ put m t list a w)
puts m mid after t a w lt may (list, is) saves_it stores = (lt, may, list, is, stores ∙ ap (λ (n : Array). stored n a w) (saves_it list is))

-- saving a word leaves the addresses
pub saved-in_range : (m mid : Array) (t a : ℕ) → a < length m.words → (list : Saved) × (slot_of m t ≡ Some list) → ((list : Saved) → slot_of m t ≡ Some list → mid ≡ with_slot m t (Some (saving a (slice_index m.words a) list))) → a < length mid.words
saved-in_range m mid t a lt (list, is) saves_it = rw (ap (λ (n : Array). length n.words) (saves_it list is)) lt

-- ---- a word that is saved already

-- a second put to an address saves nothing
pub saved-again : (words : List ℕ) (active : List Bool) (saved : List SavedWord) (table : List (Option ℕ)) (count shadows room t a w : ℕ) (m : Array) (list : Saved) → IsPlain words active saved table count shadows room → array_in words active saved shadows ≡ m → MayOwn m t (page_of a) → (k : ℕ) (e : SavedWord) → k < length saved → get_or saved k e ≡ e → e.address ≡ a → slot_of m t ≡ Some list → m ≡ with_slot m t (Some (saving a w list))
saved-again words active saved table count shadows room t a w m list i view may k e lt is address opened =
    sym (ap (with_slot m t) (ap Some (kept (saves a list) refl found) ∙ sym opened) ∙ same)
  where
    apart : (x y p : ℕ) → IsTrue (owns p (slot_of m x)) → IsTrue (owns p (slot_of m y)) → x ≡ y
    apart = subst (λ (n : Array). (x y p : ℕ) → IsTrue (owns p (slot_of n x)) → IsTrue (owns p (slot_of n y)) → x ≡ y) view i.array.apart

    mark : IsTrue (get_or active e.slot false)
    mark = subst (λ (x : SavedWord). IsTrue (get_or active x.slot false)) is (i.open_slots k e lt)

    member : saves e.address (saved_by e.slot saved) ≡ true
    member = subst (λ (x : SavedWord). saves x.address (saved_by x.slot saved) ≡ true) is (saves-member saved k e lt)

    at_slot : slot_of m e.slot ≡ Some (saved_by e.slot saved)
    at_slot = ap (λ (n : Array). slot_of n e.slot) (sym view) ∙ slot-open words active saved shadows e.slot i.slots mark

    own : IsTrue (owns (page_of a) (slot_of m e.slot))
    own = subst (λ (x : ℕ). IsTrue (owns (page_of x) (slot_of m e.slot))) address (ap (owns (page_of e.address)) at_slot ∙ saves-owns e.address (saved_by e.slot saved) member)

    slot_same : e.slot ≡ t
    slot_same = may_own-only m t (page_of a) e.slot apart may own

    list_is : saved_by e.slot saved ≡ list
    list_is = let e : Some (saved_by e.slot saved) ≡ Some list = sym at_slot ∙ ap (slot_of m) slot_same ∙ opened in cc

    found : saves a list ≡ true
    found = ap (saves a) (sym list_is) ∙ ap (λ (x : ℕ). saves x (saved_by e.slot saved)) (sym address) ∙ member

    kept : (b : Bool) → saves a list ≡ b → b ≡ true → saving a w list ≡ list
    kept true e f = rw e refl
    kept false e f = cc

    same : with_slot m t (slot_of m t) ≡ m
    same = ap (λ (slots : List (Option Saved)). record m { slots = slots }) (set-get_or m.slots t None)

-- ---- look

-- a look sees the word before its slot's first store
pub looks : (words : List ℕ) (active : List Bool) (saved xs : List SavedWord) (table : List (Option ℕ)) (count shadows room a word : ℕ) (m : Array) (o : Option ℕ) → IsPlain words active saved table count shadows room → array_in words active saved shadows ≡ m → xs ≡ saved → a < length m.words → word ≡ slice_index m.words a → MatchOption o (IsUnsaved a xs) (λ w. Any (λ e. (e.address ≡ a) × (e.before ≡ w)) xs) → unwrap_or o word ≡ slice_index (undone m) a
looks words active saved xs table count shadows room a word m None i view same lt is none =
    is ∙ sym (undone-unsaved m a 0 (λ t. ap (λ (n : Array). has a (slot_of n t)) (sym view) ∙ has-unsaved words active saved shadows a t i.slots (subst (IsUnsaved a) same none)))
looks words active saved xs table count shadows room a word m (Some w) i view same lt is found = at (subst (λ (ys : List SavedWord). Any (λ e. (e.address ≡ a) × (e.before ≡ w)) ys) same found)
  where
    at : Any (λ e. (e.address ≡ a) × (e.before ≡ w)) saved → w ≡ slice_index (undone m) a
    at (k, e, in_list, read, (address, before)) = by (subst (λ (x : SavedWord). Contains (saved_by x.slot saved) (x.address, x.before)) read (saved_by-member saved k e in_list))
      where
        opened : slot_of (array_in words active saved shadows) e.slot ≡ Some (saved_by e.slot saved)
        opened = slot-open words active saved shadows e.slot i.slots (subst (λ (x : SavedWord). IsTrue (get_or active x.slot false)) read (i.open_slots k e in_list))

        in_range : e.address < length words
        in_range = subst (λ (x : SavedWord). x.address < length words) read (i.in_range k e in_list)

        by : Contains (saved_by e.slot saved) (e.address, e.before) → w ≡ slice_index (undone m) a
        by (j, in_part, at_j) =
            sym before
            ∙ sym (undone-saved (array_in words active saved shadows) e.slot j e.address e.before 0 (saved_by e.slot saved) i.array.apart (i.array.once e.slot (saved_by e.slot saved) opened) opened in_part at_j in_range)
            ∙ ap (λ (n : Array). slice_index (undone n) e.address) view
            ∙ ap (slice_index (undone m)) address

-- ---- close

-- the pages of saved words have a place in the table of owners
pub pages-in_range : (words : List ℕ) (active : List Bool) (saved xs : List SavedWord) (table ys : List (Option ℕ)) (count shadows room : ℕ) → IsPlain words active saved table count shadows room → xs ≡ saved → ys ≡ table → All (λ e. e.address / 32 < length ys) xs
pages-in_range words active saved xs table ys count shadows room i same table_is k d lt =
    let m : Array = array_in words active saved shadows in
    let long : length ys ≡ pages m = ap length (table_is ∙ i.table) ∙ length-owners m in
    let within = subst (λ (zs : List SavedWord). All (λ e. e.address < length words) zs) (sym same) i.in_range k d lt in
    rw long (page-within m (get_or xs k d).address i.array.whole within)

-- the slot of a list is marked
pub open-marked : (words : List ℕ) (active : List Bool) (saved : List SavedWord) (shadows t : ℕ) (m : Array) → length active ≡ 64 → array_in words active saved shadows ≡ m → (list : Saved) × (slot_of m t ≡ Some list) → get_or active t false ≡ true
open-marked words active saved shadows t m long view (list, is) = (slot-is words active saved shadows t list long (ap (λ (n : Array). slot_of n t) view ∙ is)).0

-- giving back a slot's pages and words closes it
pub closes : (words : List ℕ) (active : List Bool) (saved kept xs : List SavedWord) (table now ys next : List (Option ℕ)) (count shadows room left taken t : ℕ) → get_or active t false ≡ true → xs ≡ saved → ys ≡ table → length now ≡ length ys → taken + count_by is_some now ≡ count_by is_some ys → ((p : ℕ) → get_or now p None ≡ cond (saves_in p (saved_by t xs)) None (get_or ys p None)) → next ≡ now → kept ≡ filter (is_other t) saved → left ≡ room → IsPlain words active saved table count shadows room → IsPlain words (set active t false) kept next (count - taken) shadows left
closes words active saved kept xs table now ys next count shadows room left taken t mark same table_is long sum each next_is kept_is left_is i =
    let closed : IsPlain words (set active t false) (filter (is_other t) saved) now (count - taken) shadows room =
    IsPlain-closed words active saved table now count shadows room taken t mark (long ∙ ap length table_is) (sum ∙ ap (count_by is_some) table_is)
    (λ p. each p ∙ ap (λ (zs : List SavedWord). cond (saves_in p (saved_by t zs)) None (get_or ys p None)) same ∙ ap (λ (zs : List (Option ℕ)). cond (saves_in p (saved_by t saved)) None (get_or zs p None)) table_is) i in
    subst (λ (r : ℕ). IsPlain words (set active t false) kept next (count - taken) shadows r) (sym left_is)
    (subst₂ (λ (zs : List SavedWord) (os : List (Option ℕ)). IsPlain words (set active t false) zs os (count - taken) shadows room) (sym kept_is) (sym next_is) closed)

-- what is left is the array without the slot
pub array-left : (words : List ℕ) (active : List Bool) (saved kept : List SavedWord) (shadows t : ℕ) (m : Array) → length active ≡ 64 → get_or active t false ≡ true → kept ≡ filter (is_other t) saved → array_in words active saved shadows ≡ m → array_in words (set active t false) kept shadows ≡ with_slot m t None
array-left words active saved kept shadows t m long mark kept_is view =
    ap (λ (zs : List SavedWord). array_in words (set active t false) zs shadows) kept_is
    ∙ array-closed words active saved shadows t long (rw (← long) (marked-within active t mark))
    ∙ ap (λ (n : Array). with_slot n t None) view
