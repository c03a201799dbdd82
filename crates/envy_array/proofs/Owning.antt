-- Which slot owns a page, and how many pages are owned, after each change of the slots.
use Rattle.std.proofs.Common.{◌≡◌, ◌≢◌, ◌⊎◌, inl, inr, ℕ, ◌+◌, ◌*◌, ◌/◌, ◌<◌, ◌≤◌, Bool, true, false, cond, ◌||◌, ltb, List, [], ◌∷◌, length, get_or, set, map, Option, None, Some, is_some, IsTrue, refl, sym, ◌∙◌, ap, subst, zero-add, arith}
use Rattle.std.specs.Prelude.{◌==◌, count_by, position, slice_index}
use Rattle.std.specs.List.{list_any, range_with_len, position_or_len}
use Rattle.std.proofs.lemmas.List.{get_or-set_same, get_or-set_other, length-set, get_or_past, ext_get_or}
use Rattle.std.proofs.lemmas.List.FromFn.{get_or-map-range_with_len, length-map-range_with_len}
use Rattle.std.proofs.lemmas.List.Folds.{fold-map, position_or_len-set}
use Rattle.std.proofs.lemmas.List.Quantifiers.{position-Some}
use Rattle.std.proofs.lemmas.List.Sums.{sum_by-cons, sum_by-set, sum_by-le-sum_by, fails_before_first, position_or_len_is}
use Rattle.std.proofs.lemmas.Bool.{cases_eq, cases_lt, cases_Bool, or_cases, or_left, or_right, eqb-true, eq-eqb, ne_eqb, lt-ltb, le-ltb, ltb-false}
use Rattle.envy_array.specs.Array.{Array, Saved, page_of, pages, slot_of, saves_in, owns, owner, owned, saving, with_slot, stored, put}
use Rattle.envy_array.specs.Step.{MayOwn}

-- ---- first places

pub position-None : {X : Type 0} (p : X → Bool) (xs : List X) → position p xs ≡ None → (k : ℕ) (d : X) → k < length xs → p (get_or xs k d) ≡ false
position-None p xs none k d lt = at (cases_Bool (ltb (position_or_len p xs) (length xs)))
  where
    at : (ltb (position_or_len p xs) (length xs) ≡ true) ⊎ (ltb (position_or_len p xs) (length xs) ≡ false) → p (get_or xs k d) ≡ false
    at (inl found) = let clash : cond true (Some (position_or_len p xs)) None ≡ None = rw found at none in cc
    at (inr past) = let le = ltb-false (position_or_len p xs) (length xs) past in fails_before_first p xs k d (omega arith)

pub position-first : {X : Type 0} (p : X → Bool) (xs : List X) (i : ℕ) (d : X) → i < length xs → p (get_or xs i d) ≡ true → ((k : ℕ) → k < i → p (get_or xs k d) ≡ false) → position p xs ≡ Some i
position-first p xs i d lt passes before =
    let e : position_or_len p xs ≡ i = position_or_len_is p xs i d (omega arith) before (λ _. passes) in
    rw (e, lt-ltb i (length xs) lt) refl

pub position-nowhere : {X : Type 0} (p : X → Bool) (xs : List X) (d : X) → ((k : ℕ) → k < length xs → p (get_or xs k d) ≡ false) → position p xs ≡ None
position-nowhere p xs d none =
    let e : position_or_len p xs ≡ length xs = position_or_len_is p xs (length xs) d (omega arith) none (λ l. absurd (omega arith)) in
    rw (e, le-ltb (length xs) (length xs) (omega arith)) refl

-- an element that passes as the one before it does
pub position-set : {X : Type 0} (p : X → Bool) (xs : List X) (i : ℕ) (y d : X) → p y ≡ p (get_or xs i d) → position p (set xs i y) ≡ position p xs
position-set p xs i y d same = rw (position_or_len-set p xs i y d same, length-set xs i y) refl

-- ---- the owner of a page

pub owner-Some : (m : Array) (p t : ℕ) → owner m p ≡ Some t → (t < length m.slots) × IsTrue (owns p (slot_of m t))
owner-Some m p t e = let found = position-Some (owns p) m.slots t None e in (found.0, found.1)

pub owner-None : (m : Array) (p : ℕ) → owner m p ≡ None → (t : ℕ) → owns p (slot_of m t) ≡ false
owner-None m p e t = at (cases_lt t (length m.slots))
  where
    at : (t < length m.slots) ⊎ (length m.slots ≤ t) → owns p (slot_of m t) ≡ false
    at (inl lt) = position-None (owns p) m.slots e t None lt
    at (inr le) = rw (get_or_past m.slots t None le) refl

-- at most one slot owns each page
abbrev pub AreApart : Array → Type 0
AreApart m = (t u p : ℕ) → IsTrue (owns p (slot_of m t)) → IsTrue (owns p (slot_of m u)) → t ≡ u

pub owner-is : (m : Array) → AreApart m → (p t : ℕ) → IsTrue (owns p (slot_of m t)) → owner m p ≡ Some t
owner-is m apart p t own = position-first (owns p) m.slots t None within own before
  where
    within : t < length m.slots
    within = at (cases_lt t (length m.slots))
      where
        at : (t < length m.slots) ⊎ (length m.slots ≤ t) → t < length m.slots
        at (inl lt) = lt
        at (inr le) = let no : owns p None ≡ true = rw (get_or_past m.slots t None le) at own in cc

    before : (k : ℕ) → k < t → owns p (slot_of m k) ≡ false
    before k lt = at (cases_Bool (owns p (slot_of m k)))
      where
        at : (owns p (slot_of m k) ≡ true) ⊎ (owns p (slot_of m k) ≡ false) → owns p (slot_of m k) ≡ false
        at (inl too) = let e = apart k t p too own in absurd (omega arith)
        at (inr not_it) = not_it

pub owner-nobody : (m : Array) (p : ℕ) → ((t : ℕ) → owns p (slot_of m t) ≡ false) → owner m p ≡ None
owner-nobody m p none = position-nowhere (owns p) m.slots None (λ k lt. none k)

-- ---- the owners of all pages, and how many there are

abbrev pub owners : Array → List (Option ℕ)
owners m = map (owner m) (range_with_len 0 (pages m))

pub length-owners : (m : Array) → length (owners m) ≡ pages m
length-owners m = length-map-range_with_len (owner m) 0 (pages m)

pub owners-at : (m : Array) (p : ℕ) → p < pages m → get_or (owners m) p None ≡ owner m p
owners-at m p lt = get_or-map-range_with_len (owner m) 0 (pages m) p p None lt (omega arith)

pub owned-counts : (m : Array) → owned m ≡ count_by is_some (owners m)
owned-counts m = sym (fold-map (λ (a : ℕ) (x : Option ℕ). a + cond (is_some x) 1 0) (owner m) 0 (range_with_len 0 (pages m)))

pub count_by-le : {X : Type 0} (p q : X → Bool) → ((x : X) → p x ≡ true → q x ≡ true) → (xs : List X) → count_by p xs ≤ count_by q xs
count_by-le {X} p q implies xs = sum_by-le-sum_by (λ (x : X). cond (p x) 1 0) (λ (x : X). cond (q x) 1 0) xs (λ x. at (p x) (q x) (implies x))
  where
    at : (b c : Bool) → (b ≡ true → c ≡ true) → cond b 1 0 ≤ cond c 1 0
    at true true i = omega arith
    at true false i = let e = i refl in cc
    at false true i = omega arith
    at false false i = omega arith

pub count_by-none : {X : Type 0} (p : X → Bool) → ((x : X) → p x ≡ false) → (xs : List X) → count_by p xs ≡ 0
count_by-none p none [] = refl
count_by-none {X} p none (x ∷ xs) = sum_by-cons (λ (y : X). cond (p y) 1 0) x xs ∙ ap (λ (b : Bool). cond b 1 0 + count_by p xs) (none x) ∙ zero-add (count_by p xs) ∙ count_by-none p none xs

-- where fewer pages are owned than before, no more are counted
pub owned-fewer : (m n : Array) → pages n ≡ pages m → ((p : ℕ) → is_some (owner n p) ≡ true → is_some (owner m p) ≡ true) → owned n ≤ owned m
owned-fewer m n same fewer = subst (λ (k : ℕ). count_by (λ p. is_some (owner n p)) (range_with_len 0 k) ≤ owned m) (sym same) (count_by-le (λ p. is_some (owner n p)) (λ p. is_some (owner m p)) fewer (range_with_len 0 (pages m)))

pub owned-none : (m : Array) → ((p : ℕ) → owner m p ≡ None) → owned m ≡ 0
owned-none m none = count_by-none (λ p. is_some (owner m p)) (λ p. ap is_some (none p)) (range_with_len 0 (pages m))

-- ---- the slots after a change of one

pub slot_cases : (m : Array) (t u : ℕ) (slot : Option Saved) → t < length m.slots → ((u ≡ t) × (slot_of (with_slot m t slot) u ≡ slot)) ⊎ ((u ≢ t) × (slot_of (with_slot m t slot) u ≡ slot_of m u))
slot_cases m t u slot lt = at (cases_eq u t)
  where
    at : (u ≡ t) ⊎ (u ≡ t → ⊥) → ((u ≡ t) × (slot_of (with_slot m t slot) u ≡ slot)) ⊎ ((u ≢ t) × (slot_of (with_slot m t slot) u ≡ slot_of m u))
    at (inl same) = inl (same, subst (λ (x : ℕ). get_or (set m.slots t slot) x None ≡ slot) (sym same) (get_or-set_same m.slots t slot None lt))
    at (inr other) = inr (other, get_or-set_other m.slots t u slot None other)

-- a slot that is open stands in the list
pub slot-within : (m : Array) (t : ℕ) (saved : Saved) → slot_of m t ≡ Some saved → t < length m.slots
slot-within m t saved is = at (cases_lt t (length m.slots))
  where
    at : (t < length m.slots) ⊎ (length m.slots ≤ t) → t < length m.slots
    at (inl lt) = lt
    at (inr le) = let no : None ≡ Some saved = rw (get_or_past m.slots t None le) at is in cc

-- a slot that owns the same pages as before
pub owner-alike : (m : Array) (t p : ℕ) (slot : Option Saved) → owns p slot ≡ owns p (slot_of m t) → owner (with_slot m t slot) p ≡ owner m p
owner-alike m t p slot same = position-set (owns p) m.slots t slot None same

-- ---- a slot opens

pub owner-begun : (m : Array) (t p : ℕ) → slot_of m t ≡ None → owner (with_slot m t (Some [])) p ≡ owner m p
owner-begun m t p closed = owner-alike m t p (Some []) (rw closed refl)

-- ---- a slot closes

pub apart-closed : (m : Array) (t : ℕ) → t < length m.slots → AreApart m → AreApart (with_slot m t None)
apart-closed m t lt apart u v p own too = apart u v p (was u own) (was v too)
  where
    was : (w : ℕ) → IsTrue (owns p (slot_of (with_slot m t None) w)) → IsTrue (owns p (slot_of m w))
    was w own = at (slot_cases m t w None lt)
      where
        at : ((w ≡ t) × (slot_of (with_slot m t None) w ≡ None)) ⊎ ((w ≢ t) × (slot_of (with_slot m t None) w ≡ slot_of m w)) → IsTrue (owns p (slot_of m w))
        at (inl (same, is)) = let no : owns p None ≡ true = rw is at own in cc
        at (inr (other, is)) = rw is at own

-- the pages of the slot have no owner then, and the others have the one that they had
pub owner-closed : (m : Array) (t p : ℕ) → t < length m.slots → AreApart m → owner (with_slot m t None) p ≡ cond (owns p (slot_of m t)) None (owner m p)
owner-closed m t p lt apart = at (cases_Bool (owns p (slot_of m t)))
  where
    at : (owns p (slot_of m t) ≡ true) ⊎ (owns p (slot_of m t) ≡ false) → owner (with_slot m t None) p ≡ cond (owns p (slot_of m t)) None (owner m p)
    at (inl own) = rw own (owner-nobody (with_slot m t None) p none)
      where
        none : (u : ℕ) → owns p (slot_of (with_slot m t None) u) ≡ false
        none u = by (slot_cases m t u None lt)
          where
            by : ((u ≡ t) × (slot_of (with_slot m t None) u ≡ None)) ⊎ ((u ≢ t) × (slot_of (with_slot m t None) u ≡ slot_of m u)) → owns p (slot_of (with_slot m t None) u) ≡ false
            by (inl (same, is)) = rw is refl
            by (inr (other, is)) = rw is (either (cases_Bool (owns p (slot_of m u))))
              where
                either : (owns p (slot_of m u) ≡ true) ⊎ (owns p (slot_of m u) ≡ false) → owns p (slot_of m u) ≡ false
                either (inl too) = absurd (other (apart u t p too own))
                either (inr not_it) = not_it
    at (inr not_it) = rw not_it (owner-alike m t p None (sym not_it))

-- ---- a slot stores a word

pub saves_in-saving : (p a before : ℕ) (saved : Saved) → saves_in p (saving a before saved) ≡ ((page_of a == p) || saves_in p saved)
saves_in-saving p a before saved = at (list_any (λ (e : ℕ × ℕ). e.0 == a) saved) refl
  where
    at : (b : Bool) → list_any (λ (e : ℕ × ℕ). e.0 == a) saved ≡ b → saves_in p (saving a before saved) ≡ ((page_of a == p) || saves_in p saved)
    at true is = rw is (sym (absorbed (page_of a == p) (saves_in p saved) (λ here. there p a saved here is)))
      where
        absorbed : (x y : Bool) → (x ≡ true → y ≡ true) → (x || y) ≡ y
        absorbed true y i = sym (i refl)
        absorbed false y i = refl

        there : (p a : ℕ) (saved : Saved) → (page_of a == p) ≡ true → list_any (λ (e : ℕ × ℕ). e.0 == a) saved ≡ true → saves_in p saved ≡ true
        there p a [] here found = found
        there p a (e ∷ rest) here found = by (or_cases (e.0 == a) (list_any (λ (e : ℕ × ℕ). e.0 == a) rest) found) (λ f. there p a rest here f)
          where
            by : ((e.0 == a) ≡ true) ⊎ (list_any (λ (e : ℕ × ℕ). e.0 == a) rest ≡ true) → (list_any (λ (e : ℕ × ℕ). e.0 == a) rest ≡ true → saves_in p rest ≡ true) → saves_in p (e ∷ rest) ≡ true
            by (inl same) more = or_left (page_of e.0 == p) (saves_in p rest) (rw (eqb-true e.0 a same) here)
            by (inr later) more = or_right (page_of e.0 == p) (saves_in p rest) (more later)
    at false is = rw is refl

-- what a slot has after it stored a word
abbrev after_put : Array → ℕ → Saved → ℕ → Option Saved
after_put m a saved t = Some (saving a (slice_index m.words a) saved)

owns-put : (m : Array) (t p a w u : ℕ) (saved : Saved) → slot_of m t ≡ Some saved → IsTrue (owns p (slot_of (put m t saved a w) u)) → IsTrue (owns p (slot_of m u)) ⊎ ((u ≡ t) × (p ≡ page_of a))
owns-put m t p a w u saved is own = at (slot_cases m t u (after_put m a saved t) (slot-within m t saved is))
  where
    at : ((u ≡ t) × (slot_of (put m t saved a w) u ≡ after_put m a saved t)) ⊎ ((u ≢ t) × (slot_of (put m t saved a w) u ≡ slot_of m u)) → IsTrue (owns p (slot_of m u)) ⊎ ((u ≡ t) × (p ≡ page_of a))
    at (inr (other, same)) = inl (rw same at own)
    at (inl (here, new)) =
        let saves : saves_in p (saving a (slice_index m.words a) saved) ≡ true = rw new at own in
        by (or_cases (page_of a == p) (saves_in p saved) (sym (saves_in-saving p a (slice_index m.words a) saved) ∙ saves))
      where
        by : ((page_of a == p) ≡ true) ⊎ (saves_in p saved ≡ true) → IsTrue (owns p (slot_of m u)) ⊎ ((u ≡ t) × (p ≡ page_of a))
        by (inl page) = inr (here, sym (eqb-true (page_of a) p page))
        by (inr old) = inl (rw (here, is) old)

-- a slot keeps what it owns where it stores a word, and owns the word's page
owns-after : (m : Array) (t p a w : ℕ) (saved : Saved) → slot_of m t ≡ Some saved → owns p (slot_of (put m t saved a w) t) ≡ ((page_of a == p) || owns p (slot_of m t))
owns-after m t p a w saved is =
    let e : slot_of (put m t saved a w) t ≡ after_put m a saved t = get_or-set_same m.slots t (after_put m a saved t) None (slot-within m t saved is) in
    rw (e, is) (saves_in-saving p a (slice_index m.words a) saved)

-- who may own the page is the only one that does
pub may_own-only : (m : Array) (t p u : ℕ) → AreApart m → MayOwn m t p → IsTrue (owns p (slot_of m u)) → u ≡ t
may_own-only m t p u apart (inl mine) own = apart u t p own (owner-Some m p t mine).1
may_own-only m t p u apart (inr (free, room)) own = let no = owner-None m p free u in cc

pub apart-put : (m : Array) (t a w : ℕ) (saved : Saved) → slot_of m t ≡ Some saved → MayOwn m t (page_of a) → AreApart m → AreApart (put m t saved a w)
apart-put m t a w saved is may apart u v p own too = at (owns-put m t p a w u saved is own) (owns-put m t p a w v saved is too)
  where
    at : IsTrue (owns p (slot_of m u)) ⊎ ((u ≡ t) × (p ≡ page_of a)) → IsTrue (owns p (slot_of m v)) ⊎ ((v ≡ t) × (p ≡ page_of a)) → u ≡ v
    at (inl old) (inl old_too) = apart u v p old old_too
    at (inl old) (inr (there, page)) = may_own-only m t (page_of a) u apart may (subst (λ (x : ℕ). IsTrue (owns x (slot_of m u))) page old) ∙ sym there
    at (inr (here, page)) (inl old) = here ∙ sym (may_own-only m t (page_of a) v apart may (subst (λ (x : ℕ). IsTrue (owns x (slot_of m v))) page old))
    at (inr (here, page)) (inr (there, again)) = here ∙ sym there

-- the word's page is the slot's then
pub owner-put_here : (m : Array) (t a w : ℕ) (saved : Saved) → slot_of m t ≡ Some saved → MayOwn m t (page_of a) → AreApart m → owner (put m t saved a w) (page_of a) ≡ Some t
owner-put_here m t a w saved is may apart =
    owner-is (put m t saved a w) (apart-put m t a w saved is may apart) (page_of a) t (owns-after m t (page_of a) a w saved is ∙ or_left (page_of a == page_of a) (owns (page_of a) (slot_of m t)) (eq-eqb (page_of a) (page_of a) refl))

-- and every other page has the owner that it had
pub owner-put_there : (m : Array) (t p a w : ℕ) (saved : Saved) → slot_of m t ≡ Some saved → p ≢ page_of a → owner (put m t saved a w) p ≡ owner m p
owner-put_there m t p a w saved is other =
    position-set (owns p) m.slots t (after_put m a saved t) None (saves_in-saving p a (slice_index m.words a) saved ∙ ap (λ (b : Bool). b || saves_in p saved) (ne_eqb (page_of a) p (λ e. other (sym e))) ∙ ap (owns p) (sym is))

-- ---- all pages at once

-- an array of as many pages has the same owners where each page has
pub owners-same : (m n : Array) → pages n ≡ pages m → ((p : ℕ) → p < pages m → owner n p ≡ owner m p) → owners n ≡ owners m
owners-same m n same each =
    ext_get_or None (owners n) (owners m) (length-owners n ∙ same ∙ sym (length-owners m))
    (λ p lt. let within : p < pages n = rw (← length-owners n) lt in let here : p < pages m = rw (← same) within in owners-at n p within ∙ each p here ∙ sym (owners-at m p here))

pub pages-stored : (m : Array) (a w : ℕ) → pages (stored m a w) ≡ pages m
pages-stored m a w = ap (λ (k : ℕ). k / 32) (length-set m.words a w)

pub page-within : (m : Array) (a : ℕ) → length m.words ≡ 32 * pages m → a < length m.words → page_of a < pages m
page-within m a whole lt = omega arith

pub owners-put : (m : Array) (t a w : ℕ) (saved : Saved) → length m.words ≡ 32 * pages m → AreApart m → a < length m.words → slot_of m t ≡ Some saved → MayOwn m t (page_of a) → owners (put m t saved a w) ≡ set (owners m) (page_of a) (Some t)
owners-put m t a w saved whole apart lt is may =
    ext_get_or None (owners n) (set (owners m) (page_of a) (Some t)) (length-owners n ∙ same ∙ sym (length-set (owners m) (page_of a) (Some t) ∙ length-owners m)) each
  where
    n : Array
    n = put m t saved a w

    same : pages n ≡ pages m
    same = pages-stored m a w

    each : (p : ℕ) → p < length (owners n) → get_or (owners n) p None ≡ get_or (set (owners m) (page_of a) (Some t)) p None
    each p in_n = let in_pages : p < pages n = rw (← length-owners n) in_n in let here : p < pages m = rw (← same) in_pages in owners-at n p in_pages ∙ at here (cases_eq p (page_of a))
      where
        at : p < pages m → (p ≡ page_of a) ⊎ (p ≡ page_of a → ⊥) → owner n p ≡ get_or (set (owners m) (page_of a) (Some t)) p None
        at here (inl it) =
            let room : page_of a < length (owners m) = rw (length-owners m, ← it) here in
            ap (owner n) it ∙ owner-put_here m t a w saved is may apart ∙ sym (ap (λ (x : ℕ). get_or (set (owners m) (page_of a) (Some t)) x None) it ∙ get_or-set_same (owners m) (page_of a) (Some t) None room)
        at here (inr other) = owner-put_there m t p a w saved is other ∙ sym (get_or-set_other (owners m) (page_of a) p (Some t) None other ∙ owners-at m p here)

-- the pages that are owned are as many, or one more
pub owned-put : (m : Array) (t a w : ℕ) (saved : Saved) → length m.words ≡ 32 * pages m → AreApart m → a < length m.words → slot_of m t ≡ Some saved → MayOwn m t (page_of a) → owned (put m t saved a w) + cond (is_some (owner m (page_of a))) 1 0 ≡ owned m + 1
owned-put m t a w saved whole apart lt is may =
    let room : page_of a < length (owners m) = rw (length-owners m) (page-within m a whole lt) in
    let sums = sum_by-set (λ (o : Option ℕ). cond (is_some o) 1 0) (owners m) (page_of a) (Some t) None room in
    let now : owned (put m t saved a w) ≡ count_by is_some (set (owners m) (page_of a) (Some t)) = owned-counts (put m t saved a w) ∙ ap (count_by is_some) (owners-put m t a w saved whole apart lt is may) in
    let before = owned-counts m in
    let at : get_or (owners m) (page_of a) None ≡ owner m (page_of a) = owners-at m (page_of a) (page-within m a whole lt) in
    rw (now, ← at, before) sums
