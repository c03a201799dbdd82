-- Each step, and a failure of power, leaves an array.
use Rattle.std.proofs.Common.{◌≡◌, ◌≢◌, ◌⊎◌, inl, inr, ℕ, zero, suc, ◌+◌, ◌*◌, ◌/◌, ◌<◌, ◌≤◌, true, false, cond, List, [], ◌∷◌, length, get_or, replicate, Option, None, Some, is_some, IsTrue, refl, sym, ◌∙◌, ap, subst, le_trans, arith}
use Rattle.std.specs.Prelude.{◌==◌, position, slice_index}
use Rattle.std.proofs.lemmas.List.{length-set, length-replicate, get_or-replicate, get_or_past}
use Rattle.std.proofs.lemmas.List.Quantifiers.{position-Some}
use Rattle.std.proofs.lemmas.Bool.{cases_lt, cases_Bool, or_parts, eqb-false}
use Rattle.envy_array.specs.Array.{Array, Saved, page_of, pages, slot_of, owns, owner, owned, is_closed, put_back, undone, saving, with_slot, stored, put, restarted, zeros, IsArray}
use Rattle.envy_array.specs.Step.{Command, Answer, Load, Look, Store, Begin, Put, Commit, Abort, Tick, Word, Done, Started, Range, Held, Closed, Full, Busy, MayOwn, Step}
use Rattle.envy_array.proofs.Total.{option_cases}
use Rattle.envy_array.proofs.Owning.{owner-begun, owner-closed, owner-nobody, owned-fewer, owned-none, owned-put, apart-closed, apart-put, slot_cases, slot-within}
use Rattle.envy_array.proofs.Undoing.{AreOnce, saves, length-put_back, length-undone, undo_all-closed}

-- ---- a store

pub IsArray-stored : (m : Array) (a w : ℕ) → IsArray m → IsArray (stored m a w)
IsArray-stored m a w i = record {
  whole = let e = length-set m.words a w in let whole = i.whole in omega arith;
  slots = i.slots;
  once = i.once;
  apart = i.apart;
  few = le_trans (owned-fewer m (stored m a w) (ap (λ (k : ℕ). k / 32) (length-set m.words a w)) (λ p is. is)) i.few;
}

-- ---- the lowest closed slot opens

pub first-closed : (m : Array) (t : ℕ) → position is_closed m.slots ≡ Some t → (t < length m.slots) × (slot_of m t ≡ None)
first-closed m t e = let found = position-Some is_closed m.slots t None e in (found.0, at (slot_of m t) found.1)
  where
    at : (slot : Option Saved) → is_closed slot ≡ true → slot ≡ None
    at None is = refl
    at (Some saved) is = cc

pub IsArray-begun : (m : Array) (t : ℕ) → t < length m.slots → slot_of m t ≡ None → IsArray m → IsArray (with_slot m t (Some []))
IsArray-begun m t lt closed i = record {
  whole = i.whole;
  slots = length-set m.slots t (Some []) ∙ i.slots;
  once = λ u saved is. once u saved is (slot_cases m t u (Some []) lt);
  apart = λ u v p own too. i.apart u v p (was u p own) (was v p too);
  few = le_trans (owned-fewer m (with_slot m t (Some [])) refl (λ p is. ap is_some (sym (owner-begun m t p closed)) ∙ is)) i.few;
}
  where
    once : (u : ℕ) (saved : Saved) → slot_of (with_slot m t (Some [])) u ≡ Some saved → ((u ≡ t) × (slot_of (with_slot m t (Some [])) u ≡ Some [])) ⊎ ((u ≢ t) × (slot_of (with_slot m t (Some [])) u ≡ slot_of m u)) → AreOnce saved
    once u saved is (inl (same, new)) = let none : [] ≡ saved = cc in subst AreOnce none (λ x y d l k. absurd (omega arith))
    once u saved is (inr (other, old)) = i.once u saved (sym old ∙ is)

    was : (u p : ℕ) → IsTrue (owns p (slot_of (with_slot m t (Some [])) u)) → IsTrue (owns p (slot_of m u))
    was u p own = at (slot_cases m t u (Some []) lt)
      where
        at : ((u ≡ t) × (slot_of (with_slot m t (Some [])) u ≡ Some [])) ⊎ ((u ≢ t) × (slot_of (with_slot m t (Some [])) u ≡ slot_of m u)) → IsTrue (owns p (slot_of m u))
        at (inl (same, new)) = let no : owns p (Some []) ≡ true = rw new at own in cc
        at (inr (other, old)) = rw old at own

-- ---- a slot closes, and words change

pub IsArray-closed : (m : Array) (t : ℕ) (words : List ℕ) → t < length m.slots → length words ≡ length m.words → IsArray m → IsArray (with_slot (record m { words = words }) t None)
IsArray-closed m t words lt long i = record {
  whole = let whole = i.whole in omega arith;
  slots = length-set m.slots t None ∙ i.slots;
  once = λ u saved is. once u saved is (slot_cases m t u None lt);
  apart = apart-closed m t lt i.apart;
  few = le_trans (owned-fewer m (with_slot (record m { words = words }) t None) (ap (λ (k : ℕ). k / 32) long) fewer) i.few;
}
  where
    once : (u : ℕ) (saved : Saved) → slot_of (with_slot m t None) u ≡ Some saved → ((u ≡ t) × (slot_of (with_slot m t None) u ≡ None)) ⊎ ((u ≢ t) × (slot_of (with_slot m t None) u ≡ slot_of m u)) → AreOnce saved
    once u saved is (inl (same, new)) = cc
    once u saved is (inr (other, old)) = i.once u saved (sym old ∙ is)

    fewer : (p : ℕ) → is_some (owner (with_slot m t None) p) ≡ true → is_some (owner m p) ≡ true
    fewer p is = at (cases_Bool (owns p (slot_of m t)))
      where
        at : (owns p (slot_of m t) ≡ true) ⊎ (owns p (slot_of m t) ≡ false) → is_some (owner m p) ≡ true
        at (inl own) = let no : false ≡ true = rw (owner-closed m t p lt i.apart, own) at is in cc
        at (inr none) = rw (owner-closed m t p lt i.apart, none) at is

-- ---- a slot stores a word

saving-once : (a before : ℕ) (saved : Saved) → AreOnce saved → AreOnce (saving a before saved)
saving-once a before saved once = at (cases_Bool (saves a saved))
  where
    nowhere : (xs : Saved) (k : ℕ) (d : ℕ × ℕ) → saves a xs ≡ false → k < length xs → a ≢ (get_or xs k d).0
    nowhere [] k d none lt same = absurd (omega arith)
    nowhere (x ∷ xs) zero d none lt same = eqb-false x.0 a (or_parts (x.0 == a) (saves a xs) none).0 (sym same)
    nowhere (x ∷ xs) (suc k) d none lt same = nowhere xs k d (or_parts (x.0 == a) (saves a xs) none).1 (omega arith) same

    joined : saves a saved ≡ false → AreOnce ((a, before) ∷ saved)
    joined none zero zero d lt l = absurd (omega arith)
    joined none zero (suc j) d lt l = nowhere saved j d none (omega arith)
    joined none (suc k) zero d lt l = absurd (omega arith)
    joined none (suc k) (suc j) d lt l = once k j d (omega arith) (omega arith)

    at : (saves a saved ≡ true) ⊎ (saves a saved ≡ false) → AreOnce (saving a before saved)
    at (inl found) = rw found once
    at (inr none) = rw none (joined none)

pub IsArray-put : (m : Array) (t a w : ℕ) (saved : Saved) → a < length m.words → MayOwn m t (page_of a) → slot_of m t ≡ Some saved → IsArray m → IsArray (put m t saved a w)
IsArray-put m t a w saved lt may is i = record {
  whole = let e = length-set m.words a w in let whole = i.whole in omega arith;
  slots = length-set m.slots t (Some (saving a (slice_index m.words a) saved)) ∙ i.slots;
  once = λ u list e. once u list e (slot_cases m t u (Some (saving a (slice_index m.words a) saved)) (slot-within m t saved is));
  apart = apart-put m t a w saved is may i.apart;
  few = few may (owned-put m t a w saved i.whole i.apart lt is may);
}
  where
    once : (u : ℕ) (list : Saved) → slot_of (put m t saved a w) u ≡ Some list → ((u ≡ t) × (slot_of (put m t saved a w) u ≡ Some (saving a (slice_index m.words a) saved))) ⊎ ((u ≢ t) × (slot_of (put m t saved a w) u ≡ slot_of m u)) → AreOnce list
    once u list e (inl (same, new)) = let it : saving a (slice_index m.words a) saved ≡ list = cc in subst AreOnce it (saving-once a (slice_index m.words a) saved (i.once t saved is))
    once u list e (inr (other, old)) = i.once u list (sym old ∙ e)

    few : MayOwn m t (page_of a) → owned (put m t saved a w) + cond (is_some (owner m (page_of a))) 1 0 ≡ owned m + 1 → owned (put m t saved a w) ≤ m.shadows
    few (inl mine) e = let sum : owned (put m t saved a w) + 1 ≡ owned m + 1 = rw mine at e in let few = i.few in omega arith
    few (inr (free, room)) e = let sum : owned (put m t saved a w) + 0 ≡ owned m + 1 = rw free at e in let few = i.few in omega arith

-- ---- every step

pub step-keeps : (m n : Array) (command : Command) (answer : Answer) → IsArray m → Step m command answer n → IsArray n
step-keeps m n (Load a) (Word w) i (lt, is, same) = subst IsArray (sym same) i
step-keeps m n (Load a) Range i (le, same) = subst IsArray (sym same) i
step-keeps m n (Look a) (Word w) i (lt, is, same) = subst IsArray (sym same) i
step-keeps m n (Look a) Range i (le, same) = subst IsArray (sym same) i
step-keeps m n (Store a w) Range i (le, same) = subst IsArray (sym same) i
step-keeps m n (Store a w) (Held u) i (lt, is, same) = subst IsArray (sym same) i
step-keeps m n (Store a w) Done i (lt, free, same) = subst IsArray (sym same) (IsArray-stored m a w i)
step-keeps m n Begin Busy i (none, same) = subst IsArray (sym same) i
step-keeps m n Begin (Started t) i (first, same) = let found = first-closed m t first in subst IsArray (sym same) (IsArray-begun m t found.0 found.1 i)
step-keeps m n (Put t a w) Range i (le, same) = subst IsArray (sym same) i
step-keeps m n (Put t a w) Closed i (lt, closed, same) = subst IsArray (sym same) i
step-keeps m n (Put t a w) (Held u) i (lt, is_open, is, other, same) = subst IsArray (sym same) i
step-keeps m n (Put t a w) Full i (lt, is_open, free, full, same) = subst IsArray (sym same) i
step-keeps m n (Put t a w) Done i (lt, may, saved, is, same) = subst IsArray (sym same) (IsArray-put m t a w saved lt may is i)
step-keeps m n (Commit t) Closed i (closed, same) = subst IsArray (sym same) i
step-keeps m n (Commit t) Done i (is_open, same) = subst IsArray (sym same) (closes (option_cases (slot_of m t)))
  where
    closes : (slot_of m t ≡ None) ⊎ ((saved : Saved) × (slot_of m t ≡ Some saved)) → IsArray (with_slot m t None)
    closes (inl closed) = absurd (is_open closed)
    closes (inr (saved, is)) = IsArray-closed m t m.words (slot-within m t saved is) refl i
step-keeps m n (Abort t) Closed i (closed, same) = subst IsArray (sym same) i
step-keeps m n (Abort t) Done i (saved, is, same) = subst IsArray (sym same) (IsArray-closed m t (put_back saved m.words) (slot-within m t saved is) (length-put_back saved m.words) i)
step-keeps m n Tick Done i same = subst IsArray (sym same) i
step-keeps m n command answer i never = absurd never

-- ---- no slot open

closed-none : (n t : ℕ) → get_or {A = Option Saved} (replicate n None) t None ≡ None
closed-none n t = at (cases_lt t n)
  where
    at : (t < n) ⊎ (n ≤ t) → get_or {A = Option Saved} (replicate n None) t None ≡ None
    at (inl lt) = get_or-replicate n t None None lt
    at (inr le) = get_or_past (replicate n None) t None (rw length-replicate le)

IsArray-without : (m : Array) (n : ℕ) → m.slots ≡ replicate n None → n ≡ 64 → length m.words ≡ 32 * pages m → IsArray m
IsArray-without m n is long whole = record {
  whole = whole;
  slots = rw is (length-replicate n None ∙ long);
  once = λ t saved e. let none = closed t in cc;
  apart = λ t u p own too. let no : owns p None ≡ true = rw (closed t) at own in cc;
  few = let none = owned-none m (λ p. owner-nobody m p (λ t. ap (owns p) (closed t))) in omega arith;
}
  where
    closed : (t : ℕ) → slot_of m t ≡ None
    closed t = ap (λ (slots : List (Option Saved)). get_or slots t None) is ∙ closed-none n t

pub IsArray-restarted : (m : Array) → IsArray m → IsArray (restarted m)
IsArray-restarted m i = IsArray-without (restarted m) 64 refl refl (let e = length-undone m in let whole = i.whole in omega arith)

pub undone-restarted : (m : Array) → undone (restarted m) ≡ undone m
undone-restarted m = undo_all-closed 64 (undone m)

pub IsArray-zeros : (count shadows : ℕ) → IsArray (zeros count shadows)
IsArray-zeros count shadows = IsArray-without (zeros count shadows) 64 refl refl (let e : length (zeros count shadows).words ≡ 32 * count = length-replicate (32 * count) 0 in omega arith)
