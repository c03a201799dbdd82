-- Each command has an answer.
use Rattle.std.proofs.Common.{◌≡◌, ◌≢◌, ◌⊎◌, inl, inr, ℕ, ◌<◌, ◌≤◌, length, [], Option, None, Some, refl}
use Rattle.std.specs.Prelude.{slice_index, position}
use Rattle.std.proofs.lemmas.Bool.{cases_eq, cases_lt}
use Rattle.envy_array.specs.Array.{Array, Saved, page_of, slot_of, owner, owned, is_closed, undone, with_slot, stored, put, aborted}
use Rattle.envy_array.specs.Step.{Command, Answer, Load, Look, Store, Begin, Put, Commit, Abort, Tick, Word, Done, Started, Range, Held, Closed, Full, Busy, Step}

-- nothing, or something
pub option_cases : {T : Type 0} → (x : Option T) → (x ≡ None) ⊎ ((y : T) × (x ≡ Some y))
option_cases None = inl refl
option_cases (Some y) = inr (y, refl)

abbrev Answered : Array → Command → Type 0
Answered m command = (answer : Answer) × (n : Array) × Step m command answer n

answered-put : (m : Array) (t a w : ℕ) → a < length m.words → (saved : Saved) → slot_of m t ≡ Some saved → Answered m (Put t a w)
answered-put m t a w lt saved is = by_owner (option_cases (owner m (page_of a)))
  where
    open_slot : slot_of m t ≢ None
    open_slot e = cc

    by_room : owner m (page_of a) ≡ None → (owned m ≡ m.shadows) ⊎ (owned m ≡ m.shadows → ⊥) → Answered m (Put t a w)
    by_room free (inl full) = (Full, m, (lt, open_slot, free, full, refl))
    by_room free (inr room) = (Done, put m t saved a w, (lt, inr (free, room), saved, is, refl))

    by_slot : (u : ℕ) → owner m (page_of a) ≡ Some u → (u ≡ t) ⊎ (u ≡ t → ⊥) → Answered m (Put t a w)
    by_slot u e (inl same) = (Done, put m t saved a w, (lt, inl (rw (← same) e), saved, is, refl))
    by_slot u e (inr other) = (Held u, m, (lt, open_slot, e, other, refl))

    by_owner : (owner m (page_of a) ≡ None) ⊎ ((u : ℕ) × (owner m (page_of a) ≡ Some u)) → Answered m (Put t a w)
    by_owner (inl free) = by_room free (cases_eq (owned m) m.shadows)
    by_owner (inr (u, e)) = by_slot u e (cases_eq u t)

pub answered : (m : Array) (command : Command) → Answered m command
answered m (Load a) = at (cases_lt a (length m.words))
  where
    at : (a < length m.words) ⊎ (length m.words ≤ a) → Answered m (Load a)
    at (inl lt) = (Word (slice_index m.words a), m, (lt, refl, refl))
    at (inr le) = (Range, m, (le, refl))
answered m (Look a) = at (cases_lt a (length m.words))
  where
    at : (a < length m.words) ⊎ (length m.words ≤ a) → Answered m (Look a)
    at (inl lt) = (Word (slice_index (undone m) a), m, (lt, refl, refl))
    at (inr le) = (Range, m, (le, refl))
answered m (Store a w) = at (cases_lt a (length m.words))
  where
    by_owner : a < length m.words → (owner m (page_of a) ≡ None) ⊎ ((u : ℕ) × (owner m (page_of a) ≡ Some u)) → Answered m (Store a w)
    by_owner lt (inl free) = (Done, stored m a w, (lt, free, refl))
    by_owner lt (inr (u, e)) = (Held u, m, (lt, e, refl))

    at : (a < length m.words) ⊎ (length m.words ≤ a) → Answered m (Store a w)
    at (inl lt) = by_owner lt (option_cases (owner m (page_of a)))
    at (inr le) = (Range, m, (le, refl))
answered m Begin = at (option_cases (position is_closed m.slots))
  where
    at : (position is_closed m.slots ≡ None) ⊎ ((t : ℕ) × (position is_closed m.slots ≡ Some t)) → Answered m Begin
    at (inl none) = (Busy, m, (none, refl))
    at (inr (t, e)) = (Started t, with_slot m t (Some []), (e, refl))
answered m (Put t a w) = at (cases_lt a (length m.words))
  where
    by_slot : a < length m.words → (slot_of m t ≡ None) ⊎ ((saved : Saved) × (slot_of m t ≡ Some saved)) → Answered m (Put t a w)
    by_slot lt (inl none) = (Closed, m, (lt, none, refl))
    by_slot lt (inr (saved, e)) = answered-put m t a w lt saved e

    at : (a < length m.words) ⊎ (length m.words ≤ a) → Answered m (Put t a w)
    at (inl lt) = by_slot lt (option_cases (slot_of m t))
    at (inr le) = (Range, m, (le, refl))
answered m (Commit t) = at (option_cases (slot_of m t))
  where
    at : (slot_of m t ≡ None) ⊎ ((saved : Saved) × (slot_of m t ≡ Some saved)) → Answered m (Commit t)
    at (inl none) = (Closed, m, (none, refl))
    at (inr (saved, e)) = (Done, with_slot m t None, (λ none. cc, refl))
answered m (Abort t) = at (option_cases (slot_of m t))
  where
    at : (slot_of m t ≡ None) ⊎ ((saved : Saved) × (slot_of m t ≡ Some saved)) → Answered m (Abort t)
    at (inl none) = (Closed, m, (none, refl))
    at (inr (saved, e)) = (Done, aborted m t saved, (saved, e, refl))
answered m Tick = (Done, m, refl)
