-- What a board stands for after a slot was opened, committed or aborted.
use Rattle.std.proofs.Common.{◌≡◌, ◌≢◌, ◌⊎◌, inl, inr, Bool, false, cond, ℕ, ◌*◌, ◌/◌, ◌<◌, ◌≤◌, List, [], length, get_or, set, Option, None, Some, refl, sym, ◌∙◌, ap, subst, arith}
use Rattle.std.specs.Prelude.{IsTrue, position}
use Rattle.std.proofs.lemmas.Bool.{cases_eq, cases_lt, false_from_ne_true}
use Rattle.std.proofs.lemmas.List.{get_or-set_same, get_or-set_other, get_or_past, ext_get_or}
use Rattle.envy_base.specs.Shape.{version_of}
use Rattle.envy_array.specs.Array.{Array, Saved, IsArray, slot_of, owner, owns, is_closed, with_slot as array_with, put_back, undone, aborted, restarted}
use Rattle.envy_array.specs.Step.{Begin, Commit, Abort, Started, Done, Accepts}
use Rattle.envy_base.specs.declared.fields.Slot.{Slot}
use Rattle.envy_base.specs.declared.fields.Slot.TheVariants.{Active, Vacant}
use Rattle.envy_base.specs.declared.shape.Shape.{Shape}
use Rattle.envy_array.proofs.Keeping.{IsArray-begun, IsArray-closed}
use Rattle.envy_array.proofs.Owning.{owner-Some, owner-is, owner-begun, owner-closed, position-first, position-nowhere}
use Rattle.envy_array.proofs.Undoing.{has, undone-begun, undone-aborted, undone-unowned, undone-committed, put_back-unsaved, has-unowned, length-put_back, length-undone}
use Rattle.envy_map.specs.Fields.{Chart, with_fields, slot, undo}
use Rattle.envy_map.specs.Writes.{with_slot}
use Rattle.envy_soundness.specs.Same.{SameWords, SameDurable, Commits}
use Rattle.envy_soundness.specs.Sound.{slot_named}
use Rattle.envy_meaning.specs.Stands.{Holds, Stands, Steps, IsLost, slot_word}
use Rattle.envy_meaning.specs.Transactions.{Closes, TakesBack}
use Rattle.envy_soundness.specs.Words.{live, durable}
use Rattle.envy_soundness.proofs.Composition.{SameDurable-words}
use Rattle.envy_soundness.proofs.SlotLaw.{names-slot}
use Rattle.envy_meaning.proofs.Standing.{IsLost-durable}
use Rattle.envy_soundness.proofs.WordLists.{length-live, length-durable}

-- ---- the slots of a board and of its array

pub size-slots : (c : Chart) (m : Array) (t : ℕ) → Holds c m → t < 64 → t < length m.slots
size-slots c m t h low = let size = IsArray.slots h.array in omega arith

room : (c : Chart) (m : Array) (t : ℕ) → Holds c m → t < 64 → t < length c.fields.slots
room c m t h low = at (cases_lt t (length c.fields.slots))
  where
    at : (t < length c.fields.slots) ⊎ (length c.fields.slots ≤ t) → t < length c.fields.slots
    at (inl lt) = lt
    at (inr le) = absurd (let no : None ≡ Some (slot_word (slot_of m t)) = sym (get_or_past c.fields.slots t None le) ∙ Holds.slots h t low in cc)

-- a slot is open where its word says so
pub open-active : (c : Chart) (m : Array) (t : ℕ) → Holds c m → t < 64 → slot c.fields t ≡ Some Active → (saved : Saved) × (slot_of m t ≡ Some saved)
open-active c m t h low active = at (slot_of m t) refl
  where
    at : (s : Option Saved) → slot_of m t ≡ s → (saved : Saved) × (slot_of m t ≡ Some saved)
    at None e = absurd (let word : Some Active ≡ Some Vacant = sym active ∙ h.slots t low ∙ ap (λ (x : Option Saved). Some (slot_word x)) e in cc)
    at (Some saved) e = (saved, e)

-- and closed where it doesn't
pub closed-inactive : (c : Chart) (m : Array) (t : ℕ) → Holds c m → t < 64 → slot c.fields t ≢ Some Active → slot_of m t ≡ None
closed-inactive c m t h low never = at (slot_of m t) refl
  where
    at : (s : Option Saved) → slot_of m t ≡ s → slot_of m t ≡ None
    at None e = e
    at (Some saved) e = absurd (never (h.slots t low ∙ ap (λ (x : Option Saved). Some (slot_word x)) e))

pub closed-past : (c : Chart) (m : Array) (t : ℕ) → Holds c m → 64 ≤ t → slot_of m t ≡ None
closed-past c m t h le = get_or_past m.slots t None (rw (IsArray.slots h.array) le)

pub closed-vacant : (c : Chart) (m : Array) (t : ℕ) → Holds c m → t < 64 → slot c.fields t ≡ Some Vacant → slot_of m t ≡ None
closed-vacant c m t h low vacant = closed-inactive c m t h low (λ active. let no : Some Vacant ≡ Some Active = sym vacant ∙ active in cc)

open-unvacant : (c : Chart) (m : Array) (t : ℕ) → Holds c m → t < 64 → slot c.fields t ≢ Some Vacant → is_closed (slot_of m t) ≡ false
open-unvacant c m t h low never = at (slot_of m t) refl
  where
    at : (s : Option Saved) → slot_of m t ≡ s → is_closed (slot_of m t) ≡ false
    at None e = absurd (never (h.slots t low ∙ ap (λ (x : Option Saved). Some (slot_word x)) e))
    at (Some saved) e = ap is_closed e

-- the lowest vacant slot is the lowest that is closed
pub lowest-closed : (c : Chart) (m : Array) (t : ℕ) → Holds c m → t < 64 → slot c.fields t ≡ Some Vacant → ((u : ℕ) → u < t → slot c.fields u ≢ Some Vacant) → position is_closed m.slots ≡ Some t
lowest-closed c m t h low vacant lower = position-first is_closed m.slots t None (size-slots c m t h low) (ap is_closed (closed-vacant c m t h low vacant)) (λ k lt. open-unvacant c m k h (omega arith) (lower k lt))

pub none-closed : (c : Chart) (m : Array) → Holds c m → ((u : ℕ) → u < 64 → slot c.fields u ≢ Some Vacant) → position is_closed m.slots ≡ None
none-closed c m h all = position-nowhere is_closed m.slots None (λ k lt. let low : k < 64 = (let size = IsArray.slots (Holds.array h) in omega arith) in open-unvacant c m k h low (all k low))

-- ---- a slot opens

pub Holds-begun : (k j : ℕ) (c new : Chart) (m : Array) (t : ℕ) → Holds c m → t < 64 → slot_of m t ≡ None → SameWords k j c new → new ≡ with_fields c (with_slot t (Some Active) c.fields) → Holds new (array_with m t (Some []))
Holds-begun k j c new m t h low closed same is = record {
  magic = same.magic ∙ h.magic;
  version = same.version ∙ h.version ∙ ap version_of (sym same.shape);
  sound = same.sound;
  array = IsArray-begun m t (size-slots c m t h low) closed h.array;
  shadows = h.shadows ∙ ap (λ (sh : Shape). sh.shadows) (sym same.shape);
  live = same.live ∙ h.live;
  durable = same.durable ∙ h.durable ∙ sym (undone-begun m t closed);
  slots = λ u lu. ap (λ (z : Chart). slot z.fields u) is ∙ word u lu (cases_eq u t);
  owners = λ p lp. ap (λ (z : Chart). slot_named (undo z.fields p)) is ∙ h.owners p (subst (λ (sh : Shape). p < sh.pages) same.shape lp) ∙ sym (owner-begun m t p closed);
}
  where
    word : (u : ℕ) → u < 64 → (u ≡ t) ⊎ (u ≡ t → ⊥) → get_or (set c.fields.slots t (Some Active)) u None ≡ Some (slot_word (slot_of (array_with m t (Some [])) u))
    word u lu (inl eq) =
        ap (λ (n : ℕ). get_or (set c.fields.slots t (Some Active)) n None) eq ∙ get_or-set_same c.fields.slots t (Some Active) None (room c m t h low)
        ∙ sym (ap (λ (n : ℕ). Some (slot_word (slot_of (array_with m t (Some [])) n))) eq ∙ ap (λ (s : Option Saved). Some (slot_word s)) (get_or-set_same m.slots t (Some []) None (size-slots c m t h low)))
    word u lu (inr other) = get_or-set_other c.fields.slots t u (Some Active) None other ∙ h.slots u lu ∙ sym (ap (λ (s : Option Saved). Some (slot_word s)) (get_or-set_other m.slots t u (Some []) None other))

pub Steps-begin : (k j : ℕ) (c new : Chart) (m : Array) (t : ℕ) → Stands c m → t < 64 → slot c.fields t ≡ Some Vacant → ((u : ℕ) → u < t → slot c.fields u ≢ Some Vacant) → SameWords k j c new → new ≡ with_fields c (with_slot t (Some Active) c.fields) → IsTrue new.on → Steps m Begin (Started t) new
Steps-begin k j c new m t s low vacant lower same is on = (array_with m t (Some []), (lowest-closed c m t s.holds low vacant lower, refl), record { on = on; holds = Holds-begun k j c new m t s.holds low (closed-vacant c m t s.holds low vacant) same is })

pub IsLost-begin : (k j : ℕ) (c new : Chart) (m : Array) (t : ℕ) → Stands c m → t < 64 → slot c.fields t ≡ Some Vacant → ((u : ℕ) → u < t → slot c.fields u ≢ Some Vacant) → SameWords k j c new → new.on ≡ false → IsLost m Begin new
IsLost-begin k j c new m t s low vacant lower same off = IsLost-durable k j c new m Begin (array_with m t (Some [])) s (Started t, (lowest-closed c m t s.holds low vacant lower, refl), refl) (SameDurable-words k j c new same) off

-- ---- a slot closes

closed-word : (c new : Chart) (m : Array) (t u : ℕ) → Holds c m → t < 64 → u < 64 → Closes t c new → (u ≡ t) ⊎ (u ≡ t → ⊥) → slot new.fields u ≡ Some (slot_word (get_or (set m.slots t None) u None))
closed-word c new m t u h low lu closes (inl eq) =
    ap (λ (s : List (Option Slot)). get_or s u None) closes.slots ∙ ap (λ (n : ℕ). get_or (set c.fields.slots t (Some Vacant)) n None) eq ∙ get_or-set_same c.fields.slots t (Some Vacant) None (room c m t h low)
    ∙ sym (ap (λ (n : ℕ). Some (slot_word (get_or (set m.slots t None) n None))) eq ∙ ap (λ (s : Option Saved). Some (slot_word s)) (get_or-set_same m.slots t None None (size-slots c m t h low)))
closed-word c new m t u h low lu closes (inr other) =
    ap (λ (s : List (Option Slot)). get_or s u None) closes.slots ∙ get_or-set_other c.fields.slots t u (Some Vacant) None other ∙ Holds.slots h u lu
    ∙ sym (ap (λ (s : Option Saved). Some (slot_word s)) (get_or-set_other m.slots t u None None other))

closed-owner : (c new : Chart) (m : Array) (t p : ℕ) → Holds c m → t < 64 → p < c.shape.pages → Closes t c new → slot_named (undo new.fields p) ≡ owner (array_with m t None) p
closed-owner c new m t p h low lp closes = at (names-slot (undo c.fields p) t)
  where
    closed : owner (array_with m t None) p ≡ cond (owns p (slot_of m t)) None (owner m p)
    closed = owner-closed m t p (size-slots c m t h low) (IsArray.apart (Holds.array h))

    at : (slot_named (undo c.fields p) ≡ Some t) ⊎ (slot_named (undo c.fields p) ≢ Some t) → slot_named (undo new.fields p) ≡ owner (array_with m t None) p
    at (inl named) = ap slot_named (Closes.own closes p named) ∙ sym (closed ∙ ap (λ (b : Bool). cond b None (owner m p)) (owner-Some m p t (sym (Holds.owners h p lp) ∙ named)).1)
    at (inr free) = ap slot_named (Closes.others closes p free) ∙ Holds.owners h p lp ∙ sym (closed ∙ ap (λ (b : Bool). cond b None (owner m p)) (false_from_ne_true (owns p (slot_of m t)) (λ own. free (Holds.owners h p lp ∙ owner-is m (IsArray.apart (Holds.array h)) p t own))))

-- an address of the array is in a page of the board
size-words : (c : Chart) (m : Array) → Holds c m → length m.words ≡ 32 * c.shape.pages
size-words c m h = ap length (sym (Holds.live h)) ∙ length-live c

page-inside : (c : Chart) (m : Array) (a : ℕ) → Holds c m → a < length m.words → a / 32 < c.shape.pages
page-inside c m a h lt = let size = size-words c m h in omega arith

-- a slot that an undo doesn't name doesn't own the page
disowned : (c : Chart) (m : Array) (t a : ℕ) → Holds c m → a < length m.words → slot_named (undo c.fields (a / 32)) ≢ Some t → owns (a / 32) (slot_of m t) ≡ false
disowned c m t a h lt never = false_from_ne_true (owns (a / 32) (slot_of m t)) (λ own. never (Holds.owners h (a / 32) (page-inside c m a h lt) ∙ owner-is m (IsArray.apart (Holds.array h)) (a / 32) t own))

-- ---- a commit

-- what a restart leaves of a board on which the slot was committed
pub durable-committed : (k j : ℕ) (c new : Chart) (m : Array) (t : ℕ) → Holds c m → t < 64 → Commits k j t c new → durable new ≡ undone (array_with m t None)
durable-committed k j c new m t h low done = ext_get_or 0 (durable new) (undone (array_with m t None)) (long ∙ sym (length-undone (array_with m t None)))
    (λ a lt. at a (rw long at lt) (names-slot (undo c.fields (a / 32)) t))
  where
    long : length (durable new) ≡ length m.words
    long = length-durable new ∙ ap (λ (sh : Shape). 32 * sh.pages) done.shape ∙ sym (size-words c m h)

    at : (a : ℕ) → a < length m.words → (slot_named (undo c.fields (a / 32)) ≡ Some t) ⊎ (slot_named (undo c.fields (a / 32)) ≢ Some t) → get_or (durable new) a 0 ≡ get_or (undone (array_with m t None)) a 0
    at a lt (inl own) =
        done.own a own ∙ ap (λ (ws : List ℕ). get_or ws a 0) (Holds.live h)
        ∙ sym (undone-committed m t a 0 (IsArray.apart (Holds.array h)) (size-slots c m t h low) lt ∙ ap (λ (b : Bool). cond b (get_or m.words a 0) (get_or (undone m) a 0)) (owner-Some m (a / 32) t (sym (Holds.owners h (a / 32) (page-inside c m a h lt)) ∙ own)).1)
    at a lt (inr other) =
        done.others a other ∙ ap (λ (ws : List ℕ). get_or ws a 0) (Holds.durable h)
        ∙ sym (undone-committed m t a 0 (IsArray.apart (Holds.array h)) (size-slots c m t h low) lt ∙ ap (λ (b : Bool). cond b (get_or m.words a 0) (get_or (undone m) a 0)) (disowned c m t a h lt other))

pub Holds-committed : (k j : ℕ) (c new : Chart) (m : Array) (t : ℕ) → Holds c m → t < 64 → Commits k j t c new → Closes t c new → Holds new (array_with m t None)
Holds-committed k j c new m t h low done closes = record {
  magic = done.magic ∙ h.magic;
  version = done.version ∙ h.version ∙ ap version_of (sym done.shape);
  sound = done.sound;
  array = IsArray-closed m t m.words (size-slots c m t h low) refl h.array;
  shadows = h.shadows ∙ ap (λ (sh : Shape). sh.shadows) (sym done.shape);
  live = done.live ∙ h.live;
  durable = durable-committed k j c new m t h low done;
  slots = λ u lu. closed-word c new m t u h low lu closes (cases_eq u t);
  owners = λ p lp. closed-owner c new m t p h low (subst (λ (sh : Shape). p < sh.pages) done.shape lp) closes;
}

pub Steps-commit : (k j : ℕ) (c new : Chart) (m : Array) (t : ℕ) → Stands c m → t < 64 → slot c.fields t ≡ Some Active → Commits k j t c new → Closes t c new → IsTrue new.on → Steps m (Commit t) Done new
Steps-commit k j c new m t s low active done closes on =
    let opened = open-active c m t s.holds low active in
    (array_with m t None, ((λ none. let no : Some opened.0 ≡ None = sym opened.1 ∙ none in cc), refl), record { on = on; holds = Holds-committed k j c new m t s.holds low done closes })

-- power failed in a commit, before the slot was committed or after it
pub IsLost-commit : (k j : ℕ) (c new : Chart) (m : Array) (t : ℕ) → Stands c m → t < 64 → slot c.fields t ≡ Some Active → SameDurable k j c new ⊎ Commits k j t c new → new.on ≡ false → IsLost m (Commit t) new
IsLost-commit k j c new m t s low active either off = at either
  where
    accepts : Accepts m (Commit t) (array_with m t None)
    accepts = let opened = open-active c m t s.holds low active in (Done, ((λ none. let no : Some opened.0 ≡ None = sym opened.1 ∙ none in cc), refl), refl)

    at : SameDurable k j c new ⊎ Commits k j t c new → IsLost m (Commit t) new
    at (inl same) = IsLost-durable k j c new m (Commit t) (array_with m t None) s accepts same off
    at (inr done) = record {
      off = off;
      magic = done.magic ∙ Holds.magic s.holds;
      version = done.version ∙ Holds.version s.holds ∙ ap version_of (sym done.shape);
      sound = done.sound;
      words = (restarted (array_with m t None), (array_with m t None, accepts, inr refl), durable-committed k j c new m t s.holds low done);
    }

-- ---- an abort

-- the words that loads read then
pub live-aborted : (c new : Chart) (m : Array) (t : ℕ) (saved : Saved) → Holds c m → t < 64 → slot_of m t ≡ Some saved → new.shape ≡ c.shape → TakesBack t c new → live new ≡ put_back saved m.words
live-aborted c new m t saved h low is shape back = ext_get_or 0 (live new) (put_back saved m.words) (long ∙ sym (length-put_back saved m.words)) (λ a lt. at a (rw long at lt) (names-slot (undo c.fields (a / 32)) t))
  where
    long : length (live new) ≡ length m.words
    long = length-live new ∙ ap (λ (sh : Shape). 32 * sh.pages) shape ∙ sym (size-words c m h)

    nobody : (a : ℕ) → owner m (a / 32) ≡ Some t → owner (aborted m t saved) (a / 32) ≡ None
    nobody a own = owner-closed m t (a / 32) (size-slots c m t h low) (IsArray.apart (Holds.array h)) ∙ ap (λ (b : Bool). cond b None (owner m (a / 32))) (owner-Some m (a / 32) t own).1

    at : (a : ℕ) → a < length m.words → (slot_named (undo c.fields (a / 32)) ≡ Some t) ⊎ (slot_named (undo c.fields (a / 32)) ≢ Some t) → get_or (live new) a 0 ≡ get_or (put_back saved m.words) a 0
    at a lt (inl named) =
        TakesBack.own back a named ∙ ap (λ (ws : List ℕ). get_or ws a 0) (Holds.durable h ∙ sym (undone-aborted m t saved (IsArray.apart (Holds.array h)) is))
        ∙ undone-unowned (aborted m t saved) a 0 (nobody a (sym (Holds.owners h (a / 32) (page-inside c m a h lt)) ∙ named))
    at a lt (inr free) =
        TakesBack.others back a free ∙ ap (λ (ws : List ℕ). get_or ws a 0) (Holds.live h)
        ∙ sym (put_back-unsaved saved m.words a 0 (ap (λ (s : Option Saved). has a s) (sym is) ∙ has-unowned a (slot_of m t) (disowned c m t a h lt free)))

pub Holds-aborted : (k j : ℕ) (c new : Chart) (m : Array) (t : ℕ) (saved : Saved) → Holds c m → t < 64 → slot_of m t ≡ Some saved → SameDurable k j c new → TakesBack t c new → Closes t c new → Holds new (aborted m t saved)
Holds-aborted k j c new m t saved h low is same back closes = record {
  magic = same.magic ∙ h.magic;
  version = same.version ∙ h.version ∙ ap version_of (sym same.shape);
  sound = same.sound;
  array = IsArray-closed m t (put_back saved m.words) (size-slots c m t h low) (length-put_back saved m.words) h.array;
  shadows = h.shadows ∙ ap (λ (sh : Shape). sh.shadows) (sym same.shape);
  live = live-aborted c new m t saved h low is same.shape back;
  durable = same.durable ∙ h.durable ∙ sym (undone-aborted m t saved (IsArray.apart h.array) is);
  slots = λ u lu. closed-word c new m t u h low lu closes (cases_eq u t);
  owners = λ p lp. closed-owner c new m t p h low (subst (λ (sh : Shape). p < sh.pages) same.shape lp) closes;
}

pub Steps-abort : (k j : ℕ) (c new : Chart) (m : Array) (t : ℕ) → Stands c m → t < 64 → slot c.fields t ≡ Some Active → SameDurable k j c new → TakesBack t c new → Closes t c new → IsTrue new.on → Steps m (Abort t) Done new
Steps-abort k j c new m t s low active same back closes on =
    let opened = open-active c m t s.holds low active in
    (aborted m t opened.0, (opened.0, opened.1, refl), record { on = on; holds = Holds-aborted k j c new m t opened.0 s.holds low opened.1 same back closes })

pub IsLost-abort : (k j : ℕ) (c new : Chart) (m : Array) (t : ℕ) → Stands c m → t < 64 → slot c.fields t ≡ Some Active → SameDurable k j c new → new.on ≡ false → IsLost m (Abort t) new
IsLost-abort k j c new m t s low active same off =
    let opened = open-active c m t s.holds low active in
    IsLost-durable k j c new m (Abort t) (aborted m t opened.0) s (Done, (opened.0, opened.1, refl), refl) same off
