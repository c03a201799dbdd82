-- What the words become when saved words are put back.
use Rattle.std.proofs.Common.{◌≡◌, ◌≢◌, ◌⊎◌, inl, inr, ℕ, zero, suc, ◌<◌, Bool, true, false, cond, List, [], ◌∷◌, length, get_or, set, replicate, Option, None, Some, IsTrue, AllPairs, refl, sym, ◌∙◌, ap, subst, arith}
use Rattle.std.specs.Prelude.{◌==◌, slice_index, slice_set}
use Rattle.std.specs.List.{list_any}
use Rattle.std.proofs.lemmas.List.{get_or-set_same, get_or-set_other, length-set, set-set, set_comm, set-get_or}
use Rattle.std.proofs.lemmas.Bool.{cases_eq, cases_Bool, or_cases, or_left, or_right, or_parts, eqb-true, eqb-false, eq-eqb, ne_eqb}
use Rattle.envy_array.specs.Array.{Array, Saved, page_of, slot_of, saves_in, owns, owner, put_back, undo_all, undone, saving, with_slot, stored, put, aborted}
use Rattle.envy_array.proofs.Owning.{AreApart, owner-None, slot_cases}

-- whether a list has the address
abbrev pub saves : ℕ → Saved → Bool
saves a saved = list_any (λ (e : ℕ × ℕ). e.0 == a) saved

-- whether a slot has it
abbrev pub has : ℕ → Option Saved → Bool
has a None = false
has a (Some saved) = saves a saved

-- a slot that has an address owns its page
pub saves-owns : (a : ℕ) (saved : Saved) → saves a saved ≡ true → saves_in (page_of a) saved ≡ true
saves-owns a [] found = found
saves-owns a (e ∷ rest) found = by (or_cases (e.0 == a) (saves a rest) found) (λ f. saves-owns a rest f)
  where
    by : ((e.0 == a) ≡ true) ⊎ (saves a rest ≡ true) → (saves a rest ≡ true → saves_in (page_of a) rest ≡ true) → saves_in (page_of a) (e ∷ rest) ≡ true
    by (inl same) more = or_left (page_of e.0 == page_of a) (saves_in (page_of a) rest) (eq-eqb (page_of e.0) (page_of a) (ap page_of (eqb-true e.0 a same)))
    by (inr later) more = or_right (page_of e.0 == page_of a) (saves_in (page_of a) rest) (more later)

pub has-owns : (a : ℕ) (slot : Option Saved) → has a slot ≡ true → IsTrue (owns (page_of a) slot)
has-owns a None found = found
has-owns a (Some saved) found = saves-owns a saved found

pub has-unowned : (a : ℕ) (slot : Option Saved) → owns (page_of a) slot ≡ false → has a slot ≡ false
has-unowned a slot none = at (cases_Bool (has a slot))
  where
    at : (has a slot ≡ true) ⊎ (has a slot ≡ false) → has a slot ≡ false
    at (inl found) = let no = has-owns a slot found in cc
    at (inr not_it) = not_it

-- no other slot has an address of a page that one owns
pub has-elsewhere : (m : Array) (t u a : ℕ) → AreApart m → IsTrue (owns (page_of a) (slot_of m t)) → u ≢ t → has a (slot_of m u) ≡ false
has-elsewhere m t u a apart own other = at (cases_Bool (has a (slot_of m u)))
  where
    at : (has a (slot_of m u) ≡ true) ⊎ (has a (slot_of m u) ≡ false) → has a (slot_of m u) ≡ false
    at (inl found) = absurd (other (apart u t (page_of a) (has-owns a (slot_of m u) found) own))
    at (inr not_it) = not_it

-- ---- one list

pub length-put_back : (saved : Saved) (words : List ℕ) → length (put_back saved words) ≡ length words
length-put_back [] words = refl
length-put_back (e ∷ rest) words = length-put_back rest (set words e.0 e.1) ∙ length-set words e.0 e.1

-- a word that the list doesn't have
pub put_back-set : (saved : Saved) (words : List ℕ) (a w : ℕ) → saves a saved ≡ false → put_back saved (set words a w) ≡ set (put_back saved words) a w
put_back-set [] words a w none = refl
put_back-set (e ∷ rest) words a w none =
    let parts = or_parts (e.0 == a) (saves a rest) none in
    let other : a ≡ e.0 → ⊥ = λ same. eqb-false e.0 a parts.0 (sym same) in
    ap (put_back rest) (set_comm words a e.0 w e.1 other) ∙ put_back-set rest (set words e.0 e.1) a w parts.1

-- a word that the list has
pub put_back-covered : (saved : Saved) (words : List ℕ) (a w : ℕ) → saves a saved ≡ true → put_back saved (set words a w) ≡ put_back saved words
put_back-covered [] words a w found = cc
put_back-covered (e ∷ rest) words a w found = at (cases_Bool (e.0 == a)) (λ later ws. put_back-covered rest ws a w later)
  where
    at : ((e.0 == a) ≡ true) ⊎ ((e.0 == a) ≡ false) → (saves a rest ≡ true → (ws : List ℕ) → put_back rest (set ws a w) ≡ put_back rest ws) → put_back rest (set (set words a w) e.0 e.1) ≡ put_back rest (set words e.0 e.1)
    at (inl same) more = rw (eqb-true e.0 a same) (ap (put_back rest) (set-set words a w e.1))
    at (inr other) more =
        let later : saves a rest ≡ true = rw other at found in
        let apart : a ≡ e.0 → ⊥ = λ same. eqb-false e.0 a other (sym same) in
        ap (put_back rest) (set_comm words a e.0 w e.1 apart) ∙ more later (set words e.0 e.1)

pub put_back-unsaved : (saved : Saved) (words : List ℕ) (a d : ℕ) → saves a saved ≡ false → get_or (put_back saved words) a d ≡ get_or words a d
put_back-unsaved [] words a d none = refl
put_back-unsaved (e ∷ rest) words a d none =
    let parts = or_parts (e.0 == a) (saves a rest) none in
    let other : a ≡ e.0 → ⊥ = λ same. eqb-false e.0 a parts.0 (sym same) in
    put_back-unsaved rest (set words e.0 e.1) a d parts.1 ∙ get_or-set_other words e.0 a e.1 d other

-- no address stands twice in the list
abbrev pub AreOnce : Saved → Type 0
AreOnce saved = AllPairs (λ (x y : ℕ × ℕ). x.0 ≢ y.0) saved

once-rest : (e : ℕ × ℕ) (rest : Saved) → AreOnce (e ∷ rest) → AreOnce rest
once-rest e rest once i j d lt l = once (suc i) (suc j) d (omega arith) (omega arith)

once-first : (a b : ℕ) (rest : Saved) → AreOnce ((a, b) ∷ rest) → saves a rest ≡ false
once-first a b rest once = nowhere rest (λ k d lt. once 0 (suc k) d (omega arith) (omega arith))
  where
    nowhere : (xs : Saved) → ((k : ℕ) (d : ℕ × ℕ) → k < length xs → a ≢ (get_or xs k d).0) → saves a xs ≡ false
    nowhere [] apart = refl
    nowhere (x ∷ xs) apart = rw (ne_eqb x.0 a (λ same. apart 0 x (omega arith) (sym same))) (nowhere xs (λ k d lt. apart (suc k) d (omega arith)))

pub put_back-saved : (saved : Saved) (words : List ℕ) (k a b d : ℕ) → AreOnce saved → k < length saved → get_or saved k (a, b) ≡ (a, b) → a < length words → get_or (put_back saved words) a d ≡ b
put_back-saved [] words k a b d once lt is room = absurd (omega arith)
put_back-saved (e ∷ rest) words zero a b d once lt is room =
    let none : saves a rest ≡ false = once-first a b rest (subst (λ (x : ℕ × ℕ). AreOnce (x ∷ rest)) is once) in
    rw is (put_back-unsaved rest (set words a b) a d none ∙ get_or-set_same words a b d room)
put_back-saved (e ∷ rest) words (suc k) a b d once lt is room =
    put_back-saved rest (set words e.0 e.1) k a b d (once-rest e rest once) (omega arith) is (rw length-set room)

-- lists with no address in common
pub put_back_comm : (saved others : Saved) (words : List ℕ) → ((a : ℕ) → saves a others ≡ true → saves a saved ≡ false) → put_back others (put_back saved words) ≡ put_back saved (put_back others words)
put_back_comm saved [] words apart = refl
put_back_comm saved (e ∷ rest) words apart =
    ap (put_back rest) (sym (put_back-set saved words e.0 e.1 (apart e.0 (or_left (e.0 == e.0) (saves e.0 rest) (eq-eqb e.0 e.0 refl)))))
    ∙ put_back_comm saved rest (set words e.0 e.1) (λ a found. apart a (or_right (e.0 == a) (saves a rest) found))

-- ---- all slots

pub length-undo_all : (slots : List (Option Saved)) (words : List ℕ) → length (undo_all slots words) ≡ length words
length-undo_all [] words = refl
length-undo_all (None ∷ slots) words = length-undo_all slots words
length-undo_all (Some saved ∷ slots) words = length-undo_all slots (put_back saved words) ∙ length-put_back saved words

pub undo_all-closed : (n : ℕ) (words : List ℕ) → undo_all (replicate n None) words ≡ words
undo_all-closed zero words = refl
undo_all-closed (suc n) words = undo_all-closed n words

pub undo_all-set : (slots : List (Option Saved)) (words : List ℕ) (a w : ℕ) → ((t : ℕ) → has a (get_or slots t None) ≡ false) → undo_all slots (set words a w) ≡ set (undo_all slots words) a w
undo_all-set [] words a w none = refl
undo_all-set (None ∷ slots) words a w none = undo_all-set slots words a w (λ t. none (suc t))
undo_all-set (Some saved ∷ slots) words a w none = ap (undo_all slots) (put_back-set saved words a w (none 0)) ∙ undo_all-set slots (put_back saved words) a w (λ t. none (suc t))

pub undo_all-unsaved : (slots : List (Option Saved)) (words : List ℕ) (a d : ℕ) → ((t : ℕ) → has a (get_or slots t None) ≡ false) → get_or (undo_all slots words) a d ≡ get_or words a d
undo_all-unsaved [] words a d none = refl
undo_all-unsaved (None ∷ slots) words a d none = undo_all-unsaved slots words a d (λ t. none (suc t))
undo_all-unsaved (Some saved ∷ slots) words a d none = undo_all-unsaved slots (put_back saved words) a d (λ t. none (suc t)) ∙ put_back-unsaved saved words a d (none 0)

pub undo_all-saved : (slots : List (Option Saved)) (words : List ℕ) (t k a b d : ℕ) (saved : Saved) → get_or slots t None ≡ Some saved → ((u : ℕ) → u ≢ t → has a (get_or slots u None) ≡ false) → AreOnce saved → k < length saved → get_or saved k (a, b) ≡ (a, b) → a < length words → get_or (undo_all slots words) a d ≡ b
undo_all-saved [] words t k a b d saved is others once lt at room = cc
undo_all-saved (None ∷ slots) words zero k a b d saved is others once lt at room = cc
undo_all-saved (Some x ∷ slots) words zero k a b d saved is others once lt at room =
    let same : x ≡ saved = cc in
    undo_all-unsaved slots (put_back x words) a d (λ t. others (suc t) (λ (e : suc t ≡ 0). omega arith)) ∙ rw same (put_back-saved saved words k a b d once lt at room)
undo_all-saved (None ∷ slots) words (suc t) k a b d saved is others once lt at room =
    undo_all-saved slots words t k a b d saved is (λ u ne. others (suc u) (λ (e : suc u ≡ suc t). ne (omega arith))) once lt at room
undo_all-saved (Some x ∷ slots) words (suc t) k a b d saved is others once lt at room =
    undo_all-saved slots (put_back x words) t k a b d saved is (λ u ne. others (suc u) (λ (e : suc u ≡ suc t). ne (omega arith))) once lt at (rw length-put_back room)

-- a word that some slot has
pub undo_all-covered : (slots : List (Option Saved)) (words : List ℕ) (t a w : ℕ) → has a (get_or slots t None) ≡ true → undo_all slots (set words a w) ≡ undo_all slots words
undo_all-covered [] words t a w found = cc
undo_all-covered (None ∷ slots) words zero a w found = cc
undo_all-covered (Some x ∷ slots) words zero a w found = ap (undo_all slots) (put_back-covered x words a w found)
undo_all-covered (None ∷ slots) words (suc t) a w found = undo_all-covered slots words t a w found
undo_all-covered (Some x ∷ slots) words (suc t) a w found = at (cases_Bool (saves a x)) (λ ws. undo_all-covered slots ws t a w found)
  where
    at : (saves a x ≡ true) ⊎ (saves a x ≡ false) → ((ws : List ℕ) → undo_all slots (set ws a w) ≡ undo_all slots ws) → undo_all slots (put_back x (set words a w)) ≡ undo_all slots (put_back x words)
    at (inl too) more = ap (undo_all slots) (put_back-covered x words a w too)
    at (inr none) more = ap (undo_all slots) (put_back-set x words a w none) ∙ more (put_back x words)

-- a word joins a slot's list as it is stored
pub undo_all-saving : (slots : List (Option Saved)) (words : List ℕ) (t a w : ℕ) (saved : Saved) → get_or slots t None ≡ Some saved → ((u : ℕ) → has a (get_or slots u None) ≡ false) → undo_all (set slots t (Some ((a, get_or words a 0) ∷ saved))) (set words a w) ≡ undo_all slots words
undo_all-saving [] words t a w saved is none = cc
undo_all-saving (None ∷ slots) words zero a w saved is none = cc
undo_all-saving (Some x ∷ slots) words zero a w saved is none =
    let same : x ≡ saved = cc in
    ap (λ (ws : List ℕ). undo_all slots (put_back saved ws)) (set-set words a w (get_or words a 0) ∙ set-get_or words a 0) ∙ ap (λ (y : Saved). undo_all slots (put_back y words)) (sym same)
undo_all-saving (None ∷ slots) words (suc t) a w saved is none = undo_all-saving slots words t a w saved is (λ u. none (suc u))
undo_all-saving (Some x ∷ slots) words (suc t) a w saved is none =
    ap (undo_all (set slots t (Some ((a, get_or words a 0) ∷ saved)))) (put_back-set x words a w (none 0))
    ∙ ap (λ (b : ℕ). undo_all (set slots t (Some ((a, b) ∷ saved))) (set (put_back x words) a w)) (sym (put_back-unsaved x words a 0 (none 0)))
    ∙ undo_all-saving slots (put_back x words) t a w saved is (λ u. none (suc u))

-- a slot's list is put back before those of the slots below it
pub undo_all-aborted : (slots : List (Option Saved)) (words : List ℕ) (t : ℕ) (saved : Saved) → get_or slots t None ≡ Some saved → ((u a : ℕ) → u ≢ t → has a (get_or slots u None) ≡ true → saves a saved ≡ false) → undo_all (set slots t None) (put_back saved words) ≡ undo_all slots words
undo_all-aborted [] words t saved is apart = cc
undo_all-aborted (None ∷ slots) words zero saved is apart = cc
undo_all-aborted (Some x ∷ slots) words zero saved is apart = let same : x ≡ saved = cc in ap (λ (y : Saved). undo_all slots (put_back y words)) (sym same)
undo_all-aborted (None ∷ slots) words (suc t) saved is apart =
    undo_all-aborted slots words t saved is (λ u a ne. apart (suc u) a (λ (e : suc u ≡ suc t). ne (omega arith)))
undo_all-aborted (Some x ∷ slots) words (suc t) saved is apart =
    ap (undo_all (set slots t None)) (put_back_comm saved x words (λ a found. apart 0 a (λ (e : 0 ≡ suc t). omega arith) found))
    ∙ undo_all-aborted slots (put_back x words) t saved is (λ u a ne. apart (suc u) a (λ (e : suc u ≡ suc t). ne (omega arith)))

-- ---- the words undone, after each step

pub length-undone : (m : Array) → length (undone m) ≡ length m.words
length-undone m = length-undo_all m.slots m.words

-- nobody owns the page
pub undone-stored : (m : Array) (a w : ℕ) → owner m (page_of a) ≡ None → undone (stored m a w) ≡ slice_set (undone m) a w
undone-stored m a w free = undo_all-set m.slots m.words a w (λ t. has-unowned a (slot_of m t) (owner-None m (page_of a) free t))

pub undone-unowned : (m : Array) (a d : ℕ) → owner m (page_of a) ≡ None → get_or (undone m) a d ≡ get_or m.words a d
undone-unowned m a d free = undo_all-unsaved m.slots m.words a d (λ t. has-unowned a (slot_of m t) (owner-None m (page_of a) free t))

-- no slot has the address
pub undone-unsaved : (m : Array) (a d : ℕ) → ((t : ℕ) → has a (slot_of m t) ≡ false) → get_or (undone m) a d ≡ get_or m.words a d
undone-unsaved m a d none = undo_all-unsaved m.slots m.words a d none

-- a slot has it, with this word
pub undone-saved : (m : Array) (t k a b d : ℕ) (saved : Saved) → AreApart m → AreOnce saved → slot_of m t ≡ Some saved → k < length saved → get_or saved k (a, b) ≡ (a, b) → a < length m.words → get_or (undone m) a d ≡ b
undone-saved m t k a b d saved apart once is lt at room = undo_all-saved m.slots m.words t k a b d saved is others once lt at room
  where
    found-at : (xs : Saved) (k : ℕ) → k < length xs → get_or xs k (a, b) ≡ (a, b) → saves a xs ≡ true
    found-at [] k lt at = absurd (omega arith)
    found-at (x ∷ xs) zero lt at = or_left (x.0 == a) (saves a xs) (eq-eqb x.0 a (ap (λ (e : ℕ × ℕ). e.0) at))
    found-at (x ∷ xs) (suc k) lt at = or_right (x.0 == a) (saves a xs) (found-at xs k (omega arith) at)

    own : IsTrue (owns (page_of a) (slot_of m t))
    own = has-owns a (slot_of m t) (ap (has a) is ∙ found-at saved k lt at)

    others : (u : ℕ) → u ≢ t → has a (slot_of m u) ≡ false
    others u ne = has-elsewhere m t u a apart own ne

pub undone-begun : (m : Array) (t : ℕ) → slot_of m t ≡ None → undone (with_slot m t (Some [])) ≡ undone m
undone-begun m t closed = opened m.slots m.words t closed
  where
    opened : (slots : List (Option Saved)) (words : List ℕ) (t : ℕ) → get_or slots t None ≡ None → undo_all (set slots t (Some [])) words ≡ undo_all slots words
    opened [] words t closed = refl
    opened (None ∷ slots) words zero closed = refl
    opened (Some x ∷ slots) words zero closed = cc
    opened (None ∷ slots) words (suc t) closed = opened slots words t closed
    opened (Some x ∷ slots) words (suc t) closed = opened slots (put_back x words) t closed

pub undone-put : (m : Array) (t a w : ℕ) (saved : Saved) → slot_of m t ≡ Some saved → ((u : ℕ) → u ≢ t → has a (slot_of m u) ≡ false) → undone (put m t saved a w) ≡ undone m
undone-put m t a w saved is others = at (cases_Bool (saves a saved))
  where
    at : (saves a saved ≡ true) ⊎ (saves a saved ≡ false) → undone (put m t saved a w) ≡ undone m
    at (inl found) =
        let covered : has a (slot_of m t) ≡ true = rw is found in
        let kept : set m.slots t (Some (saving a (slice_index m.words a) saved)) ≡ m.slots = rw found (ap (set m.slots t) (sym is) ∙ set-get_or m.slots t None) in
        ap (λ (slots : List (Option Saved)). undo_all slots (set m.words a w)) kept ∙ undo_all-covered m.slots m.words t a w covered
    at (inr none) = rw none (undo_all-saving m.slots m.words t a w saved is nowhere)
      where
        nowhere : (u : ℕ) → has a (slot_of m u) ≡ false
        nowhere u = by (cases_eq u t)
          where
            by : (u ≡ t) ⊎ (u ≡ t → ⊥) → has a (slot_of m u) ≡ false
            by (inl same) = rw (same, is) none
            by (inr other) = others u other

pub undone-aborted : (m : Array) (t : ℕ) (saved : Saved) → AreApart m → slot_of m t ≡ Some saved → undone (aborted m t saved) ≡ undone m
undone-aborted m t saved apart is = undo_all-aborted m.slots m.words t saved is elsewhere
  where
    elsewhere : (u a : ℕ) → u ≢ t → has a (slot_of m u) ≡ true → saves a saved ≡ false
    elsewhere u a ne found = at (cases_Bool (saves a saved))
      where
        at : (saves a saved ≡ true) ⊎ (saves a saved ≡ false) → saves a saved ≡ false
        at (inr none) = none
        at (inl too) =
            let own : IsTrue (owns (page_of a) (slot_of m t)) = has-owns a (slot_of m t) (ap (has a) is ∙ too) in
            let no : has a (slot_of m u) ≡ false = has-elsewhere m t u a apart own ne in cc

-- ---- a slot that is closed and keeps its words

put_back-alike : (saved : Saved) (words others : List ℕ) (a d : ℕ) → a < length words → a < length others → get_or words a d ≡ get_or others a d → get_or (put_back saved words) a d ≡ get_or (put_back saved others) a d
put_back-alike [] words others a d lt room same = same
put_back-alike (e ∷ rest) words others a d lt room same = put_back-alike rest (set words e.0 e.1) (set others e.0 e.1) a d (rw length-set lt) (rw length-set room) (at (cases_eq a e.0))
  where
    at : (a ≡ e.0) ⊎ (a ≡ e.0 → ⊥) → get_or (set words e.0 e.1) a d ≡ get_or (set others e.0 e.1) a d
    at (inl it) = rw (← it) (get_or-set_same words a e.1 d lt ∙ sym (get_or-set_same others a e.1 d room))
    at (inr other) = get_or-set_other words e.0 a e.1 d other ∙ same ∙ sym (get_or-set_other others e.0 a e.1 d other)

undo_all-alike : (slots : List (Option Saved)) (words others : List ℕ) (a d : ℕ) → a < length words → a < length others → get_or words a d ≡ get_or others a d → get_or (undo_all slots words) a d ≡ get_or (undo_all slots others) a d
undo_all-alike [] words others a d lt room same = same
undo_all-alike (None ∷ slots) words others a d lt room same = undo_all-alike slots words others a d lt room same
undo_all-alike (Some x ∷ slots) words others a d lt room same = undo_all-alike slots (put_back x words) (put_back x others) a d (rw length-put_back lt) (rw length-put_back room) (put_back-alike x words others a d lt room same)

undo_all-closing : (slots : List (Option Saved)) (words : List ℕ) (t a d : ℕ) → has a (get_or slots t None) ≡ false → a < length words → get_or (undo_all (set slots t None) words) a d ≡ get_or (undo_all slots words) a d
undo_all-closing [] words t a d none lt = refl
undo_all-closing (None ∷ slots) words zero a d none lt = refl
undo_all-closing (Some x ∷ slots) words zero a d none lt = undo_all-alike slots words (put_back x words) a d lt (rw length-put_back lt) (sym (put_back-unsaved x words a d none))
undo_all-closing (None ∷ slots) words (suc t) a d none lt = undo_all-closing slots words t a d none lt
undo_all-closing (Some x ∷ slots) words (suc t) a d none lt = undo_all-closing slots (put_back x words) t a d none (rw length-put_back lt)

-- the slot's own pages stay as they are, and the others are undone as before
pub undone-committed : (m : Array) (t a d : ℕ) → AreApart m → t < length m.slots → a < length m.words → get_or (undone (with_slot m t None)) a d ≡ cond (owns (page_of a) (slot_of m t)) (get_or m.words a d) (get_or (undone m) a d)
undone-committed m t a d apart lt room = at (cases_Bool (owns (page_of a) (slot_of m t)))
  where
    at : (owns (page_of a) (slot_of m t) ≡ true) ⊎ (owns (page_of a) (slot_of m t) ≡ false) → get_or (undone (with_slot m t None)) a d ≡ cond (owns (page_of a) (slot_of m t)) (get_or m.words a d) (get_or (undone m) a d)
    at (inl own) = rw own (undone-unsaved (with_slot m t None) a d nowhere)
      where
        nowhere : (u : ℕ) → has a (slot_of (with_slot m t None) u) ≡ false
        nowhere u = by (slot_cases m t u None lt)
          where
            by : ((u ≡ t) × (slot_of (with_slot m t None) u ≡ None)) ⊎ ((u ≢ t) × (slot_of (with_slot m t None) u ≡ slot_of m u)) → has a (slot_of (with_slot m t None) u) ≡ false
            by (inl (same, is)) = rw is refl
            by (inr (other, is)) = rw is (has-elsewhere m t u a apart own other)
    at (inr none) = rw none (undo_all-closing m.slots m.words t a d (has-unowned a (slot_of m t) none) room)
