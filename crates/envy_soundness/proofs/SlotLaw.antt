-- Writes of a slot.
use Rattle.std.proofs.Common.{◌≡◌, ◌≢◌, ◌⊎◌, inl, inr, ℕ, zero, suc, ◌/◌, ◌%◌, ◌<◌, ◌≤◌, Bool, true, false, cond, List, [], ◌∷◌, length, get_or, set, Option, None, Some, refl, sym, ◌∙◌, ap, arith}
use Rattle.std.specs.Prelude.{IsTrue, Result, MatchResult, count_by}
use Rattle.std.proofs.lemmas.List.{get_or-set_same, get_or-set_other, length-set}
use Rattle.std.proofs.lemmas.List.Sums.{sum_by-cons}
use Rattle.std.proofs.lemmas.Bool.{cases_eq}
use Rattle.envy_base.specs.declared.board.Off.{Off}
use Rattle.envy_base.specs.declared.shape.Shape.{Shape}
use Rattle.envy_base.specs.declared.fields.Place.{Place}
use Rattle.envy_base.specs.declared.fields.Slot.{Slot}
use Rattle.envy_base.specs.declared.fields.Slot.TheVariants.{Vacant, Committed}
use Rattle.envy_base.specs.declared.fields.Undo.{Undo}
use Rattle.envy_base.specs.declared.fields.Undo.TheVariants.{Clear, Blank, Shadow}
use Rattle.envy_map.specs.Fields.{Fields, Chart, with_fields, place, undo}
use Rattle.envy_map.specs.Writes.{Writes, with_slot}
use Rattle.envy_soundness.specs.Words.{kept, kept_by, word_at, live_word, durable_word, live, durable}
use Rattle.envy_soundness.specs.Sound.{Sound, Slots, IsSound, Names, owned_by, slot_named, slots_of}
use Rattle.envy_soundness.specs.May.{IsUnused}
use Rattle.envy_soundness.specs.Same.{Same, SameWords, Commits}
use Rattle.envy_soundness.proofs.References.{References-fewer}
use Rattle.envy_soundness.proofs.WordLists.{words-same, words-at}
use Rattle.envy_soundness.proofs.Composition.{Keeps-refl, KeepsWords, SameWords-put, Same-refl, Stays-failed, Counted-fields, Counted-failed, Wears-fields, Wears-failed, exits}

-- where a test passes less at each place, it counts less
count_by-le_at : {X : Type 0} (p q : X → Bool) (d : X) (xs : List X) → ((k : ℕ) → k < length xs → p (get_or xs k d) ≡ true → q (get_or xs k d) ≡ true) → count_by p xs ≤ count_by q xs
count_by-le_at {X} p q d [] implies = omega arith
count_by-le_at {X} p q d (x ∷ xs) implies =
    let rest : count_by p xs ≤ count_by q xs = count_by-le_at p q d xs (λ k lt. implies (suc k) (omega arith)) in
    let first : cond (p x) 1 0 ≤ cond (q x) 1 0 = at (p x) (q x) (implies zero (omega arith)) in
    let left = sum_by-cons (λ (y : X). cond (p y) 1 0) x xs in
    let right = sum_by-cons (λ (y : X). cond (q y) 1 0) x xs in
    omega arith
  where
    at : (b c : Bool) → (b ≡ true → c ≡ true) → cond b 1 0 ≤ cond c 1 0
    at true true i = omega arith
    at true false i = let e = i refl in cc
    at false true i = omega arith
    at false false i = omega arith

-- the other slots are as they were
slot-other : (slots : List (Option Slot)) (t s : ℕ) (x : Option Slot) → s ≢ t → get_or (set slots t x) s None ≡ get_or slots s None
slot-other slots t s x other = get_or-set_other slots t s x None other

-- an undo that doesn't name the slot means what it did
pub kept_by-other : (slots : List (Option Slot)) (t : ℕ) (x : Option Slot) (u : Option Undo) (now : Option Place) → slot_named u ≢ Some t → kept_by (set slots t x) u now ≡ kept_by slots u now
kept_by-other slots t x None now other = refl
kept_by-other slots t x (Some Clear) now other = refl
kept_by-other slots t x (Some (Blank s)) now other = rw (slot-other slots t s x (λ e. other (ap (λ (n : ℕ). Some n) e))) refl
kept_by-other slots t x (Some (Shadow s q)) now other = rw (slot-other slots t s x (λ e. other (ap (λ (n : ℕ). Some n) e))) refl

owned_by-other : (slots : List (Option Slot)) (t : ℕ) (x : Option Slot) (u : Option Undo) → slot_named u ≢ Some t → owned_by (set slots t x) u ≡ owned_by slots u
owned_by-other slots t x None other = refl
owned_by-other slots t x (Some Clear) other = refl
owned_by-other slots t x (Some (Blank s)) other = rw (slot-other slots t s x (λ e. other (ap (λ (n : ℕ). Some n) e))) refl
owned_by-other slots t x (Some (Shadow s q)) other = rw (slot-other slots t s x (λ e. other (ap (λ (n : ℕ). Some n) e))) refl

-- one that names it, where it is committed, means nothing
kept_by-committed : (slots : List (Option Slot)) (t : ℕ) (u : Option Undo) (now : Option Place) → t < length slots → slot_named u ≡ Some t → kept_by (set slots t (Some Committed)) u now ≡ now
kept_by-committed slots t None now room named = refl
kept_by-committed slots t (Some Clear) now room named = refl
kept_by-committed slots t (Some (Blank s)) now room named = let same : s ≡ t = cc in rw (same, get_or-set_same slots t (Some Committed) None room) refl
kept_by-committed slots t (Some (Shadow s q)) now room named = let same : s ≡ t = cc in rw (same, get_or-set_same slots t (Some Committed) None room) refl

owned_by-committed : (slots : List (Option Slot)) (t : ℕ) (u : Option Undo) → t < length slots → slot_named u ≡ Some t → owned_by (set slots t (Some Committed)) u ≡ false
owned_by-committed slots t None room named = refl
owned_by-committed slots t (Some Clear) room named = refl
owned_by-committed slots t (Some (Blank s)) room named = let same : s ≡ t = cc in rw (same, get_or-set_same slots t (Some Committed) None room) refl
owned_by-committed slots t (Some (Shadow s q)) room named = let same : s ≡ t = cc in rw (same, get_or-set_same slots t (Some Committed) None room) refl

-- whether an undo names the slot
pub names-slot : (u : Option Undo) (t : ℕ) → (slot_named u ≡ Some t) ⊎ (slot_named u ≢ Some t)
names-slot None t = inr (λ e. cc)
names-slot (Some Clear) t = inr (λ e. cc)
names-slot (Some (Blank s)) t = at (cases_eq s t)
  where
    at : (s ≡ t) ⊎ (s ≡ t → ⊥) → (Some s ≡ Some t) ⊎ (Some s ≢ Some t)
    at (inl same) = inl (ap (λ (n : ℕ). Some n) same)
    at (inr other) = inr (λ e. other cc)
names-slot (Some (Shadow s q)) t = at (cases_eq s t)
  where
    at : (s ≡ t) ⊎ (s ≡ t → ⊥) → (Some s ≡ Some t) ⊎ (Some s ≢ Some t)
    at (inl same) = inl (ap (λ (n : ℕ). Some n) same)
    at (inr other) = inr (λ e. other cc)

-- a slot is written: an undo that names it must not become one of a vacant slot
record Rewrites (sh : Shape) (f : Fields) (t : ℕ) (x : Slot) : Type 0 where
  pub in_use : (p : ℕ) → slot_named (undo f p) ≡ Some t → x ≢ Vacant
  pub few : count_by (owned_by (set f.slots t (Some x))) f.undos ≤ sh.shadows

Slots-written : (sh : Shape) (f : Fields) (flash : List (List ℕ)) (t : ℕ) (x : Slot) → Sound sh f flash → t < 64 → Rewrites sh f t x → Slots sh f.version (set f.slots t (Some x)) f.undos
Slots-written sh f flash t x s low new = record {
  long = length-set f.slots t (Some x) ∙ Slots.long s.slots;
  decode = λ u lt. there u lt (cases_eq u t);
  undos_long = Slots.undos_long s.slots;
  undos_decode = Slots.undos_decode s.slots;
  named = Slots.named s.slots;
  rows = Slots.rows s.slots;
  in_use = λ p u e. used p u e (cases_eq u t);
  few = new.few;
}
  where
    room : t < length f.slots
    room = rw (Slots.long s.slots) low

    there : (u : ℕ) → u < slots_of f.version → (u ≡ t) ⊎ (u ≡ t → ⊥) → get_or (set f.slots t (Some x)) u None ≢ None
    there u lt (inl same) none = let is : get_or (set f.slots t (Some x)) u None ≡ Some x = rw same (get_or-set_same f.slots t (Some x) None room) in cc
    there u lt (inr other) none = Slots.decode s.slots u lt (sym (slot-other f.slots t u (Some x) other) ∙ none)

    used : (p u : ℕ) → slot_named (undo f p) ≡ Some u → (u ≡ t) ⊎ (u ≡ t → ⊥) → get_or (set f.slots t (Some x)) u None ≢ Some Vacant
    used p u e (inl same) vacant =
        let is : get_or (set f.slots t (Some x)) u None ≡ Some x = rw same (get_or-set_same f.slots t (Some x) None room) in
        new.in_use p (e ∙ ap (λ (n : ℕ). Some n) same) cc
    used p u e (inr other) vacant = Slots.in_use s.slots p u e (sym (slot-other f.slots t u (Some x) other) ∙ vacant)

Sound-written : (sh : Shape) (f : Fields) (flash : List (List ℕ)) (t : ℕ) (x : Slot) → Sound sh f flash → t < 64 → Rewrites sh f t x → ((p q : ℕ) → Names (with_slot t (Some x) f) p q → Names f p q) → Sound sh (with_slot t (Some x) f) flash
Sound-written sh f flash t x s low new was =
    let refers = References-fewer sh f flash (set f.slots t (Some x)) f.undos f.places s was in
    record {
      head = s.head;
      slots = Slots-written sh f flash t x s low new;
      places = s.places;
      rows = refers.rows;
      numbers = s.numbers;
      blanks = s.blanks;
      homes = refers.homes;
      job = refers.job;
    }

-- a slot that no undo names
kept-unused : (f : Fields) (t : ℕ) (x : Slot) (p : ℕ) → IsUnused f t → kept (with_slot t (Some x) f) p ≡ kept f p
kept-unused f t x p unused = kept_by-other f.slots t (Some x) (undo f p) (place f p) (unused p)

KeepsWords-unused : (c : Chart) (t : ℕ) (x : Slot) → IsSound c → t < 64 → IsUnused c.fields t → KeepsWords c (with_slot t (Some x) c.fields)
KeepsWords-unused c t x sound low unused = record {
  magic = refl;
  version = refl;
  wears = refl;
  sound = Sound-written c.shape c.fields c.flash t x sound low
      (record {
        in_use = λ p e. absurd (unused p e);
        few = let less = count_by-le_at (owned_by (set c.fields.slots t (Some x))) (owned_by c.fields.slots) None c.fields.undos (λ p lt owned. sym (owned_by-other c.fields.slots t (Some x) (undo c.fields p) (unused p)) ∙ owned) in let few = Slots.few (Sound.slots sound) in omega arith;
      })
      was;
  live = refl;
  durable = words-same c.shape.pages _ _ (λ r j lt. ap (λ (y : Option Place). word_at c.fields.frames c.flash y j) (kept-unused c.fields t x r unused));
}
  where
    was : (p q : ℕ) → Names (with_slot t (Some x) c.fields) p q → Names c.fields p q
    was p q (inl e) = inl e
    was p q (inr e) = inr (sym (kept-unused c.fields t x p unused) ∙ e)

pub SameWords-unused : (c new : Chart) (t : ℕ) (x : Slot) (r : Result Unit Off) → IsSound c → t < 64 → (IsTrue c.on → IsUnused c.fields t) → Writes (with_slot t (Some x)) c r new → SameWords 0 0 c new
SameWords-unused c new t x r sound low unused writes = SameWords-put c new (with_slot t (Some x)) r sound (λ on. KeepsWords-unused c t x sound low (unused on)) writes

-- a slot that becomes committed
Names-committed : (f : Fields) (t p q : ℕ) → t < length f.slots → Names (with_slot t (Some Committed) f) p q → Names f p q
Names-committed f t p q room (inl e) = inl e
Names-committed f t p q room (inr e) = at (names-slot (undo f p) t)
  where
    at : (slot_named (undo f p) ≡ Some t) ⊎ (slot_named (undo f p) ≢ Some t) → Names f p q
    at (inl named) = inl (sym (kept_by-committed f.slots t (undo f p) (place f p) room named) ∙ e)
    at (inr other) = inr (sym (kept_by-other f.slots t (Some Committed) (undo f p) (place f p) other) ∙ e)

Sound-committed : (sh : Shape) (f : Fields) (flash : List (List ℕ)) (t : ℕ) → Sound sh f flash → t < 64 → Sound sh (with_slot t (Some Committed) f) flash
Sound-committed sh f flash t s low =
    let room : t < length f.slots = rw (Slots.long s.slots) low in
    Sound-written sh f flash t Committed s low
    (record {
      in_use = λ p e vacant. cc;
      few = let less = count_by-le_at (owned_by (set f.slots t (Some Committed))) (owned_by f.slots) None f.undos (λ p lt owned. was p room owned (names-slot (undo f p) t)) in let few = Slots.few s.slots in omega arith;
    })
    (λ p q n. Names-committed f t p q room n)
  where
    was : (p : ℕ) → t < length f.slots → owned_by (set f.slots t (Some Committed)) (undo f p) ≡ true → (slot_named (undo f p) ≡ Some t) ⊎ (slot_named (undo f p) ≢ Some t) → owned_by f.slots (undo f p) ≡ true
    was p room owned (inl named) = let idle = owned_by-committed f.slots t (undo f p) room named in cc
    was p room owned (inr other) = sym (owned_by-other f.slots t (Some Committed) (undo f p) other) ∙ owned

-- what a restart leaves then
own-committed : (c : Chart) (t a : ℕ) → t < length c.fields.slots → slot_named (undo c.fields (a / 32)) ≡ Some t → get_or (durable (with_fields c (with_slot t (Some Committed) c.fields))) a 0 ≡ get_or (live c) a 0
own-committed c t a room named = words-at c.shape.pages (live_word c.fields c.flash) (durable_word (with_slot t (Some Committed) c.fields) c.flash) a
    (λ lt. ap (λ (x : Option Place). word_at c.fields.frames c.flash x (a % 32)) (kept_by-committed c.fields.slots t (undo c.fields (a / 32)) (place c.fields (a / 32)) room named))

others-committed : (c : Chart) (t a : ℕ) → slot_named (undo c.fields (a / 32)) ≢ Some t → get_or (durable (with_fields c (with_slot t (Some Committed) c.fields))) a 0 ≡ get_or (durable c) a 0
others-committed c t a other = words-at c.shape.pages (durable_word c.fields c.flash) (durable_word (with_slot t (Some Committed) c.fields) c.flash) a
    (λ lt. ap (λ (x : Option Place). word_at c.fields.frames c.flash x (a % 32)) (kept_by-other c.fields.slots t (Some Committed) (undo c.fields (a / 32)) (place c.fields (a / 32)) other))

pub Commits-put : (c new : Chart) (t : ℕ) (r : Result Unit Off) → IsSound c → t < 64 → Writes (with_slot t (Some Committed)) c r new → MatchResult r (λ _. Commits 0 0 t c new) (λ _. Same 0 0 c new ⊎ Commits 0 0 t c new)
Commits-put c new t r sound low writes = exits c new (with_slot t (Some Committed)) r (λ (x : Chart). Commits 0 0 t c x) (λ (x : Chart). Same 0 0 c x ⊎ Commits 0 0 t c x)
    (λ on. record { shape = refl; magic = refl; version = refl; sound = after; own = own-committed_at; others = others-committed c t; live = refl; counted = Counted-fields c (with_slot t (Some Committed) c.fields); worn = Wears-fields c (with_slot t (Some Committed) c.fields) refl })
    (λ off. inl (Same-refl c sound))
    (λ on. inl (record { stays = Stays-failed c c.fields on (Keeps-refl c sound); worn = Wears-failed c c.fields refl }))
    (λ on. inr (record { shape = refl; magic = refl; version = refl; sound = after; own = own-committed_at; others = others-committed c t; live = refl; counted = Counted-failed c (with_slot t (Some Committed) c.fields) on; worn = Wears-failed c (with_slot t (Some Committed) c.fields) refl }))
    writes
  where
    room : t < length c.fields.slots
    room = rw (Slots.long (Sound.slots sound)) low

    after : IsSound (with_fields c (with_slot t (Some Committed) c.fields))
    after = Sound-committed c.shape c.fields c.flash t sound low

    own-committed_at : (a : ℕ) → slot_named (undo c.fields (a / 32)) ≡ Some t → get_or (durable (with_fields c (with_slot t (Some Committed) c.fields))) a 0 ≡ get_or (live c) a 0
    own-committed_at a named = own-committed c t a room named
