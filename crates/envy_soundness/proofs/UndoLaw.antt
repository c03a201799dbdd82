-- Writes of an undo.
use Rattle.std.proofs.Common.{◌≡◌, ◌≢◌, ◌⊎◌, inl, inr, ℕ, ◌+◌, ◌*◌, ◌<◌, ◌≤◌, Bool, true, false, cond, List, length, get_or, set, Option, None, Some, refl, sym, ◌∙◌, ap, subst, arith}
use Rattle.std.specs.Prelude.{IsTrue, Result, count_by}
use Rattle.std.proofs.lemmas.List.{get_or-set_same, get_or-set_other, length-set}
use Rattle.std.proofs.lemmas.List.Sums.{sum_by-set}
use Rattle.std.proofs.lemmas.Bool.{cases_eq}
use Rattle.envy_base.specs.declared.board.Off.{Off}
use Rattle.envy_base.specs.declared.shape.Shape.{Shape}
use Rattle.envy_base.specs.declared.fields.Place.{Place}
use Rattle.envy_base.specs.declared.fields.Place.TheVariants.{Absent, Row}
use Rattle.envy_base.specs.declared.fields.Slot.{Slot}
use Rattle.envy_base.specs.declared.fields.Slot.TheVariants.{Vacant, Active}
use Rattle.envy_base.specs.declared.fields.Undo.{Undo}
use Rattle.envy_base.specs.declared.fields.Undo.TheVariants.{Clear, Blank, Shadow}
use Rattle.envy_map.specs.Fields.{Fields, Chart, with_fields, place, undo, slot}
use Rattle.envy_map.specs.Writes.{Writes, with_undo}
use Rattle.envy_soundness.specs.Words.{kept, kept_by, word_at, durable_word, durable}
use Rattle.envy_soundness.specs.Sound.{Sound, Slots, IsSound, Names, owned_by, slot_named, slots_of}
use Rattle.envy_soundness.specs.May.{MayRefer, MayUndo, IsOpen, HasKept, IsSettled, named_by}
use Rattle.envy_soundness.specs.Same.{Same, SameWords, Framed}
use Rattle.envy_soundness.proofs.KeptLemmas.{kept_by-active, owned_by-active}
use Rattle.envy_soundness.proofs.References.{References, References-fewer, References-more}
use Rattle.envy_soundness.proofs.PlaceLaw.{range-refer}
use Rattle.envy_soundness.proofs.WordLists.{words-same}
use Rattle.envy_soundness.proofs.Composition.{Keeps, KeepsWords, Same-put, SameWords-put}

abbrev pub UndoCases : Fields → ℕ → Option Undo → ℕ → Type 0
UndoCases f p u r = ((r ≡ p) × (undo (with_undo p u f) r ≡ u)) ⊎ ((r ≡ p → ⊥) × (undo (with_undo p u f) r ≡ undo f r))

pub undo-cases : (f : Fields) (p r : ℕ) (u : Option Undo) → p < length f.undos → UndoCases f p u r
undo-cases f p r u room = by_page (cases_eq r p)
  where
    by_page : (r ≡ p) ⊎ (r ≡ p → ⊥) → UndoCases f p u r
    by_page (inl same) = inl (same, rw same (get_or-set_same f.undos p u None room))
    by_page (inr other) = inr (other, get_or-set_other f.undos p r u None other)

-- where a restart reads a page then
abbrev pub KeptCases : Fields → ℕ → Undo → ℕ → Type 0
KeptCases f p u r = ((r ≡ p) × (kept (with_undo p (Some u) f) r ≡ kept_by f.slots (Some u) (place f p))) ⊎ ((r ≡ p → ⊥) × (kept (with_undo p (Some u) f) r ≡ kept f r))

pub kept-cases : (f : Fields) (p r : ℕ) (u : Undo) → p < length f.undos → KeptCases f p u r
kept-cases f p r u room = at (undo-cases f p r (Some u) room)
  where
    at : UndoCases f p (Some u) r → KeptCases f p u r
    at (inl (same, is)) = inl (same, ap (λ (x : Option Undo). kept_by f.slots x (place f r)) is ∙ ap (λ (x : ℕ). kept_by f.slots (Some u) (place f x)) same)
    at (inr (other, is)) = inr (other, ap (λ (x : Option Undo). kept_by f.slots x (place f r)) is)

-- the undo's slot is one of the board's, and not vacant; its row is in range; and few pages are owned
pub record Undoes (sh : Shape) (f : Fields) (p : ℕ) (u : Undo) : Type 0 where
  pub slot : (t : ℕ) → slot_named (Some u) ≡ Some t → (t < slots_of f.version) × (get_or f.slots t None ≢ Some Vacant)
  pub row : (t q : ℕ) → u ≡ Shadow t q → q < sh.segments * sh.rows
  pub few : count_by (owned_by f.slots) (set f.undos p (Some u)) ≤ sh.shadows

pub room-undo : (sh : Shape) (f : Fields) (flash : List (List ℕ)) (p : ℕ) → Sound sh f flash → p < sh.pages → p < length f.undos
room-undo sh f flash p s page = rw (Slots.undos_long s.slots) page

Slots-undone : (sh : Shape) (f : Fields) (flash : List (List ℕ)) (p : ℕ) (u : Undo) → Sound sh f flash → p < sh.pages → Undoes sh f p u → Slots sh f.version f.slots (set f.undos p (Some u))
Slots-undone sh f flash p u s page new = record {
  long = Slots.long s.slots;
  decode = Slots.decode s.slots;
  undos_long = length-set f.undos p (Some u) ∙ Slots.undos_long s.slots;
  undos_decode = λ r lt. there r lt (at r);
  named = λ r t e. named r t (at r) e;
  rows = λ r t q e. ranged r t q (at r) e;
  in_use = λ r t e. used r t (at r) e;
  few = new.few;
}
  where
    at : (r : ℕ) → UndoCases f p (Some u) r
    at r = undo-cases f p r (Some u) (room-undo sh f flash p s page)

    there : (r : ℕ) → r < sh.pages → UndoCases f p (Some u) r → undo (with_undo p (Some u) f) r ≢ None
    there r lt (inl (same, is)) none = cc
    there r lt (inr (other, is)) none = Slots.undos_decode s.slots r lt (sym is ∙ none)

    named : (r t : ℕ) → UndoCases f p (Some u) r → slot_named (undo (with_undo p (Some u) f) r) ≡ Some t → t < slots_of f.version
    named r t (inl (same, is)) e = (new.slot t (ap slot_named (sym is) ∙ e)).0
    named r t (inr (other, is)) e = Slots.named s.slots r t (ap slot_named (sym is) ∙ e)

    ranged : (r t q : ℕ) → UndoCases f p (Some u) r → undo (with_undo p (Some u) f) r ≡ Some (Shadow t q) → q < sh.segments * sh.rows
    ranged r t q (inl (same, is)) e = new.row t q (let one : Some u ≡ Some (Shadow t q) = sym is ∙ e in cc)
    ranged r t q (inr (other, is)) e = Slots.rows s.slots r t q (sym is ∙ e)

    used : (r t : ℕ) → UndoCases f p (Some u) r → slot_named (undo (with_undo p (Some u) f) r) ≡ Some t → get_or f.slots t None ≢ Some Vacant
    used r t (inl (same, is)) e = (new.slot t (ap slot_named (sym is) ∙ e)).1
    used r t (inr (other, is)) e = Slots.in_use s.slots r t (ap slot_named (sym is) ∙ e)

pub Sound-undone : (sh : Shape) (f : Fields) (flash : List (List ℕ)) (p : ℕ) (u : Undo) → p < sh.pages → Undoes sh f p u → References sh (with_undo p (Some u) f) flash → Sound sh f flash → Sound sh (with_undo p (Some u) f) flash
Sound-undone sh f flash p u page new refers s = record {
  head = s.head;
  slots = Slots-undone sh f flash p u s page new;
  places = s.places;
  rows = refers.rows;
  numbers = s.numbers;
  blanks = s.blanks;
  homes = refers.homes;
  job = refers.job;
}

-- how many pages are owned then
count-undone : (slots : List (Option Slot)) (undos : List (Option Undo)) (p : ℕ) (u : Option Undo) → p < length undos → count_by (owned_by slots) (set undos p u) + cond (owned_by slots (get_or undos p None)) 1 0 ≡ count_by (owned_by slots) undos + cond (owned_by slots u) 1 0
count-undone slots undos p u room = sum_by-set (λ (x : Option Undo). cond (owned_by slots x) 1 0) undos p u None room

not-vacant : (slots : List (Option Slot)) (t : ℕ) → get_or slots t None ≡ Some Active → get_or slots t None ≢ Some Vacant
not-vacant slots t active vacant = cc

-- an undo of an active slot in place of one, or of none
Undoes-active : (sh : Shape) (f : Fields) (flash : List (List ℕ)) (p : ℕ) (u : Undo) (t : ℕ) → slot_named (Some u) ≡ Some t → IsOpen f t → ((s q : ℕ) → u ≡ Shadow s q → q < sh.segments * sh.rows) → count_by (owned_by f.slots) (set f.undos p (Some u)) ≤ sh.shadows → Undoes sh f p u
Undoes-active sh f flash p u t names open_slot ranged few = record {
  slot = λ s e. let same : Some t ≡ Some s = sym names ∙ e in let one : t ≡ s = cc in rw (← one) (open_slot.0, not-vacant f.slots t open_slot.1);
  row = ranged;
  few = few;
}

few-first : (sh : Shape) (f : Fields) (p : ℕ) (u : Option Undo) → p < length f.undos → count_by (owned_by f.slots) f.undos < sh.shadows → count_by (owned_by f.slots) (set f.undos p u) ≤ sh.shadows
few-first sh f p u room few = let count = count-undone f.slots f.undos p u room in let most : cond (owned_by f.slots u) 1 0 ≤ 1 = at (owned_by f.slots u) in omega arith
  where
    at : (b : Bool) → cond b 1 0 ≤ 1
    at true = omega arith
    at false = omega arith

few-again : (sh : Shape) (f : Fields) (flash : List (List ℕ)) (p : ℕ) (u : Option Undo) → Sound sh f flash → p < length f.undos → owned_by f.slots (undo f p) ≡ true → count_by (owned_by f.slots) (set f.undos p u) ≤ sh.shadows
few-again sh f flash p u s room owned = let count = rw owned at (count-undone f.slots f.undos p u room) in let most : cond (owned_by f.slots u) 1 0 ≤ 1 = at (owned_by f.slots u) in let few = Slots.few s.slots in omega arith
  where
    at : (b : Bool) → cond b 1 0 ≤ 1
    at true = omega arith
    at false = omega arith

few-cleared : (sh : Shape) (f : Fields) (flash : List (List ℕ)) (p : ℕ) → Sound sh f flash → p < length f.undos → count_by (owned_by f.slots) (set f.undos p (Some Clear)) ≤ sh.shadows
few-cleared sh f flash p s room = let count = count-undone f.slots f.undos p (Some Clear) room in let few = Slots.few s.slots in omega arith

-- where a restart reads what has the words that it read before, what it leaves stays
durable-undone : (c : Chart) (p : ℕ) (u : Undo) → p < length c.fields.undos → HasKept c.fields c.flash p (kept_by c.fields.slots (Some u) (place c.fields p)) → durable (with_fields c (with_undo p (Some u) c.fields)) ≡ durable c
durable-undone c p u room same = words-same c.shape.pages _ _ (λ r j lt. at r j lt (kept-cases c.fields p r u room))
  where
    at : (r j : ℕ) → j < 32 → KeptCases c.fields p u r → word_at c.fields.frames c.flash (kept (with_undo p (Some u) c.fields) r) j ≡ durable_word c.fields c.flash r j
    at r j lt (inl (here, is)) = rw (is, here) (same j lt)
    at r j lt (inr (other, is)) = rw is refl

-- a page goes back to a row from then on
refers-shadow : (f : Fields) (p t q r x : ℕ) → p < length f.undos → get_or f.slots t None ≡ Some Active → Names (with_undo p (Some (Shadow t q)) f) r x → Names f r x ⊎ ((r ≡ p) × (x ≡ q))
refers-shadow f p t q r x room active (inl by_place) = inl (inl by_place)
refers-shadow f p t q r x room active (inr by_undo) = at (kept-cases f p r (Shadow t q) room)
  where
    at : KeptCases f p (Shadow t q) r → Names f r x ⊎ ((r ≡ p) × (x ≡ q))
    at (inl (same, is)) =
        let row : Some (Row q) ≡ Some (Row x) = sym (kept_by-active f.slots (Shadow t q) t (place f p) refl active) ∙ sym is ∙ by_undo in
        inr (same, let one : q ≡ x = cc in sym one)
    at (inr (other, is)) = inl (inr (sym is ∙ by_undo))

-- or to zeros
refers-blank : (f : Fields) (p t r x : ℕ) → p < length f.undos → get_or f.slots t None ≡ Some Active → Names (with_undo p (Some (Blank t)) f) r x → Names f r x
refers-blank f p t r x room active (inl by_place) = inl by_place
refers-blank f p t r x room active (inr by_undo) = at (kept-cases f p r (Blank t) room)
  where
    at : KeptCases f p (Blank t) r → Names f r x
    at (inl (same, is)) = let absent : Some Absent ≡ Some (Row x) = sym (kept_by-active f.slots (Blank t) t (place f p) refl active) ∙ sym is ∙ by_undo in cc
    at (inr (other, is)) = inr (sym is ∙ by_undo)

Sound-shadow : (sh : Shape) (f : Fields) (flash : List (List ℕ)) (p t q : ℕ) → Sound sh f flash → p < sh.pages → IsOpen f t → MayRefer sh f p q → count_by (owned_by f.slots) (set f.undos p (Some (Shadow t q))) ≤ sh.shadows → Sound sh (with_undo p (Some (Shadow t q)) f) flash
Sound-shadow sh f flash p t q s page open_slot may few =
    Sound-undone sh f flash p (Shadow t q) page
    (Undoes-active sh f flash p (Shadow t q) t refl open_slot (λ u x e. let same : q ≡ x = cc in rw (← same) (range-refer sh f flash p q s may)) few)
    (References-more sh f flash f.slots (set f.undos p (Some (Shadow t q))) f.places p q s may (λ r x n. refers-shadow f p t q r x (room-undo sh f flash p s page) open_slot.1 n))
    s

Sound-blank : (sh : Shape) (f : Fields) (flash : List (List ℕ)) (p t : ℕ) → Sound sh f flash → p < sh.pages → IsOpen f t → count_by (owned_by f.slots) (set f.undos p (Some (Blank t))) ≤ sh.shadows → Sound sh (with_undo p (Some (Blank t)) f) flash
Sound-blank sh f flash p t s page open_slot few =
    Sound-undone sh f flash p (Blank t) page
    (Undoes-active sh f flash p (Blank t) t refl open_slot (λ u x e. cc) few)
    (References-fewer sh f flash f.slots (set f.undos p (Some (Blank t))) f.places s (λ r x n. refers-blank f p t r x (room-undo sh f flash p s page) open_slot.1 n))
    s

-- what a restart reads where the undo is of an active slot
HasKept-active : (f : Fields) (flash : List (List ℕ)) (p : ℕ) (u : Undo) (t : ℕ) → slot_named (Some u) ≡ Some t → get_or f.slots t None ≡ Some Active → HasKept f flash p (named_by u) → HasKept f flash p (kept_by f.slots (Some u) (place f p))
HasKept-active f flash p u t names active has = subst (λ (x : Option Place). HasKept f flash p x) (sym (kept_by-active f.slots u t (place f p) names active)) has

-- a page that nobody owned gets an undo
pub KeepsWords-owned : (c : Chart) (p : ℕ) (u : Undo) → IsSound c → p < c.shape.pages → count_by (owned_by c.fields.slots) c.fields.undos < c.shape.shadows → MayUndo c.shape c.fields c.flash p u → KeepsWords c (with_undo p (Some u) c.fields)
KeepsWords-owned c p Clear sound page few may = absurd may
KeepsWords-owned c p (Blank t) sound page few (open_slot, has) =
    let room = room-undo c.shape c.fields c.flash p sound page in
    record {
      magic = refl;
      version = refl;
      wears = refl;
      sound = Sound-blank c.shape c.fields c.flash p t sound page open_slot (few-first c.shape c.fields p (Some (Blank t)) room few);
      live = refl;
      durable = durable-undone c p (Blank t) room (HasKept-active c.fields c.flash p (Blank t) t refl open_slot.1 has);
    }
KeepsWords-owned c p (Shadow t q) sound page few (open_slot, may, has) =
    let room = room-undo c.shape c.fields c.flash p sound page in
    record {
      magic = refl;
      version = refl;
      wears = refl;
      sound = Sound-shadow c.shape c.fields c.flash p t q sound page open_slot may (few-first c.shape c.fields p (Some (Shadow t q)) room few);
      live = refl;
      durable = durable-undone c p (Shadow t q) room (HasKept-active c.fields c.flash p (Shadow t q) t refl open_slot.1 has);
    }

pub SameWords-owned : (c new : Chart) (p : ℕ) (u : Undo) (r : Result Unit Off) → IsSound c → p < c.shape.pages → (IsTrue c.on → count_by (owned_by c.fields.slots) c.fields.undos < c.shape.shadows) → (IsTrue c.on → MayUndo c.shape c.fields c.flash p u) → Writes (with_undo p (Some u)) c r new → SameWords 0 0 c new
SameWords-owned c new p u r sound page few may writes = SameWords-put c new (with_undo p (Some u)) r sound (λ on. KeepsWords-owned c p u sound page (few on) (may on)) writes

-- the owners of pages, where the page's own undo keeps its slot
pub Framed-undone : (c : Chart) (p : ℕ) (u : Undo) → p < length c.fields.undos → slot_named (Some u) ≡ slot_named (undo c.fields p) → Framed c (with_fields c (with_undo p (Some u) c.fields))
Framed-undone c p u room same = record { shape = refl; magic = refl; version = refl; slots = refl; owners = λ r. at r (undo-cases c.fields p r (Some u) room) }
  where
    at : (r : ℕ) → UndoCases c.fields p (Some u) r → slot_named (undo (with_undo p (Some u) c.fields) r) ≡ slot_named (undo c.fields r)
    at r (inl (here, is)) = ap slot_named is ∙ same ∙ ap (λ (x : ℕ). slot_named (undo c.fields x)) (sym here)
    at r (inr (other, is)) = ap slot_named is

-- the page is owned by an active slot
pub record IsOwned (f : Fields) (p t : ℕ) : Type 0 where
  pub slot : slot_named (undo f p) ≡ Some t
  pub active : get_or f.slots t None ≡ Some Active

pub open-owned : (sh : Shape) (f : Fields) (flash : List (List ℕ)) (p t : ℕ) → Sound sh f flash → IsOwned f p t → IsOpen f t
open-owned sh f flash p t s own = (Slots.named s.slots p t own.slot, own.active)

pub few-owned : (sh : Shape) (f : Fields) (flash : List (List ℕ)) (p t : ℕ) (u : Option Undo) → Sound sh f flash → p < sh.pages → IsOwned f p t → count_by (owned_by f.slots) (set f.undos p u) ≤ sh.shadows
few-owned sh f flash p t u s page own = few-again sh f flash p u s (room-undo sh f flash p s page) (owned_by-active f.slots (undo f p) t own.slot own.active)

-- an active undo goes to another row
pub Keeps-shadowed : (c : Chart) (p t q : ℕ) → IsSound c → p < c.shape.pages → IsOwned c.fields p t → IsSound (with_fields c (with_undo p (Some (Shadow t q)) c.fields)) → HasKept c.fields c.flash p (Some (Row q)) → Keeps c (with_undo p (Some (Shadow t q)) c.fields)
Keeps-shadowed c p t q sound page own after has =
    let room = room-undo c.shape c.fields c.flash p sound page in
    record {
      framed = Framed-undone c p (Shadow t q) room (sym own.slot);
      sound = after;
      live = refl;
      durable = durable-undone c p (Shadow t q) room (HasKept-active c.fields c.flash p (Shadow t q) t refl own.active has);
    }

pub Same-shadowed : (c new : Chart) (p t q : ℕ) (r : Result Unit Off) → IsSound c → p < c.shape.pages → (IsTrue c.on → slot_named (undo c.fields p) ≡ Some t) → (IsTrue c.on → slot c.fields t ≡ Some Active) → (IsTrue c.on → MayRefer c.shape c.fields p q) → (IsTrue c.on → HasKept c.fields c.flash p (Some (Row q))) → Writes (with_undo p (Some (Shadow t q))) c r new → Same 0 0 c new
Same-shadowed c new p t q r sound page names active may has writes = Same-put c new (with_undo p (Some (Shadow t q))) r sound (λ on. law (record { slot = names on; active = active on }) (may on) (has on)) refl writes
  where
    law : IsOwned c.fields p t → MayRefer c.shape c.fields p q → HasKept c.fields c.flash p (Some (Row q)) → Keeps c (with_undo p (Some (Shadow t q)) c.fields)
    law own may has = Keeps-shadowed c p t q sound page own (Sound-shadow c.shape c.fields c.flash p t q sound page (open-owned c.shape c.fields c.flash p t sound own) may (few-owned c.shape c.fields c.flash p t (Some (Shadow t q)) sound page own)) has

-- an undo is cleared, where a restart reads the page at its place
kept-cleared : (f : Fields) (p r : ℕ) → p < length f.undos → IsSettled f p → kept (with_undo p (Some Clear) f) r ≡ kept f r
kept-cleared f p r room settled = at (kept-cases f p r Clear room)
  where
    at : KeptCases f p Clear r → kept (with_undo p (Some Clear) f) r ≡ kept f r
    at (inl (same, is)) = is ∙ rw same (sym settled)
    at (inr (other, is)) = is

pub KeepsWords-cleared : (c : Chart) (p : ℕ) → IsSound c → p < c.shape.pages → IsSettled c.fields p → KeepsWords c (with_undo p (Some Clear) c.fields)
KeepsWords-cleared c p sound page settled =
    let room = room-undo c.shape c.fields c.flash p sound page in
    record {
      magic = refl;
      version = refl;
      wears = refl;
      sound = Sound-undone c.shape c.fields c.flash p Clear page
          (record { slot = λ t e. cc; row = λ t q e. cc; few = few-cleared c.shape c.fields c.flash p sound room })
          (References-fewer c.shape c.fields c.flash c.fields.slots (set c.fields.undos p (Some Clear)) c.fields.places sound (λ r q n. was r q room n))
          sound;
      live = refl;
      durable = words-same c.shape.pages _ _ (λ r j lt. ap (λ (x : Option Place). word_at c.fields.frames c.flash x j) (kept-cleared c.fields p r room settled));
    }
  where
    was : (r q : ℕ) → p < length c.fields.undos → Names (with_undo p (Some Clear) c.fields) r q → Names c.fields r q
    was r q room (inl e) = inl e
    was r q room (inr e) = inr (sym (kept-cleared c.fields p r room settled) ∙ e)

pub SameWords-cleared : (c new : Chart) (p : ℕ) (r : Result Unit Off) → IsSound c → p < c.shape.pages → (IsTrue c.on → IsSettled c.fields p) → Writes (with_undo p (Some Clear)) c r new → SameWords 0 0 c new
SameWords-cleared c new p r sound page settled writes = SameWords-put c new (with_undo p (Some Clear)) r sound (λ on. KeepsWords-cleared c p sound page (settled on)) writes
