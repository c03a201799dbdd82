-- A place goes to what the page's active undo names.
use Rattle.std.proofs.Common.{◌≡◌, ◌≢◌, inl, inr, ℕ, ◌/◌, ◌%◌, ◌<◌, true, false, length, Option, None, Some, refl, sym, ◌∙◌, ap}
use Rattle.std.specs.Prelude.{IsTrue, Result, Ok, Err, OnOk}
use Rattle.std.proofs.lemmas.List.{get_or-set_same}
use Rattle.envy_base.specs.declared.board.Off.{Off}
use Rattle.envy_base.specs.declared.shape.Shape.{Shape}
use Rattle.envy_base.specs.declared.fields.Place.{Place}
use Rattle.envy_base.specs.declared.fields.Place.TheVariants.{Absent, Row, Frame}
use Rattle.envy_map.specs.Fields.{Fields, Chart, with_fields, place, undo}
use Rattle.envy_map.specs.Writes.{Writes, with_place}
use Rattle.envy_soundness.specs.Words.{kept, word_at, live_word, durable_word}
use Rattle.envy_soundness.specs.Sound.{IsSound, owned_by}
use Rattle.envy_soundness.specs.May.{MayTake, IsSettled}
use Rattle.envy_soundness.specs.Same.{SameDurable, Restored}
use Rattle.envy_soundness.proofs.KeptLemmas.{kept_by-free, kept_by-owned, kept_by-no_frame}
use Rattle.envy_soundness.proofs.PlaceLaw.{PlaceCases, place-cases, Sound-taken, room-page, durable-owned}
use Rattle.envy_soundness.proofs.WordLists.{words-at}
use Rattle.envy_soundness.proofs.Composition.{KeepsDurable, SameDurable-put}

-- what an active undo names may be taken
MayTake-kept : (sh : Shape) (f : Fields) (p : ℕ) (x : Place) → owned_by f.slots (undo f p) ≡ true → kept f p ≡ Some x → MayTake sh f p x
MayTake-kept sh f p Absent owned names = tt
MayTake-kept sh f p (Row q) owned names = inl (inr names)
MayTake-kept sh f p (Frame k) owned names = absurd (kept_by-no_frame f.slots (undo f p) (place f p) k owned names)

KeepsDurable-restored : (c : Chart) (p : ℕ) (x : Place) → IsSound c → p < c.shape.pages → owned_by c.fields.slots (undo c.fields p) ≡ true → kept c.fields p ≡ Some x → KeepsDurable c (with_place p (Some x) c.fields)
KeepsDurable-restored c p x sound page owned names = record {
  magic = refl;
  version = refl;
  wears = refl;
  sound = Sound-taken c.shape c.fields c.flash p x page (MayTake-kept c.shape c.fields p x owned names) sound;
  durable = durable-owned c p x (room-page c.shape c.fields c.flash p sound page) owned;
}

pub SameDurable-restored : (c new : Chart) (p : ℕ) (x : Place) (r : Result Unit Off) → IsSound c → p < c.shape.pages → (IsTrue c.on → owned_by c.fields.slots (undo c.fields p) ≡ true) → (IsTrue c.on → kept c.fields p ≡ Some x) → Writes (with_place p (Some x)) c r new → SameDurable 0 0 c new
SameDurable-restored c new p x r sound page owned names writes = SameDurable-put c new (with_place p (Some x)) r sound (λ on. KeepsDurable-restored c p x sound page (owned on) (names on)) writes

-- the undo may then be cleared
pub settled-restored : (f : Fields) (p : ℕ) (x : Place) → p < length f.places → owned_by f.slots (undo f p) ≡ true → kept f p ≡ Some x → IsSettled (with_place p (Some x) f) p
settled-restored f p x room owned names = kept_by-owned f.slots (undo f p) (place f p) (place (with_place p (Some x) f) p) owned ∙ names ∙ sym (get_or-set_same f.places p (Some x) None room)

-- as that of a page which no transaction owns
pub settled-free : (f : Fields) (p : ℕ) → owned_by f.slots (undo f p) ≡ false → IsSettled f p
settled-free f p free = kept_by-free f.slots (undo f p) (place f p) free

-- loads then read what a restart leaves
restored : (c : Chart) (p : ℕ) (x : Place) → p < length c.fields.places → kept c.fields p ≡ Some x → Restored p c (with_fields c (with_place p (Some x) c.fields))
restored c p x room names = record {
  own = λ a same. words-at c.shape.pages (durable_word c.fields c.flash) (live_word (with_place p (Some x) c.fields) c.flash) a (λ lt. here a same (place-cases c.fields p (a / 32) (Some x) room));
  others = λ a other. words-at c.shape.pages (live_word c.fields c.flash) (live_word (with_place p (Some x) c.fields) c.flash) a (λ lt. there a other (place-cases c.fields p (a / 32) (Some x) room));
}
  where
    here : (a : ℕ) → a / 32 ≡ p → PlaceCases c.fields p (Some x) (a / 32) → live_word (with_place p (Some x) c.fields) c.flash (a / 32) (a % 32) ≡ durable_word c.fields c.flash (a / 32) (a % 32)
    here a same (inl (one, is)) = ap (λ (y : Option Place). word_at c.fields.frames c.flash y (a % 32)) (is ∙ sym names ∙ ap (λ (r : ℕ). kept c.fields r) (sym same))
    here a same (inr (other, is)) = absurd (other same)

    there : (a : ℕ) → a / 32 ≢ p → PlaceCases c.fields p (Some x) (a / 32) → live_word (with_place p (Some x) c.fields) c.flash (a / 32) (a % 32) ≡ live_word c.fields c.flash (a / 32) (a % 32)
    there a other (inl (same, is)) = absurd (other same)
    there a other (inr (far, is)) = ap (λ (y : Option Place). word_at c.fields.frames c.flash y (a % 32)) is

pub Restored-put : (c new : Chart) (p : ℕ) (x : Place) (r : Result Unit Off) → IsSound c → p < c.shape.pages → (IsTrue c.on → kept c.fields p ≡ Some x) → Writes (with_place p (Some x)) c r new → OnOk r (Restored p c new)
Restored-put c new p x (Ok done) sound page names (on, is) = rw is (restored c p x (room-page c.shape c.fields c.flash p sound page) (names on))
Restored-put c new p x (Err off) sound page names stopped = tt
