-- Writes of a place.
use Rattle.std.proofs.Common.{◌≡◌, ◌≢◌, ◌⊎◌, inl, inr, ℕ, ◌+◌, ◌*◌, ◌<◌, Bool, true, false, cond, List, length, set, Option, None, Some, refl, sym, ◌∙◌, ap, subst, arith}
use Rattle.std.specs.Prelude.{◌==◌, ◌&&◌, IsTrue, Result, MatchResult}
use Rattle.std.proofs.lemmas.List.{get_or-set_same, get_or-set_other, length-set}
use Rattle.std.proofs.lemmas.Bool.{cases_eq, eq-eqb, ne_eqb}
use Rattle.envy_base.specs.declared.board.Off.{Off}
use Rattle.envy_base.specs.declared.shape.Shape.{Shape}
use Rattle.envy_base.specs.declared.fields.Place.{Place}
use Rattle.envy_base.specs.declared.fields.Place.TheVariants.{Absent, Row, Frame}
use Rattle.envy_map.specs.Fields.{Fields, Chart, with_fields, place, undo}
use Rattle.envy_map.specs.Writes.{Writes, with_place}
use Rattle.envy_soundness.specs.Words.{kept, kept_by, word_at, live_word, durable_word, live, durable}
use Rattle.envy_soundness.specs.Sound.{Sound, Places, IsSound, Names, owned_by}
use Rattle.envy_soundness.specs.May.{IsUnnamed, MayRefer, MayTake, HasPage, HasChanged}
use Rattle.envy_soundness.specs.Same.{Same, Stored, Interrupted, Shadowed, Dropped, Framed}
use Rattle.envy_soundness.proofs.KeptLemmas.{kept_by-free, kept_by-owned, Names-range}
use Rattle.envy_soundness.proofs.References.{References, References-fewer, References-more}
use Rattle.envy_soundness.proofs.WordLists.{words-same, words-set}
use Rattle.envy_soundness.proofs.Composition.{Keeps, Same-put}
use Rattle.envy_soundness.proofs.WordPuts.{Changes, Shadows, Stored-put, Shadowed-put}

-- the place of a page after a write of one
abbrev pub PlaceCases : Fields → ℕ → Option Place → ℕ → Type 0
PlaceCases f p x r = ((r ≡ p) × (place (with_place p x f) r ≡ x)) ⊎ ((r ≡ p → ⊥) × (place (with_place p x f) r ≡ place f r))

pub place-cases : (f : Fields) (p r : ℕ) (x : Option Place) → p < length f.places → PlaceCases f p x r
place-cases f p r x room = by_page (cases_eq r p)
  where
    by_page : (r ≡ p) ⊎ (r ≡ p → ⊥) → PlaceCases f p x r
    by_page (inl same) = inl (same, rw same (get_or-set_same f.places p x None room))
    by_page (inr other) = inr (other, get_or-set_other f.places p r x None other)

-- a row that is named then was named, or is what the place names
pub Names-placed : (f : Fields) (p : ℕ) (x : Option Place) (r q : ℕ) → p < length f.places → Names (with_place p x f) r q → Names f r q ⊎ ((r ≡ p) × (x ≡ Some (Row q)))
Names-placed f p x r q room names = at (place-cases f p r x room) names
  where
    by_owner : (b : Bool) → owned_by f.slots (undo f r) ≡ b → r ≡ p → kept_by f.slots (undo f r) x ≡ Some (Row q) → Names f r q ⊎ ((r ≡ p) × (x ≡ Some (Row q)))
    by_owner true owned same e = inl (inr (kept_by-owned f.slots (undo f r) x (place f r) owned ∙ e))
    by_owner false free same e = inr (same, sym (kept_by-free f.slots (undo f r) x free) ∙ e)

    at : PlaceCases f p x r → Names (with_place p x f) r q → Names f r q ⊎ ((r ≡ p) × (x ≡ Some (Row q)))
    at (inl (same, is)) (inl e) = inr (same, sym is ∙ e)
    at (inl (same, is)) (inr e) = by_owner (owned_by f.slots (undo f r)) refl same (ap (λ (y : Option Place). kept_by f.slots (undo f r) y) (sym is) ∙ e)
    at (inr (other, is)) (inl e) = inl (inl (sym is ∙ e))
    at (inr (other, is)) (inr e) = inl (inr (ap (λ (y : Option Place). kept_by f.slots (undo f r) y) (sym is) ∙ e))

-- the row is in range, and the frame is no other page's
pub record Fits (sh : Shape) (f : Fields) (p : ℕ) (x : Place) : Type 0 where
  pub row : (q : ℕ) → x ≡ Row q → q < sh.segments * sh.rows
  pub frame : (k : ℕ) → x ≡ Frame k → (k < sh.frames) × ((r : ℕ) → place f r ≡ Some (Frame k) → r ≡ p)

Places-placed : (sh : Shape) (f : Fields) (p : ℕ) (x : Place) → p < sh.pages → Fits sh f p x → Places sh f.places → Places sh (set f.places p (Some x))
Places-placed sh f p x page fits s = record {
  long = length-set f.places p (Some x) ∙ s.long;
  decode = λ r lt. there r lt (place-cases f p r (Some x) room);
  rows = λ r q. ranged r q (place-cases f p r (Some x) room);
  frames = λ r k. framed r k (place-cases f p r (Some x) room);
  apart = λ r t k. one r t k (place-cases f p r (Some x) room) (place-cases f p t (Some x) room);
}
  where
    room : p < length f.places
    room = rw s.long page

    there : (r : ℕ) → r < sh.pages → PlaceCases f p (Some x) r → place (with_place p (Some x) f) r ≢ None
    there r lt (inl (same, is)) none = cc
    there r lt (inr (other, is)) none = s.decode r lt (sym is ∙ none)

    ranged : (r q : ℕ) → PlaceCases f p (Some x) r → place (with_place p (Some x) f) r ≡ Some (Row q) → q < sh.segments * sh.rows
    ranged r q (inl (same, is)) e = fits.row q (let at : Some x ≡ Some (Row q) = sym is ∙ e in cc)
    ranged r q (inr (other, is)) e = s.rows r q (sym is ∙ e)

    framed : (r k : ℕ) → PlaceCases f p (Some x) r → place (with_place p (Some x) f) r ≡ Some (Frame k) → k < sh.frames
    framed r k (inl (same, is)) e = (fits.frame k (let at : Some x ≡ Some (Frame k) = sym is ∙ e in cc)).0
    framed r k (inr (other, is)) e = s.frames r k (sym is ∙ e)

    one : (r t k : ℕ) → PlaceCases f p (Some x) r → PlaceCases f p (Some x) t → place (with_place p (Some x) f) r ≡ Some (Frame k) → place (with_place p (Some x) f) t ≡ Some (Frame k) → r ≡ t
    one r t k (inl (er, ir)) (inl (et, it)) e d = er ∙ sym et
    one r t k (inl (er, ir)) (inr (nt, it)) e d = absurd (nt ((fits.frame k (let at : Some x ≡ Some (Frame k) = sym ir ∙ e in cc)).1 t (sym it ∙ d)))
    one r t k (inr (nr, ir)) (inl (et, it)) e d = absurd (nr ((fits.frame k (let at : Some x ≡ Some (Frame k) = sym it ∙ d in cc)).1 r (sym ir ∙ e)))
    one r t k (inr (nr, ir)) (inr (nt, it)) e d = s.apart r t k (sym ir ∙ e) (sym it ∙ d)

pub Sound-placed : (sh : Shape) (f : Fields) (flash : List (List ℕ)) (p : ℕ) (x : Place) → p < sh.pages → Fits sh f p x → References sh (with_place p (Some x) f) flash → Sound sh f flash → Sound sh (with_place p (Some x) f) flash
Sound-placed sh f flash p x page fits refers s = record {
  head = s.head;
  slots = s.slots;
  places = Places-placed sh f p x page fits s.places;
  rows = refers.rows;
  numbers = s.numbers;
  blanks = s.blanks;
  homes = refers.homes;
  job = refers.job;
}

pub room-page : (sh : Shape) (f : Fields) (flash : List (List ℕ)) (p : ℕ) → Sound sh f flash → p < sh.pages → p < length f.places
room-page sh f flash p s page = rw (Places.long s.places) page

pub range-refer : (sh : Shape) (f : Fields) (flash : List (List ℕ)) (p q : ℕ) → Sound sh f flash → MayRefer sh f p q → q < sh.segments * sh.rows
range-refer sh f flash p q s (inl named) = Names-range sh f flash p q s named
range-refer sh f flash p q s (inr may) = may.range

-- a place that may be taken
pub Sound-taken : (sh : Shape) (f : Fields) (flash : List (List ℕ)) (p : ℕ) (x : Place) → p < sh.pages → MayTake sh f p x → Sound sh f flash → Sound sh (with_place p (Some x) f) flash
Sound-taken sh f flash p Absent page may s =
    Sound-placed sh f flash p Absent page (record { row = λ q e. cc; frame = λ k e. cc })
    (References-fewer sh f flash f.slots f.undos (set f.places p (Some Absent)) s (λ r q n. was r q (Names-placed f p (Some Absent) r q (room-page sh f flash p s page) n)))
    s
  where
    was : (r q : ℕ) → Names f r q ⊎ ((r ≡ p) × (Some Absent ≡ Some (Row q))) → Names f r q
    was r q (inl n) = n
    was r q (inr (same, is)) = cc
Sound-taken sh f flash p (Frame k) page may s =
    Sound-placed sh f flash p (Frame k) page (record { row = λ q e. cc; frame = λ h e. let same : k ≡ h = cc in subst (λ (n : ℕ). (n < sh.frames) × ((r : ℕ) → place f r ≡ Some (Frame n) → r ≡ p)) same may })
    (References-fewer sh f flash f.slots f.undos (set f.places p (Some (Frame k))) s (λ r q n. was r q (Names-placed f p (Some (Frame k)) r q (room-page sh f flash p s page) n)))
    s
  where
    was : (r q : ℕ) → Names f r q ⊎ ((r ≡ p) × (Some (Frame k) ≡ Some (Row q))) → Names f r q
    was r q (inl n) = n
    was r q (inr (same, is)) = cc
Sound-taken sh f flash p (Row x) page may s =
    Sound-placed sh f flash p (Row x) page (record { row = λ q e. let same : x ≡ q = cc in rw (← same) (range-refer sh f flash p x s may); frame = λ k e. cc })
    (References-more sh f flash f.slots f.undos (set f.places p (Some (Row x))) p x s may (λ r q n. added r q (Names-placed f p (Some (Row x)) r q (room-page sh f flash p s page) n)))
    s
  where
    added : (r q : ℕ) → Names f r q ⊎ ((r ≡ p) × (Some (Row x) ≡ Some (Row q))) → Names f r q ⊎ ((r ≡ p) × (q ≡ x))
    added r q (inl n) = inl n
    added r q (inr (same, is)) = inr (same, let at : x ≡ q = cc in sym at)

Framed-placed : (c : Chart) (p : ℕ) (x : Option Place) → Framed c (with_fields c (with_place p x c.fields))
Framed-placed c p x = record { shape = refl; magic = refl; version = refl; slots = refl; owners = λ r. refl }

-- the place goes to what has the page's words
pub live-copied : (c : Chart) (p : ℕ) (x : Place) → p < length c.fields.places → HasPage c.fields c.flash p x → live (with_fields c (with_place p (Some x) c.fields)) ≡ live c
live-copied c p x room same = words-same c.shape.pages _ _ (λ r j lt. at r j lt (place-cases c.fields p r (Some x) room))
  where
    at : (r j : ℕ) → j < 32 → PlaceCases c.fields p (Some x) r → word_at c.fields.frames c.flash (place (with_place p (Some x) c.fields) r) j ≡ live_word c.fields c.flash r j
    at r j lt (inl (here, is)) = rw (is, here) (same j lt)
    at r j lt (inr (other, is)) = rw is refl

pub durable-copied : (c : Chart) (p : ℕ) (x : Place) → p < length c.fields.places → HasPage c.fields c.flash p x → durable (with_fields c (with_place p (Some x) c.fields)) ≡ durable c
durable-copied c p x room same = words-same c.shape.pages _ _ (λ r j lt. at r j lt (place-cases c.fields p r (Some x) room))
  where
    owner : (b : Bool) (j : ℕ) → j < 32 → owned_by c.fields.slots (undo c.fields p) ≡ b → word_at c.fields.frames c.flash (kept_by c.fields.slots (undo c.fields p) (Some x)) j ≡ word_at c.fields.frames c.flash (kept c.fields p) j
    owner true j lt owned = ap (λ (y : Option Place). word_at c.fields.frames c.flash y j) (kept_by-owned c.fields.slots (undo c.fields p) (place c.fields p) (Some x) owned)
    owner false j lt free = rw (kept_by-free c.fields.slots (undo c.fields p) (Some x) free, kept_by-free c.fields.slots (undo c.fields p) (place c.fields p) free) (same j lt)

    at : (r j : ℕ) → j < 32 → PlaceCases c.fields p (Some x) r → word_at c.fields.frames c.flash (kept_by c.fields.slots (undo c.fields r) (place (with_place p (Some x) c.fields) r)) j ≡ durable_word c.fields c.flash r j
    at r j lt (inl (here, is)) = rw (is, here) (owner (owned_by c.fields.slots (undo c.fields p)) j lt refl)
    at r j lt (inr (other, is)) = rw is refl

pub Keeps-copied : (c : Chart) (p : ℕ) (x : Place) → IsSound c → p < c.shape.pages → IsSound (with_fields c (with_place p (Some x) c.fields)) → HasPage c.fields c.flash p x → Keeps c (with_place p (Some x) c.fields)
Keeps-copied c p x sound page after same =
    let room = room-page c.shape c.fields c.flash p sound page in
    record { framed = Framed-placed c p (Some x); sound = after; live = live-copied c p x room same; durable = durable-copied c p x room same }

pub Same-moved : (c new : Chart) (p : ℕ) (x : Place) (r : Result Unit Off) → IsSound c → p < c.shape.pages → (IsTrue c.on → MayTake c.shape c.fields p x) → (IsTrue c.on → HasPage c.fields c.flash p x) → Writes (with_place p (Some x)) c r new → Same 0 0 c new
Same-moved c new p x r sound page may copy writes = Same-put c new (with_place p (Some x)) r sound (λ on. Keeps-copied c p x sound page (Sound-taken c.shape c.fields c.flash p x page (may on) sound) (copy on)) refl writes

-- the place goes to what has the page's words, but one
live-taken : (c : Chart) (p : ℕ) (x : Place) (i w : ℕ) → IsSound c → p < c.shape.pages → i < 32 → HasChanged c.fields c.flash p x i w → live (with_fields c (with_place p (Some x) c.fields)) ≡ set (live c) (32 * p + i) w
live-taken c p x i w sound page low copy = words-set c.shape.pages _ _ p i w low (omega arith) (λ r j lt. at r j lt (place-cases c.fields p r (Some x) (room-page c.shape c.fields c.flash p sound page)))
  where
    at : (r j : ℕ) → j < 32 → PlaceCases c.fields p (Some x) r → word_at c.fields.frames c.flash (place (with_place p (Some x) c.fields) r) j ≡ cond ((r == p) && (j == i)) w (live_word c.fields c.flash r j)
    at r j lt (inl (same, is)) = rw (is, same, eq-eqb p p refl) (copy j lt)
    at r j lt (inr (other, is)) = rw (is, ne_eqb r p other) refl

pub Changes-taken : (c : Chart) (p : ℕ) (x : Place) (i w : ℕ) → IsSound c → p < c.shape.pages → i < 32 → MayTake c.shape c.fields p x → HasChanged c.fields c.flash p x i w → owned_by c.fields.slots (undo c.fields p) ≡ false → Changes c (with_place p (Some x) c.fields) (32 * p + i) w
Changes-taken c p x i w sound page low may copy free = record {
  framed = Framed-placed c p (Some x);
  wears = refl;
  sound = Sound-taken c.shape c.fields c.flash p x page may sound;
  live = live-taken c p x i w sound page low copy;
  durable = words-set c.shape.pages _ _ p i w low (omega arith) (λ r j lt. at r j lt (place-cases c.fields p r (Some x) (room-page c.shape c.fields c.flash p sound page)));
}
  where
    at : (r j : ℕ) → j < 32 → PlaceCases c.fields p (Some x) r → word_at c.fields.frames c.flash (kept_by c.fields.slots (undo c.fields r) (place (with_place p (Some x) c.fields) r)) j ≡ cond ((r == p) && (j == i)) w (durable_word c.fields c.flash r j)
    at r j lt (inl (same, is)) =
        let was : kept c.fields p ≡ place c.fields p = kept_by-free c.fields.slots (undo c.fields p) (place c.fields p) free in
        let now : kept_by c.fields.slots (undo c.fields p) (Some x) ≡ Some x = kept_by-free c.fields.slots (undo c.fields p) (Some x) free in
        rw (is, same, eq-eqb p p refl, now, was) (copy j lt)
    at r j lt (inr (other, is)) = rw (is, ne_eqb r p other) refl

-- what a restart reads of a page that a transaction owns doesn't depend on its place
pub durable-owned : (c : Chart) (p : ℕ) (x : Place) → p < length c.fields.places → owned_by c.fields.slots (undo c.fields p) ≡ true → durable (with_fields c (with_place p (Some x) c.fields)) ≡ durable c
durable-owned c p x room owned = words-same c.shape.pages _ _ (λ r j lt. at r j (place-cases c.fields p r (Some x) room))
  where
    at : (r j : ℕ) → PlaceCases c.fields p (Some x) r → word_at c.fields.frames c.flash (kept_by c.fields.slots (undo c.fields r) (place (with_place p (Some x) c.fields) r)) j ≡ durable_word c.fields c.flash r j
    at r j (inl (same, is)) = rw same (ap (λ (y : Option Place). word_at c.fields.frames c.flash y j) (kept_by-owned c.fields.slots (undo c.fields p) (place c.fields p) _ owned))
    at r j (inr (other, is)) = rw is refl

pub Shadows-taken : (c : Chart) (p : ℕ) (x : Place) (i w : ℕ) → IsSound c → p < c.shape.pages → i < 32 → MayTake c.shape c.fields p x → HasChanged c.fields c.flash p x i w → owned_by c.fields.slots (undo c.fields p) ≡ true → Shadows c (with_place p (Some x) c.fields) (32 * p + i) w
Shadows-taken c p x i w sound page low may copy owned = record {
  framed = Framed-placed c p (Some x);
  wears = refl;
  sound = Sound-taken c.shape c.fields c.flash p x page may sound;
  live = live-taken c p x i w sound page low copy;
  durable = durable-owned c p x (room-page c.shape c.fields c.flash p sound page) owned;
}

-- a frame that no place names
MayTake-unnamed : (sh : Shape) (f : Fields) (p k : ℕ) → k < sh.frames → IsUnnamed f k → MayTake sh f p (Frame k)
MayTake-unnamed sh f p k lt unnamed = (lt, λ r e. absurd (unnamed r e))

pub Stored-framed : (c new : Chart) (p k i w : ℕ) (r : Result Unit Off) → IsSound c → p < c.shape.pages → k < c.shape.frames → i < 32 → (IsTrue c.on → IsUnnamed c.fields k) → (IsTrue c.on → HasChanged c.fields c.flash p (Frame k) i w) → (IsTrue c.on → owned_by c.fields.slots (undo c.fields p) ≡ false) → Writes (with_place p (Some (Frame k))) c r new → MatchResult r (λ _. Stored 0 0 c new (32 * p + i) w) (λ _. Interrupted 0 0 c new (32 * p + i) w)
Stored-framed c new p k i w r sound page lt low unnamed copy free writes = Stored-put c new (with_place p (Some (Frame k))) r (32 * p + i) w sound (λ on. Changes-taken c p (Frame k) i w sound page low (MayTake-unnamed c.shape c.fields p k lt (unnamed on)) (copy on) (free on)) writes

pub Shadowed-framed : (c new : Chart) (p k i w : ℕ) (r : Result Unit Off) → IsSound c → p < c.shape.pages → k < c.shape.frames → i < 32 → (IsTrue c.on → IsUnnamed c.fields k) → (IsTrue c.on → HasChanged c.fields c.flash p (Frame k) i w) → (IsTrue c.on → owned_by c.fields.slots (undo c.fields p) ≡ true) → Writes (with_place p (Some (Frame k))) c r new → MatchResult r (λ _. Shadowed 0 0 c new (32 * p + i) w) (λ _. Dropped 0 0 c new)
Shadowed-framed c new p k i w r sound page lt low unnamed copy owned writes = Shadowed-put c new (with_place p (Some (Frame k))) r (32 * p + i) w sound (λ on. Shadows-taken c p (Frame k) i w sound page low (MayTake-unnamed c.shape c.fields p k lt (unnamed on)) (copy on) (owned on)) writes
