-- A pool that follows the place of a page: to a row, from a row, and from no row to no row.
use Rattle.std.proofs.Common.{◌≡◌, ◌≢◌, inr, Bool, true, false, ℕ, ◌+◌, ◌/◌, ◌<◌, List, length, get_or, Option, None, Some, refl, sym, ◌∙◌, ap, arith}
use Rattle.std.specs.Prelude.{◌==◌, ◌&&◌}
use Rattle.std.proofs.lemmas.Bool.{eq-eqb, ne_eqb}
use Rattle.std.proofs.lemmas.List.{get_or-set_same, get_or-set_other}
use Rattle.envy_base.specs.declared.shape.Shape.{Shape}
use Rattle.envy_base.specs.declared.fields.Place.{Place}
use Rattle.envy_base.specs.declared.fields.Place.TheVariants.{Absent, Row, Frame}
use Rattle.envy_base.specs.declared.fields.Slot.{Slot}
use Rattle.envy_base.specs.declared.fields.Undo.{Undo}
use Rattle.envy_map.specs.Fields.{Fields, place, undo}
use Rattle.envy_map.specs.Writes.{with_place}
use Rattle.envy_soundness.specs.PageRows.{page_kept_in}
use Rattle.envy_soundness.specs.RowKinds.{is_in, is_shadow_in, is_row}
use Rattle.envy_soundness.specs.Sound.{Sound, owned_by}
use Rattle.envy_soundness.specs.Words.{kept_by}
use Rattle.envy_soundness.proofs.KeptLemmas.{kept_by-free, kept_by-owned}
use Rattle.envy_space.specs.Noting.{lies_in, ChangesPage, NamesOneMore, Rowed, Leaving}
use Rattle.envy_space.specs.Pool.{Pool, PoolAgrees, noted_kept, noted_dead}
use Rattle.envy_space.proofs.NotingLemmas.{PoolAgrees-kept, PoolAgrees-dead, PoolAgrees-same, room-kept}

-- a page that a restart reads in another row has that row besides
shadow-cases : (sh : Shape) (q s : ℕ) (x : Option Place) → x ≢ Some (Row q) → is_shadow_in sh.rows s (Some (Row q)) x ≡ is_in sh.rows s x
shadow-cases sh q s None other = refl
shadow-cases sh q s (Some Absent) other = refl
shadow-cases sh q s (Some (Frame k)) other = refl
shadow-cases sh q s (Some (Row r)) other = rw (ne_eqb q r (λ e. other (ap (λ (n : ℕ). Some (Row n)) (sym e)))) (at (r / sh.rows == s))
  where
    at : (b : Bool) → (b && true) ≡ b
    at true = refl
    at false = refl

shadow-frame : (sh : Shape) (now : Option Place) (s : ℕ) (x : Option Place) → ((q : ℕ) → now ≢ Some (Row q)) → is_shadow_in sh.rows s now x ≡ is_in sh.rows s x
shadow-frame sh now s None none = refl
shadow-frame sh now s (Some Absent) none = refl
shadow-frame sh now s (Some (Frame k)) none = refl
shadow-frame sh now s (Some (Row r)) none = rw (at now none) (whole (r / sh.rows == s))
  where
    at : (y : Option Place) → ((q : ℕ) → y ≢ Some (Row q)) → is_row r y ≡ false
    at None never = refl
    at (Some Absent) never = refl
    at (Some (Frame k)) never = refl
    at (Some (Row q)) never = absurd (never q refl)

    whole : (b : Bool) → (b && true) ≡ b
    whole true = refl
    whole false = refl

-- the rows of a page whose place is q and whose undo names another
pub page-rowed : (sh : Shape) (slots : List (Option Slot)) (u : Option Undo) (before : Option Place) (q s : ℕ) → ((r : ℕ) → before ≢ Some (Row r)) → (owned_by slots u ≡ true → kept_by slots u before ≢ Some (Row q)) → page_kept_in sh slots u (Some (Row q)) s ≡ page_kept_in sh slots u before s + lies_in sh q s
page-rowed sh slots u before q s elsewhere other = at (owned_by slots u) refl
  where
    none : is_in sh.rows s before ≡ false
    none = go before elsewhere
      where
        go : (y : Option Place) → ((r : ℕ) → y ≢ Some (Row r)) → is_in sh.rows s y ≡ false
        go None never = refl
        go (Some Absent) never = refl
        go (Some (Frame k)) never = refl
        go (Some (Row r)) never = absurd (never r refl)

    at : (b : Bool) → owned_by slots u ≡ b → page_kept_in sh slots u (Some (Row q)) s ≡ page_kept_in sh slots u before s + lies_in sh q s
    at true owned =
        let stays = kept_by-owned slots u before (Some (Row q)) owned in
        let now : is_shadow_in sh.rows s (Some (Row q)) (kept_by slots u (Some (Row q))) ≡ is_in sh.rows s (kept_by slots u before) = rw stays (shadow-cases sh q s (kept_by slots u before) (other owned)) in
        let was : is_shadow_in sh.rows s before (kept_by slots u before) ≡ is_in sh.rows s (kept_by slots u before) = shadow-frame sh before s (kept_by slots u before) elsewhere in
        rw (now, was, none) (omega arith)
    at false free =
        let now : is_shadow_in sh.rows s (Some (Row q)) (kept_by slots u (Some (Row q))) ≡ false = rw (kept_by-free slots u (Some (Row q)) free) (rw (eq-eqb q q refl) (ends (q / sh.rows == s))) in
        let was : is_shadow_in sh.rows s before (kept_by slots u before) ≡ false = rw (kept_by-free slots u before free) (shadow-frame sh before s before elsewhere ∙ none) in
        rw (now, was, none) (omega arith)
      where
        ends : (b : Bool) → (b && false) ≡ false
        ends true = refl
        ends false = refl

-- a page comes to a row
changes-placed : (sh : Shape) (f : Fields) (pool : Pool) (p : ℕ) (x : Option Place) → PoolAgrees sh f pool → p < sh.pages → ChangesPage sh f (with_place p x f) p pool
changes-placed sh f pool p x agrees lt = record {
  agrees = agrees;
  page = lt;
  slots = refl;
  fills = refl;
  positions = refl;
  places = λ r other. get_or-set_other f.places p r x None other;
  undos = λ r other. refl;
}

names-rowed : (sh : Shape) (f : Fields) (pool : Pool) (p q : ℕ) → Rowed sh f pool p q → NamesOneMore sh f (with_place p (Some (Row q)) f) p q
names-rowed sh f pool p q x = record {
  range = x.range;
  more = λ s. rw (get_or-set_same f.places p (Some (Row q)) None x.room) (page-rowed sh f.slots (undo f p) (place f p) q s x.elsewhere (λ owned is. x.fresh (inr is)));
}

pub PoolAgrees-rowed : (sh : Shape) (f : Fields) (pool : Pool) (p q : ℕ) → Rowed sh f pool p q → PoolAgrees sh (with_place p (Some (Row q)) f) (noted_kept q pool)
PoolAgrees-rowed sh f pool p q x = PoolAgrees-kept sh f (with_place p (Some (Row q)) f) p q pool (changes-placed sh f pool p (Some (Row q)) x.agrees x.page) (names-rowed sh f pool p q x)

pub room-rowed : (sh : Shape) (f : Fields) (flash : List (List ℕ)) (pool : Pool) (p q : ℕ) → Rowed sh f pool p q → Sound sh (with_place p (Some (Row q)) f) flash → get_or pool.kept (q / sh.rows) 0 < get_or pool.fills (q / sh.rows) 0
room-rowed sh f flash pool p q x sound = room-kept sh f (with_place p (Some (Row q)) f) flash p q pool (changes-placed sh f pool p (Some (Row q)) x.agrees x.page) (names-rowed sh f pool p q x) sound

-- the rows of a page that stands in none of them
pub page-elsewhere : (sh : Shape) (slots : List (Option Slot)) (u : Option Undo) (before after : Option Place) (s : ℕ) → ((r : ℕ) → before ≢ Some (Row r)) → ((r : ℕ) → after ≢ Some (Row r)) → page_kept_in sh slots u after s ≡ page_kept_in sh slots u before s
page-elsewhere sh slots u before after s first second = at (owned_by slots u) refl
  where
    none : (y : Option Place) → ((r : ℕ) → y ≢ Some (Row r)) → is_in sh.rows s y ≡ false
    none None never = refl
    none (Some Absent) never = refl
    none (Some (Frame k)) never = refl
    none (Some (Row r)) never = absurd (never r refl)

    at : (b : Bool) → owned_by slots u ≡ b → page_kept_in sh slots u after s ≡ page_kept_in sh slots u before s
    at true owned =
        let now : is_shadow_in sh.rows s after (kept_by slots u after) ≡ is_in sh.rows s (kept_by slots u before) = rw (kept_by-owned slots u before after owned) (shadow-frame sh after s (kept_by slots u before) second) in
        let was : is_shadow_in sh.rows s before (kept_by slots u before) ≡ is_in sh.rows s (kept_by slots u before) = shadow-frame sh before s (kept_by slots u before) first in
        rw (now, was, none before first, none after second) refl
    at false free =
        let now : is_shadow_in sh.rows s after (kept_by slots u after) ≡ false = rw (kept_by-free slots u after free) (shadow-frame sh after s after second ∙ none after second) in
        let was : is_shadow_in sh.rows s before (kept_by slots u before) ≡ false = rw (kept_by-free slots u before free) (shadow-frame sh before s before first ∙ none before first) in
        rw (now, was, none before first, none after second) refl

-- a page leaves a row
-- a place that is no row
abbrev pub IsNoRow : Option Place → Type 0
IsNoRow x = (r : ℕ) → x ≢ Some (Row r)

names-left : (sh : Shape) (f : Fields) (pool : Pool) (p q : ℕ) (x : Option Place) → IsNoRow x → Leaving sh f pool p q → NamesOneMore sh (with_place p x f) f p q
names-left sh f pool p q x none l = record {
  range = l.range;
  more = λ s.
      let rows = page-rowed sh f.slots (undo f p) x q s none (λ owned is. l.apart owned (sym (kept_by-owned f.slots (undo f p) (place f p) x owned) ∙ is)) in
      ap (λ (y : Option Place). page_kept_in sh f.slots (undo f p) y s) l.here ∙ rows ∙ ap (λ (y : Option Place). page_kept_in sh f.slots (undo f p) y s + lies_in sh q s) (sym (get_or-set_same f.places p x None l.room));
}

pub PoolAgrees-leaves : (sh : Shape) (f : Fields) (pool : Pool) (p q : ℕ) (x : Option Place) → IsNoRow x → Leaving sh f pool p q → (0 < get_or pool.kept (q / sh.rows) 0) × PoolAgrees sh (with_place p x f) (noted_dead q pool)
PoolAgrees-leaves sh f pool p q x none l = PoolAgrees-dead sh f (with_place p x f) p q pool (changes-placed sh f pool p x l.agrees l.page) (names-left sh f pool p q x none l)

pub PoolAgrees-left : (sh : Shape) (f : Fields) (pool : Pool) (p q k : ℕ) → Leaving sh f pool p q → (0 < get_or pool.kept (q / sh.rows) 0) × PoolAgrees sh (with_place p (Some (Frame k)) f) (noted_dead q pool)
PoolAgrees-left sh f pool p q k l = PoolAgrees-leaves sh f pool p q (Some (Frame k)) (λ r is. cc) l

-- a page goes from no row to no row
pub PoolAgrees-passes : (sh : Shape) (f : Fields) (pool : Pool) (p : ℕ) (x : Option Place) → PoolAgrees sh f pool → p < sh.pages → p < length f.places → IsNoRow (place f p) → IsNoRow x → PoolAgrees sh (with_place p x f) pool
PoolAgrees-passes sh f pool p x agrees lt room before after =
    PoolAgrees-same sh f (with_place p x f) p pool (changes-placed sh f pool p x agrees lt)
    (λ s. ap (λ (y : Option Place). page_kept_in sh f.slots (undo f p) y s) (get_or-set_same f.places p x None room)
    ∙ page-elsewhere sh f.slots (undo f p) (place f p) x s before after)

pub PoolAgrees-absent : (sh : Shape) (f : Fields) (pool : Pool) (p k : ℕ) → PoolAgrees sh f pool → p < sh.pages → p < length f.places → place f p ≡ Some Absent → PoolAgrees sh (with_place p (Some (Frame k)) f) pool
PoolAgrees-absent sh f pool p k agrees lt room here =
    PoolAgrees-passes sh f pool p (Some (Frame k)) agrees lt room (λ r is. let no : Some Absent ≡ Some (Row r) = sym here ∙ is in cc) (λ r is. cc)
