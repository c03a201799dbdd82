-- The pool follows a page that names a row in place of another.
use Rattle.std.proofs.Common.{◌≡◌, ◌≢◌, inl, inr, ℕ, ◌+◌, ◌*◌, ◌/◌, ◌<◌, Bool, true, false, eqb, List, length, get_or, set, Option, Some, None, refl, sym, ◌∙◌, ap, subst, arith}
use Rattle.std.specs.Prelude.{◌&&◌, if◌then◌else◌}
use Rattle.std.proofs.lemmas.Bool.{eq-eqb, ne_eqb}
use Rattle.std.proofs.lemmas.List.{get_or-set_same, get_or-set_other}
use Rattle.envy_base.specs.declared.shape.Shape.{Shape}
use Rattle.envy_base.specs.declared.fields.Place.{Place}
use Rattle.envy_base.specs.declared.fields.Place.TheVariants.{Absent, Row, Frame}
use Rattle.envy_base.specs.declared.fields.Slot.TheVariants.{Active}
use Rattle.envy_base.specs.declared.fields.Undo.{Undo}
use Rattle.envy_base.specs.declared.fields.Undo.TheVariants.{Shadow}
use Rattle.envy_map.specs.Fields.{Fields, place, undo, slot}
use Rattle.envy_map.specs.Writes.{with_place, with_undo}
use Rattle.envy_soundness.specs.Naming.{IsNamed, with_named, AreParted}
use Rattle.envy_soundness.specs.PageRows.{page_kept_in}
use Rattle.envy_soundness.specs.RowKinds.{is_row, is_in, is_shadow_in}
use Rattle.envy_soundness.specs.Sound.{Sound, Slots, Places, Names, owned_by}
use Rattle.envy_soundness.specs.Words.{kept, kept_by}
use Rattle.envy_soundness.proofs.KeptLemmas.{kept_by-free, kept_by-owned, kept_by-shadow, kept_by-active, Names-range}
use Rattle.envy_soundness.proofs.NamingLemmas.{Names-named, named-page}
use Rattle.envy_space.specs.Following.{Followed}
use Rattle.envy_space.specs.Noting.{lies_in, ChangesPage, NamesInPlace}
use Rattle.envy_space.specs.Pool.{Pool, PoolAgrees, noted_dead}
use Rattle.envy_space.proofs.NotingLemmas.{PoolAgrees-moved}

and-false : (b : Bool) → b && false ≡ false
and-false true = refl
and-false false = refl

and-true : (b : Bool) → b && true ≡ b
and-true true = refl
and-true false = refl

-- a shadow counts where loads read the page in another row
shadow-same : (rows s a b : ℕ) (k : Option Place) → k ≢ Some (Row a) → k ≢ Some (Row b) → is_shadow_in rows s (Some (Row b)) k ≡ is_shadow_in rows s (Some (Row a)) k
shadow-same rows s a b None na nb = refl
shadow-same rows s a b (Some Absent) na nb = refl
shadow-same rows s a b (Some (Frame k)) na nb = refl
shadow-same rows s a b (Some (Row x)) na nb = rw (ne_eqb a x (λ e. na (ap (λ (n : ℕ). Some (Row n)) (sym e))), ne_eqb b x (λ e. nb (ap (λ (n : ℕ). Some (Row n)) (sym e)))) refl

-- and not where they read it there
shadow-own : (rows s a : ℕ) → is_shadow_in rows s (Some (Row a)) (Some (Row a)) ≡ false
shadow-own rows s a = rw (eq-eqb a a refl) (and-false (eqb (a / rows) s))

-- loads read the page in another row than x
is_row-other : (x : ℕ) (now : Option Place) → now ≢ Some (Row x) → is_row x now ≡ false
is_row-other x None other = refl
is_row-other x (Some Absent) other = refl
is_row-other x (Some (Frame k)) other = refl
is_row-other x (Some (Row y)) other = ne_eqb y x (λ e. other (ap (λ (n : ℕ). Some (Row n)) e))

shadow-is : (sh : Shape) (s x : ℕ) (now : Option Place) → now ≢ Some (Row x) → (if is_shadow_in sh.rows s now (Some (Row x)) then 1 else 0) ≡ lies_in sh x s
shadow-is sh s x now other = rw (is_row-other x now other) (ap (λ (b : Bool). if b then 1 else 0) (and-true (eqb (x / sh.rows) s)))

-- the place of the page goes from row q to row r
pub NamesInPlace-place : (sh : Shape) (f : Fields) (p q r : ℕ) → p < length f.places → q < sh.segments * sh.rows → r < sh.segments * sh.rows → place f p ≡ Some (Row q) → (owned_by f.slots (undo f p) ≡ true → kept f p ≢ Some (Row q)) → kept f p ≢ Some (Row r) → NamesInPlace sh f (with_place p (Some (Row r)) f) p q r
NamesInPlace-place sh f p q r room old_range range here apart free = record {
  range = range;
  old_range = old_range;
  others = λ s. if is_shadow_in sh.rows s (Some (Row q)) (kept_by f.slots (undo f p) (Some (Row q))) then 1 else 0;
  before = λ s. ap (λ (x : Option Place). page_kept_in sh f.slots (undo f p) x s) here ∙ omega arith;
  after = λ s.
      ap (λ (x : Option Place). page_kept_in sh f.slots (undo f p) x s) (get_or-set_same f.places p (Some (Row r)) None room)
      ∙ ap (λ (b : Bool). lies_in sh r s + (if b then 1 else 0)) (shadows s (owned_by f.slots (undo f p)) refl)
      ∙ omega arith;
}
  where
    at_q : kept f p ≡ kept_by f.slots (undo f p) (Some (Row q))
    at_q = ap (λ (x : Option Place). kept_by f.slots (undo f p) x) here

    shadows : (s : ℕ) (o : Bool) → owned_by f.slots (undo f p) ≡ o → is_shadow_in sh.rows s (Some (Row r)) (kept_by f.slots (undo f p) (Some (Row r))) ≡ is_shadow_in sh.rows s (Some (Row q)) (kept_by f.slots (undo f p) (Some (Row q)))
    shadows s true is =
        ap (λ (k : Option Place). is_shadow_in sh.rows s (Some (Row r)) k) (kept_by-owned f.slots (undo f p) (Some (Row q)) (Some (Row r)) is)
        ∙ shadow-same sh.rows s q r (kept_by f.slots (undo f p) (Some (Row q))) (λ e. apart is (at_q ∙ e)) (λ e. free (at_q ∙ e))
    shadows s false is =
        ap (λ (k : Option Place). is_shadow_in sh.rows s (Some (Row r)) k) (kept_by-free f.slots (undo f p) (Some (Row r)) is)
        ∙ shadow-own sh.rows s r
        ∙ sym (ap (λ (k : Option Place). is_shadow_in sh.rows s (Some (Row q)) k) (kept_by-free f.slots (undo f p) (Some (Row q)) is) ∙ shadow-own sh.rows s q)

-- the undo of the page goes from row q to row r
pub NamesInPlace-undo : (sh : Shape) (f : Fields) (p q r t : ℕ) → p < length f.undos → q < sh.segments * sh.rows → r < sh.segments * sh.rows → undo f p ≡ Some (Shadow t q) → slot f t ≡ Some Active → place f p ≢ Some (Row q) → place f p ≢ Some (Row r) → NamesInPlace sh f (with_undo p (Some (Shadow t r)) f) p q r
NamesInPlace-undo sh f p q r t room old_range range here active apart free = record {
  range = range;
  old_range = old_range;
  others = λ s. if is_in sh.rows s (place f p) then 1 else 0;
  before = λ s.
      ap (λ (k : Option Place). (if is_in sh.rows s (place f p) then 1 else 0) + (if is_shadow_in sh.rows s (place f p) k then 1 else 0)) (kept_at q (undo f p) here)
      ∙ ap (λ (n : ℕ). (if is_in sh.rows s (place f p) then 1 else 0) + n) (shadow-is sh s q (place f p) apart);
  after = λ s.
      ap (λ (k : Option Place). (if is_in sh.rows s (place f p) then 1 else 0) + (if is_shadow_in sh.rows s (place f p) k then 1 else 0)) (kept_at r (get_or (set f.undos p (Some (Shadow t r))) p None) (get_or-set_same f.undos p (Some (Shadow t r)) None room))
      ∙ ap (λ (n : ℕ). (if is_in sh.rows s (place f p) then 1 else 0) + n) (shadow-is sh s r (place f p) free);
}
  where
    kept_at : (x : ℕ) (u : Option Undo) → u ≡ Some (Shadow t x) → kept_by f.slots u (place f p) ≡ Some (Row x)
    kept_at x u is = ap (λ (y : Option Undo). kept_by f.slots y (place f p)) is ∙ kept_by-active f.slots (Shadow t x) t (place f p) refl active

pub ChangesPage-named : (sh : Shape) (f : Fields) (p r : ℕ) (u : Option ℕ) (pool : Pool) → PoolAgrees sh f pool → p < sh.pages → ChangesPage sh f (with_named p r u f) p pool
ChangesPage-named sh f p r None pool agrees lt = record {
  agrees = agrees;
  page = lt;
  slots = refl;
  fills = refl;
  positions = refl;
  places = λ o other. get_or-set_other f.places p o (Some (Row r)) None other;
  undos = λ o other. refl;
}
ChangesPage-named sh f p r (Some t) pool agrees lt = record {
  agrees = agrees;
  page = lt;
  slots = refl;
  fills = refl;
  positions = refl;
  places = λ o other. refl;
  undos = λ o other. get_or-set_other f.undos p o (Some (Shadow t r)) None other;
}

pub NamesInPlace-named : (sh : Shape) (f : Fields) (flash : List (List ℕ)) (p q r : ℕ) (u : Option ℕ) → Sound sh f flash → AreParted f.slots f.undos f.places → p < sh.pages → IsNamed f p q u → (Names f p r → ⊥) → q < sh.segments * sh.rows → r < sh.segments * sh.rows → NamesInPlace sh f (with_named p r u f) p q r
NamesInPlace-named sh f flash p q r None sound parted lt is free old_range range =
    NamesInPlace-place sh f p q r (rw (Places.long sound.places) lt) old_range range is
    (λ owned at. let named = kept_by-shadow f.slots (undo f p) (place f p) q owned at in parted p named.0 q named.1 named.2 is)
    (λ at. free (inr at))
NamesInPlace-named sh f flash p q r (Some t) sound parted lt (is, active, low, other) free old_range range =
    NamesInPlace-undo sh f p q r t (rw (Slots.undos_long sound.slots) lt) old_range range is active other (λ at. free (inl at))

pub Followed-named : (sh : Shape) (f : Fields) (flash : List (List ℕ)) (p q r : ℕ) (u : Option ℕ) (pool : Pool) → Sound sh f flash → AreParted f.slots f.undos f.places → PoolAgrees sh f pool → IsNamed f p q u → (Names f p r → ⊥) → r < sh.segments * sh.rows → Sound sh (with_named p r u f) flash → Followed sh (with_named p r u f) q r pool
Followed-named sh f flash p q r u pool sound parted agrees named free range then_sound =
    let lt = named-page sh f flash p q u sound named in
    let old_range = Names-range sh f flash p q sound (Names-named f p q u named) in
    let moved = PoolAgrees-moved sh f (with_named p r u f) flash p q r pool (ChangesPage-named sh f p r u pool agrees lt) (NamesInPlace-named sh f flash p q r u sound parted lt named free old_range range) then_sound in
    record {
      row = subst (λ (x : Shape). q < x.segments * x.rows) (sym agrees.shape) old_range;
      copy = subst (λ (x : Shape). r < x.segments * x.rows) (sym agrees.shape) range;
      some = subst (λ (x : Shape). 0 < get_or pool.kept (q / x.rows) 0) (sym agrees.shape) moved.0;
      room = subst (λ (x : Shape). get_or (noted_dead q pool).kept (r / x.rows) 0 < get_or pool.fills (r / x.rows) 0) (sym agrees.shape) moved.1;
      agrees = moved.2;
    }
