-- A page that names a row in place of another.
use Rattle.std.proofs.Common.{◌≡◌, ◌⊎◌, inl, inr, ℕ, ◌<◌, ◌≤◌, List, Option, Some, None, refl, sym, ◌∙◌, ap, arith}
use Rattle.std.proofs.lemmas.Bool.{cases_eq, cases_lt}
use Rattle.std.proofs.lemmas.List.{get_or-set_same, get_or-set_other, get_or_past}
use Rattle.envy_base.specs.declared.shape.Shape.{Shape}
use Rattle.envy_base.specs.declared.fields.Place.TheVariants.{Row, Frame}
use Rattle.envy_base.specs.declared.fields.Slot.TheVariants.{Active}
use Rattle.envy_base.specs.declared.fields.Undo.{Undo}
use Rattle.envy_base.specs.declared.fields.Undo.TheVariants.{Shadow}
use Rattle.envy_map.specs.Fields.{Fields, place, undo, slot}
use Rattle.envy_map.specs.Writes.{with_place, with_undo}
use Rattle.envy_soundness.specs.Frames.{FramesStay}
use Rattle.envy_soundness.specs.Naming.{IsNamed, with_named, AreParted}
use Rattle.envy_soundness.specs.Sound.{Sound, Slots, Places, Names}
use Rattle.envy_soundness.specs.Words.{kept_by}
use Rattle.envy_soundness.proofs.KeptLemmas.{kept_by-active}
use Rattle.envy_soundness.proofs.PlaceLaw.{PlaceCases, place-cases, Names-placed}
use Rattle.envy_soundness.proofs.UndoLaw.{KeptCases, kept-cases}

-- a page that is named by its place or its undo keeps the row
pub Names-named : (f : Fields) (p q : ℕ) (u : Option ℕ) → IsNamed f p q u → Names f p q
Names-named f p q None is = inl is
Names-named f p q (Some t) (is, active, low, other) = inr (ap (λ (y : Option Undo). kept_by f.slots y (place f p)) is ∙ kept_by-active f.slots (Shadow t q) t (place f p) refl active)

-- what is named then was named before, or is that row by that page
pub Names-into : (sh : Shape) (f : Fields) (flash : List (List ℕ)) (p q r o x : ℕ) (u : Option ℕ) → Sound sh f flash → p < sh.pages → IsNamed f p q u → Names (with_named p r u f) o x → Names f o x ⊎ ((o ≡ p) × (x ≡ r))
Names-into sh f flash p q r o x None sound lt is names = at (Names-placed f p (Some (Row r)) o x (rw (Places.long sound.places) lt) names)
  where
    at : Names f o x ⊎ ((o ≡ p) × (Some (Row r) ≡ Some (Row x))) → Names f o x ⊎ ((o ≡ p) × (x ≡ r))
    at (inl named) = inl named
    at (inr (same, row)) = inr (same, (let back : r ≡ x = cc in sym back))
Names-into sh f flash p q r o x (Some t) sound lt (is, active, low, other) names = at names (kept-cases f p o (Shadow t r) (rw (Slots.undos_long sound.slots) lt))
  where
    at : Names (with_undo p (Some (Shadow t r)) f) o x → KeptCases f p (Shadow t r) o → Names f o x ⊎ ((o ≡ p) × (x ≡ r))
    at (inl by_place) cases = inl (inl by_place)
    at (inr by_undo) (inl (same, now)) =
        let row : Some (Row r) ≡ Some (Row x) = sym (kept_by-active f.slots (Shadow t r) t (place f p) refl active) ∙ sym now ∙ by_undo in
        inr (same, (let back : r ≡ x = cc in sym back))
    at (inr by_undo) (inr (differ, now)) = inl (inr (sym now ∙ by_undo))

-- the place and the active undo of a page still don't both name one row
pub AreParted-named : (sh : Shape) (f : Fields) (flash : List (List ℕ)) (p q r : ℕ) (u : Option ℕ) → Sound sh f flash → AreParted f.slots f.undos f.places → p < sh.pages → IsNamed f p q u → (Names f p r → ⊥) → AreParted (Fields.slots (with_named p r u f)) (Fields.undos (with_named p r u f)) (Fields.places (with_named p r u f))
AreParted-named sh f flash p q r None sound parted lt is free = λ o t x shadow active at. by o t x (place-cases f p o (Some (Row r)) (rw (Places.long sound.places) lt)) shadow active at
  where
    by : (o t x : ℕ) → PlaceCases f p (Some (Row r)) o → undo f o ≡ Some (Shadow t x) → slot f t ≡ Some Active → place (with_place p (Some (Row r)) f) o ≡ Some (Row x) → ⊥
    by o t x (inl (same, now)) shadow active at =
        let row : Some (Row r) ≡ Some (Row x) = sym now ∙ at in
        let one : r ≡ x = cc in
        let mine : undo f p ≡ Some (Shadow t x) = ap (λ (y : ℕ). undo f y) (sym same) ∙ shadow in
        free (inr (ap (λ (y : Option Undo). kept_by f.slots y (place f p)) (mine ∙ ap (λ (y : ℕ). Some (Shadow t y)) (sym one)) ∙ kept_by-active f.slots (Shadow t r) t (place f p) refl active))
    by o t x (inr (other, now)) shadow active at = parted o t x shadow active (sym now ∙ at)
AreParted-named sh f flash p q r (Some s) sound parted lt is free = λ o t x shadow active at. by o t x (cases_eq o p) shadow active at
  where
    by : (o t x : ℕ) → (o ≡ p) ⊎ (o ≡ p → ⊥) → undo (with_undo p (Some (Shadow s r)) f) o ≡ Some (Shadow t x) → slot f t ≡ Some Active → place f o ≡ Some (Row x) → ⊥
    by o t x (inl same) shadow active at =
        let now : Some (Shadow s r) ≡ Some (Shadow t x) = sym (ap (λ (y : ℕ). undo (with_undo p (Some (Shadow s r)) f) y) same ∙ get_or-set_same f.undos p (Some (Shadow s r)) None (rw (Slots.undos_long sound.slots) lt)) ∙ shadow in
        let one : r ≡ x = cc in
        free (inl (ap (λ (y : ℕ). place f y) (sym same) ∙ at ∙ ap (λ (y : ℕ). Some (Row y)) (sym one)))
    by o t x (inr other) shadow active at = parted o t x (sym (get_or-set_other f.undos p o (Some (Shadow s r)) None other) ∙ shadow) active at

-- the row that the page names then
pub Names-self : (sh : Shape) (f : Fields) (flash : List (List ℕ)) (p q r : ℕ) (u : Option ℕ) → Sound sh f flash → p < sh.pages → IsNamed f p q u → Names (with_named p r u f) p r
Names-self sh f flash p q r None sound lt is = inl (get_or-set_same f.places p (Some (Row r)) None (rw (Places.long sound.places) lt))
Names-self sh f flash p q r (Some t) sound lt (is, active, low, other) =
    inr (ap (λ (y : Option Undo). kept_by f.slots y (place f p)) (get_or-set_same f.undos p (Some (Shadow t r)) None (rw (Slots.undos_long sound.slots) lt)) ∙ kept_by-active f.slots (Shadow t r) t (place f p) refl active)

-- a page that names a row is one of the pages
pub Names-page : (sh : Shape) (f : Fields) (flash : List (List ℕ)) (p q : ℕ) → Sound sh f flash → Names f p q → p < sh.pages
Names-page sh f flash p q sound names = at names (cases_lt p sh.pages)
  where
    no_place : sh.pages ≤ p → place f p ≡ None
    no_place past = get_or_past f.places p None (let long = Places.long sound.places in omega arith)

    no_undo : sh.pages ≤ p → undo f p ≡ None
    no_undo past = get_or_past f.undos p None (let long = Slots.undos_long sound.slots in omega arith)

    at : Names f p q → (p < sh.pages) ⊎ (sh.pages ≤ p) → p < sh.pages
    at named (inl lt) = lt
    at (inl by_place) (inr past) = absurd (let none : None ≡ Some (Row q) = sym (no_place past) ∙ by_place in cc)
    at (inr by_undo) (inr past) =
        let free : kept_by f.slots (undo f p) (place f p) ≡ None = ap (λ (u : Option Undo). kept_by f.slots u (place f p)) (no_undo past) ∙ no_place past in
        absurd (let none : None ≡ Some (Row q) = sym free ∙ by_undo in cc)

pub named-page : (sh : Shape) (f : Fields) (flash : List (List ℕ)) (p q : ℕ) (u : Option ℕ) → Sound sh f flash → IsNamed f p q u → p < sh.pages
named-page sh f flash p q u sound is = Names-page sh f flash p q sound (Names-named f p q u is)

-- places and undos alone are others
pub fields-named : (f : Fields) (p r : ℕ) (u : Option ℕ) → with_named p r u f ≡ record f { places = Fields.places (with_named p r u f); undos = Fields.undos (with_named p r u f) }
fields-named f p r None = refl
fields-named f p r (Some t) = refl

pub job-named : (f : Fields) (p r : ℕ) (u : Option ℕ) → Fields.job (with_named p r u f) ≡ f.job
job-named f p r u = ap (λ (x : Fields). x.job) (fields-named f p r u)

pub slots-named : (f : Fields) (p r : ℕ) (u : Option ℕ) → Fields.slots (with_named p r u f) ≡ f.slots
slots-named f p r u = ap (λ (x : Fields). x.slots) (fields-named f p r u)

pub positions-named : (f : Fields) (p r : ℕ) (u : Option ℕ) → Fields.positions (with_named p r u f) ≡ f.positions
positions-named f p r u = ap (λ (x : Fields). x.positions) (fields-named f p r u)

pub fills-named : (f : Fields) (p r : ℕ) (u : Option ℕ) → Fields.fills (with_named p r u f) ≡ f.fills
fills-named f p r u = ap (λ (x : Fields). x.fills) (fields-named f p r u)

pub backs-named : (f : Fields) (p r : ℕ) (u : Option ℕ) → Fields.backs (with_named p r u f) ≡ f.backs
backs-named f p r u = ap (λ (x : Fields). x.backs) (fields-named f p r u)

pub origins-named : (f : Fields) (p r : ℕ) (u : Option ℕ) → Fields.origins (with_named p r u f) ≡ f.origins
origins-named f p r u = ap (λ (x : Fields). x.origins) (fields-named f p r u)

-- no page comes to a frame or leaves one
pub FramesStay-named : (sh : Shape) (f : Fields) (flash : List (List ℕ)) (p q r : ℕ) (u : Option ℕ) → Sound sh f flash → IsNamed f p q u → FramesStay f.places (Fields.places (with_named p r u f))
FramesStay-named sh f flash p q r (Some t) sound is = λ o k. ((λ at. at), (λ at. at))
FramesStay-named sh f flash p q r None sound is = λ o k. (before o k (cases o), after o k (cases o))
  where
    cases : (o : ℕ) → PlaceCases f p (Some (Row r)) o
    cases o = place-cases f p o (Some (Row r)) (rw (Places.long sound.places) (named-page sh f flash p q None sound is))

    before : (o k : ℕ) → PlaceCases f p (Some (Row r)) o → place (with_place p (Some (Row r)) f) o ≡ Some (Frame k) → place f o ≡ Some (Frame k)
    before o k (inl (same, now)) at = absurd (let clash : Some (Row r) ≡ Some (Frame k) = sym now ∙ at in cc)
    before o k (inr (other, now)) at = sym now ∙ at

    after : (o k : ℕ) → PlaceCases f p (Some (Row r)) o → place f o ≡ Some (Frame k) → place (with_place p (Some (Row r)) f) o ≡ Some (Frame k)
    after o k (inl (same, now)) at = absurd (let clash : Some (Row q) ≡ Some (Frame k) = sym is ∙ ap (λ (x : ℕ). place f x) (sym same) ∙ at in cc)
    after o k (inr (other, now)) at = now ∙ at
