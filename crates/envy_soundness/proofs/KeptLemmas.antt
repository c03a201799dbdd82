-- Where a restart reads a page: its place, or what its undo names.
use Rattle.std.proofs.Common.{◌≡◌, ◌≢◌, ◌⊎◌, inl, inr, ℕ, ◌*◌, ◌<◌, Bool, true, false, List, get_or, Option, None, Some, refl, sym, ◌∙◌, ap}
use Rattle.envy_base.specs.declared.shape.Shape.{Shape}
use Rattle.envy_base.specs.declared.fields.Place.{Place}
use Rattle.envy_base.specs.declared.fields.Place.TheVariants.{Absent, Row, Frame}
use Rattle.envy_base.specs.declared.fields.Slot.{Slot}
use Rattle.envy_base.specs.declared.fields.Slot.TheVariants.{Vacant, Active, Committed}
use Rattle.envy_base.specs.declared.fields.Undo.{Undo}
use Rattle.envy_base.specs.declared.fields.Undo.TheVariants.{Clear, Blank, Shadow}
use Rattle.envy_map.specs.Fields.{Fields, place, undo}
use Rattle.envy_soundness.specs.Words.{kept_by, if_active, word_at}
use Rattle.envy_soundness.specs.Sound.{Sound, Slots, Places, Names, is_active, slot_named, owned_by}
use Rattle.envy_soundness.specs.May.{HasKept, named_by}

-- nothing that is active: the place
if_active-not : (s : Option Slot) (back now : Option Place) → is_active s ≡ false → if_active s back now ≡ now
if_active-not None back now e = refl
if_active-not (Some Active) back now e = cc
if_active-not (Some Vacant) back now e = refl
if_active-not (Some Committed) back now e = refl

if_active-is : (s : Option Slot) (back now : Option Place) → is_active s ≡ true → if_active s back now ≡ back
if_active-is None back now e = cc
if_active-is (Some Active) back now e = refl
if_active-is (Some Vacant) back now e = cc
if_active-is (Some Committed) back now e = cc

pub active-is : (s : Option Slot) → is_active s ≡ true → s ≡ Some Active
active-is None e = cc
active-is (Some Active) e = refl
active-is (Some Vacant) e = cc
active-is (Some Committed) e = cc

-- a page that no transaction owns is read at its place
pub kept_by-free : (slots : List (Option Slot)) (u : Option Undo) (now : Option Place) → owned_by slots u ≡ false → kept_by slots u now ≡ now
kept_by-free slots None now e = refl
kept_by-free slots (Some Clear) now e = refl
kept_by-free slots (Some (Blank t)) now e = if_active-not (get_or slots t None) (Some Absent) now e
kept_by-free slots (Some (Shadow t q)) now e = if_active-not (get_or slots t None) (Some (Row q)) now e

-- and else its place doesn't matter
pub kept_by-owned : (slots : List (Option Slot)) (u : Option Undo) (now new : Option Place) → owned_by slots u ≡ true → kept_by slots u new ≡ kept_by slots u now
kept_by-owned slots None now new e = cc
kept_by-owned slots (Some Clear) now new e = cc
kept_by-owned slots (Some (Blank t)) now new e = if_active-is (get_or slots t None) (Some Absent) new e ∙ sym (if_active-is (get_or slots t None) (Some Absent) now e)
kept_by-owned slots (Some (Shadow t q)) now new e = if_active-is (get_or slots t None) (Some (Row q)) new e ∙ sym (if_active-is (get_or slots t None) (Some (Row q)) now e)

-- an undo of an active slot
pub kept_by-active : (slots : List (Option Slot)) (u : Undo) (t : ℕ) (now : Option Place) → slot_named (Some u) ≡ Some t → get_or slots t None ≡ Some Active → kept_by slots (Some u) now ≡ named_by u
kept_by-active slots Clear t now e active = cc
kept_by-active slots (Blank s) t now e active = let same : s ≡ t = cc in rw (same, active) refl
kept_by-active slots (Shadow s q) t now e active = let same : s ≡ t = cc in rw (same, active) refl

pub owned_by-active : (slots : List (Option Slot)) (u : Option Undo) (t : ℕ) → slot_named u ≡ Some t → get_or slots t None ≡ Some Active → owned_by slots u ≡ true
owned_by-active slots None t e active = cc
owned_by-active slots (Some Clear) t e active = cc
owned_by-active slots (Some (Blank s)) t e active = let same : s ≡ t = cc in rw (same, active) refl
owned_by-active slots (Some (Shadow s q)) t e active = let same : s ≡ t = cc in rw (same, active) refl

-- an undo that names no slot
pub owned_by-none : (slots : List (Option Slot)) (u : Option Undo) → slot_named u ≡ None → owned_by slots u ≡ false
owned_by-none slots None e = refl
owned_by-none slots (Some Clear) e = refl
owned_by-none slots (Some (Blank t)) e = cc
owned_by-none slots (Some (Shadow t q)) e = cc

-- a frame is read only where the place names it
pub kept_by-frame : (slots : List (Option Slot)) (u : Option Undo) (now : Option Place) (k : ℕ) → kept_by slots u now ≡ Some (Frame k) → now ≡ Some (Frame k)
kept_by-frame slots None now k e = e
kept_by-frame slots (Some Clear) now k e = e
kept_by-frame slots (Some (Blank t)) now k e = at (is_active (get_or slots t None)) refl
  where
    at : (b : Bool) → is_active (get_or slots t None) ≡ b → now ≡ Some (Frame k)
    at true active = let is = if_active-is (get_or slots t None) (Some Absent) now active in let no : Some Absent ≡ Some (Frame k) = sym is ∙ e in cc
    at false idle = sym (if_active-not (get_or slots t None) (Some Absent) now idle) ∙ e
kept_by-frame slots (Some (Shadow t q)) now k e = at (is_active (get_or slots t None)) refl
  where
    at : (b : Bool) → is_active (get_or slots t None) ≡ b → now ≡ Some (Frame k)
    at true active = let is = if_active-is (get_or slots t None) (Some (Row q)) now active in let no : Some (Row q) ≡ Some (Frame k) = sym is ∙ e in cc
    at false idle = sym (if_active-not (get_or slots t None) (Some (Row q)) now idle) ∙ e

-- a row is read where the place or the undo names it
pub kept_by-row : (slots : List (Option Slot)) (u : Option Undo) (now : Option Place) (q : ℕ) → kept_by slots u now ≡ Some (Row q) → (now ≡ Some (Row q)) ⊎ ((t : ℕ) × (u ≡ Some (Shadow t q)))
kept_by-row slots None now q e = inl e
kept_by-row slots (Some Clear) now q e = inl e
kept_by-row slots (Some (Blank t)) now q e = at (is_active (get_or slots t None)) refl
  where
    at : (b : Bool) → is_active (get_or slots t None) ≡ b → (now ≡ Some (Row q)) ⊎ ((s : ℕ) × (Some (Blank t) ≡ Some (Shadow s q)))
    at true active = let is = if_active-is (get_or slots t None) (Some Absent) now active in absurd (let no : Some Absent ≡ Some (Row q) = sym is ∙ e in cc)
    at false idle = inl (sym (if_active-not (get_or slots t None) (Some Absent) now idle) ∙ e)
kept_by-row slots (Some (Shadow t r)) now q e = at (is_active (get_or slots t None)) refl
  where
    at : (b : Bool) → is_active (get_or slots t None) ≡ b → (now ≡ Some (Row q)) ⊎ ((s : ℕ) × (Some (Shadow t r) ≡ Some (Shadow s q)))
    at true active = let is = if_active-is (get_or slots t None) (Some (Row r)) now active in let same : Some (Row r) ≡ Some (Row q) = sym is ∙ e in inr (t, let one : r ≡ q = cc in ap (λ (n : ℕ). Some (Shadow t n)) one)
    at false idle = inl (sym (if_active-not (get_or slots t None) (Some (Row r)) now idle) ∙ e)

-- what a transaction owns goes back to a row where its undo names the row
pub kept_by-shadow : (slots : List (Option Slot)) (u : Option Undo) (now : Option Place) (q : ℕ) → owned_by slots u ≡ true → kept_by slots u now ≡ Some (Row q) → (t : ℕ) × (u ≡ Some (Shadow t q)) × (get_or slots t None ≡ Some Active)
kept_by-shadow slots None now q owned e = cc
kept_by-shadow slots (Some Clear) now q owned e = cc
kept_by-shadow slots (Some (Blank t)) now q owned e = let is = if_active-is (get_or slots t None) (Some Absent) now owned in absurd (let no : Some Absent ≡ Some (Row q) = sym is ∙ e in cc)
kept_by-shadow slots (Some (Shadow t r)) now q owned e =
    let is = if_active-is (get_or slots t None) (Some (Row r)) now owned in
    let same : Some (Row r) ≡ Some (Row q) = sym is ∙ e in
    let one : r ≡ q = cc in
    (t, ap (λ (n : ℕ). Some (Shadow t n)) one, active-is (get_or slots t None) owned)

-- and goes back to no frame
pub kept_by-no_frame : (slots : List (Option Slot)) (u : Option Undo) (now : Option Place) (k : ℕ) → owned_by slots u ≡ true → kept_by slots u now ≢ Some (Frame k)
kept_by-no_frame slots u now k owned is = let none : None ≡ Some (Frame k) = kept_by-frame slots u None k (kept_by-owned slots u now None owned ∙ is) in cc

-- rows that pages name are rows of the board
pub Names-range : (sh : Shape) (f : Fields) (flash : List (List ℕ)) (p q : ℕ) → Sound sh f flash → Names f p q → q < sh.segments * sh.rows
Names-range sh f flash p q s (inl e) = Places.rows s.places p q e
Names-range sh f flash p q s (inr e) = at (kept_by-row f.slots (undo f p) (place f p) q e)
  where
    at : (place f p ≡ Some (Row q)) ⊎ ((t : ℕ) × (undo f p ≡ Some (Shadow t q))) → q < sh.segments * sh.rows
    at (inl here) = Places.rows s.places p q here
    at (inr (t, named)) = Slots.rows s.slots p t q named

-- a restart reads a page that no transaction owns where its place is
pub HasKept-free : (f : Fields) (flash : List (List ℕ)) (p : ℕ) (x : Option Place) → owned_by f.slots (undo f p) ≡ false → place f p ≡ x → HasKept f flash p x
HasKept-free f flash p x free here j lt = ap (λ (y : Option Place). word_at f.frames flash y j) (sym here ∙ sym (kept_by-free f.slots (undo f p) (place f p) free))
