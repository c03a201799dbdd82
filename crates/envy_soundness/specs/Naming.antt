-- How a page names a row: by its place, or by its undo while the undo's slot is active.
use Rattle.std.specs.Prelude.{◌≡◌, ◌≢◌, ℕ, ◌<◌, List, Option, None, Some, slice_index, slice_index_or}
use Rattle.envy_base.specs.declared.shape.Shape.{Shape}
use Rattle.envy_base.specs.declared.fields.Place.{Place}
use Rattle.envy_base.specs.declared.fields.Place.TheVariants.{Row}
use Rattle.envy_base.specs.declared.fields.Slot.{Slot}
use Rattle.envy_base.specs.declared.fields.Slot.TheVariants.{Active}
use Rattle.envy_base.specs.declared.fields.Undo.{Undo}
use Rattle.envy_base.specs.declared.fields.Undo.TheVariants.{Shadow}
use Rattle.envy_map.specs.Fields.{Fields, place, undo, slot}
use Rattle.envy_map.specs.Writes.{with_place, with_undo}
use Rattle.envy_soundness.specs.Sound.{Names}
use Rattle.envy_soundness.specs.declared.rows.Kept.{Kept}

-- the page's place names the row, or else its undo does, which is that of an active slot
abbrev pub IsNamed : Fields → ℕ → ℕ → Option ℕ → Type 0
IsNamed f p q None = place f p ≡ Some (Row q)
IsNamed f p q (Some t) = (undo f p ≡ Some (Shadow t q)) × (slot f t ≡ Some Active) × (t < 64) × (place f p ≢ Some (Row q))

-- the page names row q then, by its place or by its undo, as u says
abbrev pub with_named : ℕ → ℕ → Option ℕ → Fields → Fields
with_named p q None f = with_place p (Some (Row q)) f
with_named p q (Some t) f = with_undo p (Some (Shadow t q)) f

-- who keeps the row, if it is kept
abbrev pub Keeps : Shape → Fields → ℕ → Option Kept → Type 0
Keeps sh f q (Some kept) = (kept.page < sh.pages) × (slice_index f.backs q ≡ kept.page) × IsNamed f kept.page q kept.undo
Keeps sh f q None = (p : ℕ) → Names f p q → ⊥

-- the place and the active undo of one page never name one row
abbrev pub AreParted : List (Option Slot) → List (Option Undo) → List (Option Place) → Type 0
AreParted slots undos places = (p t q : ℕ) → slice_index_or undos p None ≡ Some (Shadow t q) → slice_index_or slots t None ≡ Some Active → slice_index_or places p None ≢ Some (Row q)
