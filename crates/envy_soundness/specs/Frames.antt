-- Which pages stand in frames.
use Rattle.std.specs.Prelude.{◌≡◌, ◌↔◌, ℕ, List, Option, None, Some, slice_index_or}
use Rattle.envy_base.specs.declared.fields.Place.{Place}
use Rattle.envy_base.specs.declared.fields.Place.TheVariants.{Frame}

-- each page that stands in a frame stood there before, and the other way round
abbrev pub FramesStay : List (Option Place) → List (Option Place) → Type 0
FramesStay old new = (p k : ℕ) → (slice_index_or new p None ≡ Some (Frame k)) ↔ (slice_index_or old p None ≡ Some (Frame k))
