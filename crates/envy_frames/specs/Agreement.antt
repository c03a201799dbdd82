-- When the held frames are those of the map, and what they are after a restart.
use Rattle.std.specs.Prelude.{◌≡◌, ◌≢◌, ℕ, ◌-◌, ◌*◌, ◌/◌, ◌<◌, Bool, true, false, List, Option, None, Some, slice_index_or, All, AllPairs, Any}
use Rattle.std.specs.List.{filter_map, range_with_len}
use Rattle.envy_base.specs.declared.shape.Shape.{Shape}
use Rattle.envy_base.specs.declared.fields.Place.{Place}
use Rattle.envy_base.specs.declared.fields.Place.TheVariants.{Absent, Row, Frame}
use Rattle.envy_frames.specs.declared.held.Held.{Held}
use Rattle.envy_frames.specs.Order.{IsApart}
use Rattle.envy_base.specs.Shape.{positions_of}

-- the place of the page is the frame, and its home is a position
pub record IsHeld (sh : Shape) (places : List (Option Place)) (h : Held) : Type 0 where
  pub here : slice_index_or places h.page None ≡ Some (Frame h.frame)
  pub page : h.page < sh.pages
  pub home : h.home < positions_of sh

-- the held frames are those that places name, each once, each with the page whose place names it
pub record AreHeld (sh : Shape) (places : List (Option Place)) (held : List Held) : Type 0 where
  pub each : All (IsHeld sh places) held
  pub apart : AllPairs IsApart held
  pub named : (p k : ℕ) → slice_index_or places p None ≡ Some (Frame k) → Any (λ h. (h.page ≡ p) × (h.frame ≡ k)) held

-- the place is no frame
abbrev pub IsElsewhere : Option Place → Type 0
IsElsewhere x = (k : ℕ) → x ≢ Some (Frame k)

-- whether a page that is there stands in a frame
abbrev pub is_framed : Option Place → Bool
is_framed (Some (Frame k)) = true
is_framed (Some (Row q)) = false
is_framed (Some Absent) = false
is_framed None = false

-- the home of a page that came from no row
abbrev pub default_home : Shape → ℕ → ℕ
default_home sh p = p * (positions_of sh) / sh.pages

-- how page p is held after a restart, where its place is a frame
abbrev pub held_at : Shape → ℕ → Option Place → Option Held
held_at sh p (Some (Frame k)) = Some (record { frame = k; page = p; home = default_home sh p })
held_at sh p (Some (Row q)) = None
held_at sh p (Some Absent) = None
held_at sh p None = None

-- the pages that places put in frames, in rising order
abbrev pub held_by_default : Shape → List (Option Place) → List Held
held_by_default sh places = filter_map (λ p. held_at sh p (slice_index_or places p None)) (range_with_len 0 sh.pages)
