-- How many rows of a segment are kept, free and dead.
use Rattle.std.specs.Prelude.{ℕ, ◌+◌, ◌-◌, ◌/◌, ◌==◌, ◌&&◌, ◌||◌, not, Bool, false, List, Option, None, Some, slice_index, slice_index_or, count_by}
use Rattle.std.specs.List.{list_any, range_with_len}
use Rattle.envy_base.specs.declared.shape.Shape.{Shape}
use Rattle.envy_base.specs.declared.fields.Place.{Place}
use Rattle.envy_base.specs.declared.fields.Place.TheVariants.{Absent, Row, Frame}
use Rattle.envy_base.specs.declared.fields.Slot.{Slot}
use Rattle.envy_base.specs.declared.fields.Undo.{Undo}
use Rattle.envy_soundness.specs.Words.{kept_by}

-- whether a page that is there stands in row q
abbrev pub is_row : ℕ → Option Place → Bool
is_row q None = false
is_row q (Some Absent) = false
is_row q (Some (Row r)) = r == q
is_row q (Some (Frame k)) = false

-- whether a page that is there stands in a row of segment s
abbrev pub is_in : ℕ → ℕ → Option Place → Bool
is_in rows s None = false
is_in rows s (Some Absent) = false
is_in rows s (Some (Row q)) = q / rows == s
is_in rows s (Some (Frame k)) = false

-- whether a restart reads the page in a row of segment s that loads don't read
abbrev pub is_shadow_in : ℕ → ℕ → Option Place → Option Place → Bool
is_shadow_in rows s now None = false
is_shadow_in rows s now (Some Absent) = false
is_shadow_in rows s now (Some (Row q)) = (q / rows == s) && not (is_row q now)
is_shadow_in rows s now (Some (Frame k)) = false

-- The kept rows of segment s: those that places name, and those that undos of active slots name beside them.
-- No two pages name one row, so each is counted once.
abbrev pub kept_in : Shape → List (Option Slot) → List (Option Undo) → List (Option Place) → ℕ → ℕ
kept_in sh slots undos places s =
    count_by (λ p. is_in sh.rows s (slice_index_or places p None)) (range_with_len 0 sh.pages)
    + count_by (λ p. is_shadow_in sh.rows s (slice_index_or places p None) (kept_by slots (slice_index_or undos p None) (slice_index_or places p None))) (range_with_len 0 sh.pages)

-- whether a page names row q
abbrev pub is_kept : Shape → List (Option Slot) → List (Option Undo) → List (Option Place) → ℕ → Bool
is_kept sh slots undos places q =
    list_any (λ p. is_row q (slice_index_or places p None) || is_row q (kept_by slots (slice_index_or undos p None) (slice_index_or places p None))) (range_with_len 0 sh.pages)

abbrev pub free_in : Shape → List ℕ → ℕ → ℕ
free_in sh fills s = sh.rows - slice_index fills s

abbrev pub dead_in : Shape → List (Option Slot) → List (Option Undo) → List (Option Place) → List ℕ → ℕ → ℕ
dead_in sh slots undos places fills s = slice_index fills s - kept_in sh slots undos places s
