-- What the calls that show a memory's board answer, and what they write.
use Rattle.std.specs.Prelude.{◌≡◌, ◌⊎◌, ℕ, ◌*◌, ◌<◌, ◌≤◌, false, IsTrue, Option, None, Some, slice_index}
use Rattle.envy_base.specs.Shape.{all_positions_of}
use Rattle.envy_base.specs.declared.fields.Job.{Job}
use Rattle.envy_base.specs.declared.fields.Job.TheVariants.{Idle, Copy, Switch, Erase}
use Rattle.envy_base.specs.declared.fields.Place.{Place}
use Rattle.envy_base.specs.declared.fields.Place.TheVariants.{Absent, Row, Frame}
use Rattle.envy_base.specs.declared.fields.Undo.{Undo}
use Rattle.envy_base.specs.declared.fields.Undo.TheVariants.{Clear, Blank, Shadow}
use Rattle.envy_base.specs.declared.shape.Shape.{Shape}
use Rattle.envy_map.specs.Fields.{Fields, place as place_in, undo as undo_in}
use Rattle.envy_memory.specs.Picture.{Picture}
use Rattle.envy_calls.specs.Codes.{number_of}
use Rattle.envy_calls.specs.declared.code.Code.TheVariants.{Done, Empty, Off, Range}
use Rattle.envy_picture.specs.Kinds.{IsKind}
use Rattle.envy_picture.specs.declared.kinds.RowKind.{RowKind}
use Rattle.envy_picture.specs.declared.kinds.RowKind.TheVariants.{Free, Kept, Shadow as ShadowRow, Dead}
use Rattle.envy_shown.specs.declared.shapes.EnvyJob.{EnvyJob}
use Rattle.envy_shown.specs.declared.shapes.EnvyPage.{EnvyPage}
use Rattle.envy_shown.specs.declared.shapes.EnvyRow.{EnvyRow}
use Rattle.envy_shown.specs.declared.shapes.EnvySegment.{EnvySegment}

-- something of a memory is written, or nothing, since power is off
abbrev pub Shows : {A : Type 0} → Picture → (A → Type 0) → ℕ → A → A → Type 0
Shows p Is code before after =
    ((p.chart.on ≡ false) × (code ≡ number_of Off) × (after ≡ before))
    ⊎ (IsTrue p.chart.on × (code ≡ number_of Done) × Is after)

-- the i-th of so many; past the last nothing is written
abbrev pub ShowsOne : {A : Type 0} → Picture → ℕ → ℕ → (A → Type 0) → ℕ → A → A → Type 0
ShowsOne p most i Is code before after =
    ((i < most) × Shows p Is code before after)
    ⊎ ((most ≤ i) × (((p.chart.on ≡ false) × (code ≡ number_of Off)) ⊎ (IsTrue p.chart.on × (code ≡ number_of Range))) × (after ≡ before))

-- a row by its kind
abbrev pub row_for_c : RowKind → EnvyRow
row_for_c Free = record { kind = 0; page = 0; slot = 0 }
row_for_c (Kept p) = record { kind = 1; page = p; slot = 0 }
row_for_c (ShadowRow p t) = record { kind = 2; page = p; slot = t }
row_for_c Dead = record { kind = 3; page = 0; slot = 0 }

abbrev pub ShowsRow : Option Picture → ℕ → ℕ → EnvyRow → EnvyRow → Type 0
ShowsRow None q code before after = (code ≡ number_of Empty) × (after ≡ before)
ShowsRow (Some p) q code before after =
    ShowsOne p (p.chart.shape.segments * p.chart.shape.rows) q
    (λ row. (kind : RowKind) × IsKind p.chart.shape p.chart.fields q kind × (row ≡ row_for_c kind)) code before after

-- a page by its place and its undo
abbrev pub with_undo_for_c : ℕ → ℕ → Undo → EnvyPage
with_undo_for_c place at Clear = record { place = place; at = at; undo = 0; slot = 0; shadow = 0 }
with_undo_for_c place at (Blank t) = record { place = place; at = at; undo = 1; slot = t; shadow = 0 }
with_undo_for_c place at (Shadow t q) = record { place = place; at = at; undo = 2; slot = t; shadow = q }

abbrev pub page_for_c : Place → Undo → EnvyPage
page_for_c Absent undo = with_undo_for_c 0 0 undo
page_for_c (Row q) undo = with_undo_for_c 1 q undo
page_for_c (Frame k) undo = with_undo_for_c 2 k undo

abbrev pub ShowsPage : Option Picture → ℕ → ℕ → EnvyPage → EnvyPage → Type 0
ShowsPage None i code before after = (code ≡ number_of Empty) × (after ≡ before)
ShowsPage (Some p) i code before after =
    ShowsOne p p.chart.shape.pages i
    (λ page. (place : Place) × (undo : Undo) × (place_in p.chart.fields i ≡ Some place)
    × (undo_in p.chart.fields i ≡ Some undo) × (page ≡ page_for_c place undo)) code before after

abbrev pub ShowsPosition : Option Picture → ℕ → ℕ → ℕ → ℕ → Type 0
ShowsPosition None k code before after = (code ≡ number_of Empty) × (after ≡ before)
ShowsPosition (Some p) k code before after =
    ShowsOne p (all_positions_of p.chart.shape) k (λ segment. segment ≡ slice_index p.chart.fields.positions k) code before after

abbrev pub ShowsSegment : Option Picture → ℕ → ℕ → EnvySegment → EnvySegment → Type 0
ShowsSegment None s code before after = (code ≡ number_of Empty) × (after ≡ before)
ShowsSegment (Some p) s code before after =
    ShowsOne p p.chart.shape.segments s
    (λ segment. (segment.wear ≡ slice_index p.chart.fields.wears s) × (segment.fill ≡ slice_index p.chart.fields.fills s)) code before after

-- a job by its number, and the segment that it names
abbrev pub job_for_c : Job → EnvyJob
job_for_c Idle = record { kind = 0; segment = 0 }
job_for_c (Copy v) = record { kind = 1; segment = v }
job_for_c (Switch v) = record { kind = 2; segment = v }
job_for_c Erase = record { kind = 3; segment = 0 }

abbrev pub ShowsJob : Option Picture → ℕ → EnvyJob → EnvyJob → Type 0
ShowsJob None code before after = (code ≡ number_of Empty) × (after ≡ before)
ShowsJob (Some p) code before after =
    Shows p (λ shown. (job : Job) × (p.chart.fields.job ≡ Some job) × (shown ≡ job_for_c job)) code before after
