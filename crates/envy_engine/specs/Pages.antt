-- Where the words of a page may be.
use Rattle.std.specs.Prelude.{◌<◌, length}
use Rattle.envy_base.specs.State.{State}
use Rattle.envy_base.specs.declared.fields.Place.{Place}
use Rattle.envy_base.specs.declared.fields.Place.TheVariants.{Absent, Row, Frame}

-- the row or frame is one of the board's
abbrev pub InRange : State → Place → Type 0
InRange s Absent = Unit {0}
InRange s (Row q) = q < length s.flash
InRange s (Frame k) = k < s.shape.frames
