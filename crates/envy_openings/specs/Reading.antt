-- What bytes in memory give as a source, and how far they were read.
use Rattle.std.specs.Prelude.{◌≡◌, ℕ, ◌+◌, ◌-◌, ◌^◌, IsTrue, List, [], length, Some, Ok}
use Rattle.envy_base.specs.Shape.{checked}
use Rattle.envy_base.specs.declared.shape.Shape.{Shape}
use Rattle.envy_io.specs.Streams.{Feed}
use Rattle.envy_io.specs.Taking.{Taking}
use Rattle.envy_image.specs.Installing.{HasReadHead}
use Rattle.envy_openings.specs.Image.{HasHead}

-- bytes as a source, which never fails
abbrev pub feed_of : List ℕ → Feed
feed_of bytes = record { left = Some bytes; faults = 0 }

-- Of the bytes these are left. More may be taken than there are, so that the end comes first.
pub record IsAt (bytes left : List ℕ) (t : Taking) : Type 0 where
  pub cap : t.cap ≡ 2 ^ 64 - 1
  pub taken : t.taken + length left ≡ length bytes
  pub held : t.held ≡ []
  pub dry : IsTrue t.ended → left ≡ []

-- the head of an image was read, and its shape checks
pub record IsOpened (bytes : List ℕ) (sh : Shape) (left : List ℕ) (t : Taking) : Type 0 where
  pub head : HasHead bytes sh left
  pub checks : checked sh ≡ Ok tt
  pub at : IsAt bytes left t
  pub read : HasReadHead sh t (feed_of left)
