-- What bytes say of the board whose image they begin with.
use Rattle.std.specs.Prelude.{◌≡◌, List, [], ℕ, ◌++◌, OnOk, Some, Result}
use Rattle.envy_base.specs.State.{State, IsBoard}
use Rattle.envy_io.specs.Streams.{Feed}
use Rattle.envy_io.specs.Taking.{Taking}
use Rattle.envy_image.specs.declared.installation.InFault.{InFault}
use Rattle.envy_image.specs.Image.{body_of, image_of}

-- two boards of one shape hold the same words
pub record HoldTheSame (s t : State) : Type 0 where
  pub shape : s.shape ≡ t.shape
  pub flash : s.flash ≡ t.flash
  pub sram : s.sram ≡ t.sram

-- bytes begin with the image of one board at most
abbrev pub BeginWithOneImage : Type 0
BeginWithOneImage =
    (s t : State) (a b : List ℕ) → IsBoard s → IsBoard t → image_of s ++ a ≡ image_of t ++ b → HoldTheSame s t × (a ≡ b)

-- Where the bytes that are left begin with those of a board of this shape, installing them makes that board.
abbrev pub GivesBack : State → Taking → Feed → Result Unit InFault → State → Type 0
GivesBack old was from result new =
    (b : State) (rest : List ℕ) → IsBoard b → b.shape ≡ old.shape → was.held ≡ [] → from.left ≡ Some (body_of b.flash b.sram ++ rest) → OnOk result (HoldTheSame new b)
