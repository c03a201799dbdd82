-- What making a board over a part answers.
use Rattle.std.specs.Prelude.{◌≡◌, ◌≢◌, ◌*◌, ℕ, List, length, replicate}
use Rattle.envy_base.specs.declared.shape.Shape.{Shape}
use Rattle.envy_base.specs.Map.{words_of}
use Rattle.envy_base.specs.State.{State}
use Rattle.envy_part.specs.Part.{part_state}
use Rattle.envy_part.specs.declared.fault.PartFault.{PartFault}
use Rattle.envy_part.specs.declared.fault.PartFault.TheVariants.{FlashSize, SramSize, NoMemory}

-- regions of the sizes that a shape asks for
pub record HasSizes (sh : Shape) (rows : List (List ℕ)) (words : List ℕ) : Type 0 where
  pub flash : length rows ≡ sh.segments * sh.rows
  pub sram : length words ≡ words_of sh

-- the board that regions are, of whose segments none was erased yet
abbrev pub new_part : Shape → List (List ℕ) → List ℕ → State
new_part sh rows words = part_state sh rows words (replicate sh.segments 0) 0 0

-- the first that doesn't fit, those before it being right
abbrev pub Misfits : Shape → List (List ℕ) → List ℕ → PartFault → Type 0
Misfits sh rows words FlashSize = length rows ≢ sh.segments * sh.rows
Misfits sh rows words SramSize = (length rows ≡ sh.segments * sh.rows) × (length words ≢ words_of sh)
Misfits sh rows words NoMemory = HasSizes sh rows words
