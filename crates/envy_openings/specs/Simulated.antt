-- What formatting a new board in memory answers, and what taking one up from an image.
use Rattle.std.specs.Prelude.{◌≡◌, ⊤, ℕ, List, Some}
use Rattle.envy_base.specs.State.{State}
use Rattle.envy_bench.specs.Parts.{new_state}
use Rattle.envy_map.specs.Fields.{chart}
use Rattle.envy_policy.specs.declared.setup.Setup.{Setup as OfSetup}
use Rattle.envy_memory.specs.Attaching.{Attaches}
use Rattle.envy_memory.specs.Formats.{Makes, CountsFormat}
use Rattle.envy_memory.specs.Picture.{Picture}
use Rattle.envy_calls.specs.Codes.{number_of}
use Rattle.envy_calls.specs.Making.{Forbids, ForSetup, IsNoSetup, IsWhole}
use Rattle.envy_calls.specs.Setups.{setup_of}
use Rattle.envy_calls.specs.declared.code.Code.{Code}
use Rattle.envy_calls.specs.declared.code.Code.TheVariants.{NoMemory, Unformatted, Older, OtherShape, Broken, ImageShort, ImageMark, ImageOther, ImageShape}
use Rattle.envy_calls.specs.declared.setup.EnvySetup.{EnvySetup}
use Rattle.envy_places.specs.declared.place.MemoryPlace.{MemoryPlace}
use Rattle.envy_places.specs.declared.place.MemoryPlace.TheVariants.{Simulated}
use Rattle.envy_openings.specs.Opening.{Opens}
use Rattle.envy_openings.specs.Image.{HoldsImage, NoBoard}

-- a memory of zeros over a new board, whose power can return so often
pub record Formatted (given : EnvySetup) (lives : ℕ) (p : Picture) : Type 0 where
  pub setup : OfSetup
  pub is : setup_of given ≡ Some setup
  pub makes : Makes (new_state setup.shape lives) setup p
  pub counts : CountsFormat (chart (new_state setup.shape lives)) p.chart

-- Why there is no memory of zeros. Nothing of a new board fails, so no other answer comes.
abbrev pub RefusesFormat : EnvySetup → Code → Type 0
RefusesFormat given NoMemory = ForSetup given (λ setup. ⊤)
RefusesFormat given code = IsNoSetup given code

-- The memory that the image of a board is, over a new board whose power can return so often: it was taken up as a
-- failure of power left it.
pub record Restored (given : EnvySetup) (lives : ℕ) (bytes : List ℕ) (p : Picture) : Type 0 where
  pub setup : OfSetup
  pub is : setup_of given ≡ Some setup
  pub board : State
  pub holds : HoldsImage bytes (new_state setup.shape lives) board
  pub whole : IsWhole (chart board) setup
  pub attaches : Attaches (chart board) setup p

-- the bytes make no board of the setup's shape
abbrev pub GivesNoBoard : EnvySetup → List ℕ → Code → Type 0
GivesNoBoard given bytes code = ForSetup given (λ setup. NoBoard bytes setup.shape code)

-- they make a board, and it isn't taken up
abbrev pub GivesNoMemory : EnvySetup → ℕ → List ℕ → Code → Type 0
GivesNoMemory given lives bytes code = ForSetup given (λ setup. (board : State) × HoldsImage bytes (new_state setup.shape lives) board × Forbids code (chart board) setup)

-- Why no memory was made of an image: there is no setup, or no board, or of what the board holds. Nothing of a new
-- board fails, so no other answer comes.
abbrev pub RefusesImage : EnvySetup → ℕ → List ℕ → Code → Type 0
RefusesImage given lives bytes NoMemory = ForSetup given (λ setup. ⊤)
RefusesImage given lives bytes ImageShort = GivesNoBoard given bytes ImageShort
RefusesImage given lives bytes ImageMark = GivesNoBoard given bytes ImageMark
RefusesImage given lives bytes ImageOther = GivesNoBoard given bytes ImageOther
RefusesImage given lives bytes (ImageShape fault) = GivesNoBoard given bytes (ImageShape fault)
RefusesImage given lives bytes Unformatted = GivesNoMemory given lives bytes Unformatted
RefusesImage given lives bytes Older = GivesNoMemory given lives bytes Older
RefusesImage given lives bytes OtherShape = GivesNoMemory given lives bytes OtherShape
RefusesImage given lives bytes (Broken rule) = GivesNoMemory given lives bytes (Broken rule)
RefusesImage given lives bytes code = IsNoSetup given code

-- by the number of the answer
abbrev pub DoesFormat : {R F S : Type 0} → EnvySetup → ℕ → MemoryPlace R F S → MemoryPlace R F S → ℕ → Type 0
DoesFormat given lives old new answer = (code : Code) × (answer ≡ number_of code) × Opens Simulated (λ c. c) (Formatted given lives) (RefusesFormat given) old new code

abbrev pub DoesRestore : {R F S : Type 0} → EnvySetup → ℕ → List ℕ → MemoryPlace R F S → MemoryPlace R F S → ℕ → Type 0
DoesRestore given lives bytes old new answer = (code : Code) × (answer ≡ number_of code) × Opens Simulated (λ c. c) (Restored given lives bytes) (RefusesImage given lives bytes) old new code
