-- What opening answers over regions that hold these rows, words and counts of erases.
use Rattle.std.specs.Prelude.{◌≡◌, ◌≢◌, ⊤, ℕ, ◌<◌, ◌*◌, List, [], length, slice_index_or, Some}
use Rattle.envy_base.specs.Map.{words_of}
use Rattle.envy_base.specs.State.{AreWords, IsPage, State}
use Rattle.envy_base.specs.declared.shape.Shape.{Shape}
use Rattle.envy_map.specs.Fields.{chart}
use Rattle.envy_policy.specs.declared.setup.Setup.{Setup as OfSetup}
use Rattle.envy_memory.specs.Attaching.{Attaches}
use Rattle.envy_memory.specs.Formats.{Makes, CountsFormat}
use Rattle.envy_memory.specs.Picture.{Picture}
use Rattle.envy_calls.specs.Codes.{number_of}
use Rattle.envy_calls.specs.Making.{Forbids, ForSetup, IsWhole, IsNoSetup}
use Rattle.envy_calls.specs.Setups.{setup_of}
use Rattle.envy_calls.specs.declared.code.Code.{Code}
use Rattle.envy_calls.specs.declared.code.Code.TheVariants.{NoMemory, FlashSize, SramSize, ErasesSize, Policy, Unformatted, Older, OtherShape, Setup, Broken}
use Rattle.envy_calls.specs.declared.setup.EnvySetup.{EnvySetup}
use Rattle.envy_places.specs.declared.place.MemoryPlace.{MemoryPlace}
use Rattle.envy_places.specs.declared.place.MemoryPlace.TheVariants.{Regions}
use Rattle.envy_openings.specs.Opening.{Opens}
use Rattle.envy_region.specs.Region.{region_state}

-- Rows are of 32 words, and words of 64 bits. Of any memory this is so.
pub record AreWhole (flash : List (List ℕ)) (sram : List ℕ) : Type 0 where
  pub pages : (q : ℕ) → q < length flash → IsPage (slice_index_or flash q [])
  pub words : AreWords sram

-- what a caller gives: numbers for a setup, and what stands in its regions
pub record Given : Type 0 where
  pub setup : EnvySetup
  pub flash : List (List ℕ)
  pub sram : List ℕ
  pub erases : List ℕ

-- the board that the regions are under a shape
abbrev pub board_of : Shape → Given → State
board_of shape given = region_state shape given.flash given.sram given.erases 0

-- regions of the sizes that a shape asks for
pub record HasSizes (sh : Shape) (rows : List (List ℕ)) (words counts : List ℕ) : Type 0 where
  pub flash : length rows ≡ sh.segments * sh.rows
  pub sram : length words ≡ words_of sh
  pub erases : length counts ≡ sh.segments

-- why regions make no board: the first of these, in this order, that holds
abbrev pub Misfits : Given → Code → Type 0
Misfits given Policy = IsNoSetup given.setup Policy
Misfits given (Setup fault) = IsNoSetup given.setup (Setup fault)
Misfits given FlashSize = ForSetup given.setup (λ setup. length given.flash ≢ setup.shape.segments * setup.shape.rows)
Misfits given SramSize = ForSetup given.setup (λ setup. (length given.flash ≡ setup.shape.segments * setup.shape.rows) × (length given.sram ≢ words_of setup.shape))
Misfits given ErasesSize = ForSetup given.setup (λ setup. (length given.flash ≡ setup.shape.segments * setup.shape.rows) × (length given.sram ≡ words_of setup.shape) × (length given.erases ≢ setup.shape.segments))
Misfits given other = ⊥

-- the regions have the sizes that the setup asks for, and this holds of it
abbrev pub ForRegions : Given → (OfSetup → Type 0) → Type 0
ForRegions given Of = ForSetup given.setup (λ setup. HasSizes setup.shape given.flash given.sram given.erases × Of setup)

-- Why no memory was made of regions. Power doesn't fail, so no other answer comes.
abbrev pub RefusesFormat : Given → Code → Type 0
RefusesFormat given NoMemory = ForRegions given (λ setup. ⊤)
RefusesFormat given code = Misfits given code

-- the regions make a board, and it isn't taken up
abbrev pub HoldsNoMemory : Given → Code → Type 0
HoldsNoMemory given code = ForRegions given (λ setup. Forbids code (chart (board_of setup.shape given)) setup)

-- Why regions weren't taken up: they make no board, or of what they hold.
abbrev pub RefusesAttach : Given → Code → Type 0
RefusesAttach given Unformatted = HoldsNoMemory given Unformatted
RefusesAttach given Older = HoldsNoMemory given Older
RefusesAttach given OtherShape = HoldsNoMemory given OtherShape
RefusesAttach given (Broken rule) = HoldsNoMemory given (Broken rule)
RefusesAttach given NoMemory = HoldsNoMemory given NoMemory
RefusesAttach given code = Misfits given code

-- a memory of zeros was made
pub record Formatted (given : Given) (p : Picture) : Type 0 where
  pub setup : OfSetup
  pub is : setup_of given.setup ≡ Some setup
  pub sizes : HasSizes setup.shape given.flash given.sram given.erases
  pub makes : Makes (board_of setup.shape given) setup p
  pub counts : CountsFormat (chart (board_of setup.shape given)) p.chart

-- the memory that the regions hold was taken up, as a failure of power left it
pub record Attached (given : Given) (p : Picture) : Type 0 where
  pub setup : OfSetup
  pub is : setup_of given.setup ≡ Some setup
  pub sizes : HasSizes setup.shape given.flash given.sram given.erases
  pub whole : IsWhole (chart (board_of setup.shape given)) setup
  pub attaches : Attaches (chart (board_of setup.shape given)) setup p

-- by the number of the answer
abbrev pub DoesFormat : {R F S : Type 0} → Given → MemoryPlace R F S → MemoryPlace R F S → ℕ → Type 0
DoesFormat given old new answer = (code : Code) × (answer ≡ number_of code) × Opens Regions (λ c. c) (Formatted given) (RefusesFormat given) old new code

abbrev pub DoesAttach : {R F S : Type 0} → Given → MemoryPlace R F S → MemoryPlace R F S → ℕ → Type 0
DoesAttach given old new answer = (code : Code) × (answer ≡ number_of code) × Opens Regions (λ c. c) (Attached given) (RefusesAttach given) old new code
