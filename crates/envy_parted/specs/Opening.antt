-- What opening answers over a part that holds these rows, and SRAM that holds these words.
use Rattle.std.specs.Prelude.{◌≡◌, ◌≢◌, ◌⊎◌, ℕ, ◌*◌, ◌<◌, IsTrue, List, slice_index, Option, None, Some, Ok}
use Rattle.envy_base.specs.Map.{words_of}
use Rattle.envy_base.specs.State.{State}
use Rattle.envy_base.specs.declared.shape.Shape.{Shape}
use Rattle.envy_map.specs.Fields.{chart}
use Rattle.envy_part.specs.Making.{HasSizes, Misfits, new_part}
use Rattle.envy_part.specs.Placing.{ArePlaced, Misplaces}
use Rattle.envy_part.specs.declared.fault.PartFault.{PartFault}
use Rattle.envy_part.specs.declared.places.PlaceFault.{PlaceFault}
use Rattle.envy_part.specs.declared.places.Places.{Places}
use Rattle.envy_policy.specs.Setup.{checked}
use Rattle.envy_policy.specs.declared.setup.Setup.{Setup as OfSetup}
use Rattle.envy_memory.specs.Attaching.{Attaches}
use Rattle.envy_memory.specs.Formats.{Makes, CountsFormat}
use Rattle.envy_memory.specs.Picture.{Picture}
use Rattle.envy_calls.specs.Making.{Forbids, ForSetup, IsWhole, IsNoSetup}
use Rattle.envy_calls.specs.Setups.{setup_of}
use Rattle.envy_calls.specs.declared.code.Code.{Code}
use Rattle.envy_calls.specs.declared.code.Code.TheVariants.{Done, Bad, NoMemory, Open}
use Rattle.envy_calls.specs.declared.setup.EnvySetup.{EnvySetup}
use Rattle.envy_parted.specs.Codes.{number_of_part, code_of_part, code_of_place}
use Rattle.envy_parted.specs.declared.code.PartCode.{PartCode}
use Rattle.envy_parted.specs.declared.code.PartCode.TheVariants.{Of}
use Rattle.envy_parted.specs.declared.part_sizes.EnvyPartSizes.{EnvyPartSizes}

-- what a caller gives: numbers for a setup, where its regions lie, and what stands in them
pub record Given : Type 0 where
  pub setup : EnvySetup
  pub places : Places
  pub flash : List (List ℕ)
  pub sram : List ℕ

-- the board that the regions are under a shape
abbrev pub board_of : Shape → Given → State
board_of shape given = new_part shape given.flash given.sram

-- the numbers give a setup for whose shape the regions lie right, but this holds of it
abbrev pub ForPlaces : Given → (OfSetup → Type 0) → Type 0
ForPlaces given Holds = ForSetup given.setup (λ setup. ArePlaced setup.shape given.places × Holds setup)

-- the regions are a board of the setup's shape, and this holds of it
abbrev pub ForPart : Given → (OfSetup → Type 0) → Type 0
ForPart given Holds = ForPlaces given (λ setup. HasSizes setup.shape given.flash given.sram × Holds setup)

-- why there is no setup whose regions may lie in these places: the numbers make none, or the places break a rule
abbrev pub NoPlaces : EnvySetup → Places → PartCode → Type 0
NoPlaces given places code =
    ((cause : Code) × (code ≡ Of cause) × IsNoSetup given cause)
    ⊎ ((fault : PlaceFault) × (code ≡ code_of_place fault) × ForSetup given (λ setup. Misplaces setup.shape places fault))

-- Why there is no board to order anything of: no setup, or the regions have other sizes, or no memory is left for the counts
-- of erases.
abbrev pub NoBoard : Given → PartCode → Type 0
NoBoard given code =
    NoPlaces given.setup given.places code
    ⊎ ((fault : PartFault) × (code ≡ code_of_part fault) × ForPlaces given (λ setup. Misfits setup.shape given.flash given.sram fault))

-- Formatting stopped, since more erases were bad than positions are in reserve: the board that is left isn't formatted.
pub record StopsFormat (old left : State) : Type 0 where
  pub failed : old.shape.reserves < left.bads
  pub unformatted : slice_index left.sram 0 ≡ 0
  pub on : IsTrue left.on
  pub counts : CountsFormat (chart old) (chart left)

-- Why formatting ended without a memory, and the board that it left: no memory is left and nothing was ordered, or more
-- erases were bad than positions are in reserve.
abbrev pub EndsFormat : State → Code → State → Type 0
EndsFormat old code left = ((code ≡ NoMemory) × (left ≡ old)) ⊎ ((code ≡ Bad) × StopsFormat old left)

-- formatting a part that is a board ended without a memory, and left this board
abbrev pub LeavesPart : Given → State → PartCode → Type 0
LeavesPart given left code = (cause : Code) × (code ≡ Of cause) × ForPart given (λ setup. EndsFormat (board_of setup.shape given) cause left)

-- Why no memory was made over a part: there is no board, no memory is left, or more erases were bad than positions are in
-- reserve.
unfoldable pub RefusesFormat : Given → PartCode → Type 0
RefusesFormat given code =
    NoBoard given code
    ⊎ ((left : State) × LeavesPart given left code)

-- Why a part wasn't taken up: there is no board, or of what it holds. Nothing is ordered, so nothing is bad.
unfoldable pub RefusesAttach : Given → PartCode → Type 0
RefusesAttach given code =
    NoBoard given code
    ⊎ ((cause : Code) × (code ≡ Of cause) × ForPart given (λ setup. Forbids cause (chart (board_of setup.shape given)) setup))

-- a memory of zeros was made
pub record Formatted (given : Given) (p : Picture) : Type 0 where
  pub setup : OfSetup
  pub is : setup_of given.setup ≡ Some setup
  pub placed : ArePlaced setup.shape given.places
  pub sizes : HasSizes setup.shape given.flash given.sram
  pub makes : Makes (board_of setup.shape given) setup p
  pub counts : CountsFormat (chart (board_of setup.shape given)) p.chart

-- the memory that the part holds was taken up, as a failure of power left it
pub record Attached (given : Given) (p : Picture) : Type 0 where
  pub setup : OfSetup
  pub is : setup_of given.setup ≡ Some setup
  pub placed : ArePlaced setup.shape given.places
  pub sizes : HasSizes setup.shape given.flash given.sram
  pub whole : IsWhole (chart (board_of setup.shape given)) setup
  pub attaches : Attaches (chart (board_of setup.shape given)) setup p

-- In a place: it held no memory and holds one now; or it stays as it was, since it held one, or since the call was
-- refused.
abbrev pub Opens : (Picture → Type 0) → (PartCode → Type 0) → Option Picture → Option Picture → PartCode → Type 0
Opens Made Refused old new code =
    ((code ≡ Of Done) × (old ≡ None) × (p : Picture) × (new ≡ Some p) × Made p)
    ⊎ (((code ≡ Of Open) × (old ≢ None) × (new ≡ old))
    ⊎ ((old ≡ None) × (new ≡ None) × Refused code))

abbrev pub DoesFormat : Given → Option Picture → Option Picture → ℕ → Type 0
DoesFormat given old new answer = (code : PartCode) × (answer ≡ number_of_part code) × Opens (Formatted given) (RefusesFormat given) old new code

abbrev pub DoesAttach : Given → Option Picture → Option Picture → ℕ → Type 0
DoesAttach given old new answer = (code : PartCode) × (answer ≡ number_of_part code) × Opens (Attached given) (RefusesAttach given) old new code

-- What asking for sizes answers: those of the setup's shape, or why there is no setup.
abbrev pub DoesSize : EnvySetup → EnvyPartSizes → EnvyPartSizes → Code → Type 0
DoesSize given before after code =
    ((code ≡ Done) × (setup : OfSetup) × (setup_of given ≡ Some setup) × (checked setup ≡ Ok tt)
    × (after ≡ record { rows = setup.shape.segments * setup.shape.rows; words = words_of setup.shape }))
    ⊎ (IsNoSetup given code × (after ≡ before))
