-- The numbers of what opening answers. No two answers share one.
use Rattle.std.specs.Prelude.{ℕ}
use Rattle.envy_part.specs.declared.fault.PartFault.{PartFault}
use Rattle.envy_part.specs.declared.fault.PartFault.TheVariants as part
use Rattle.envy_part.specs.declared.places.PlaceFault.{PlaceFault}
use Rattle.envy_part.specs.declared.places.PlaceFault.TheVariants as place
use Rattle.envy_calls.specs.Codes.{number_of}
use Rattle.envy_calls.specs.declared.code.Code.TheVariants.{FlashSize, SramSize, NoMemory}
use Rattle.envy_parted.specs.declared.code.PartCode.{PartCode}
use Rattle.envy_parted.specs.declared.code.PartCode.TheVariants.{Of, FlashAddress, SramAddress, Past, Overlap}

abbrev pub number_of_part : PartCode → ℕ
number_of_part (Of code) = number_of code
number_of_part FlashAddress = 64
number_of_part SramAddress = 65
number_of_part Past = 66
number_of_part Overlap = 67

-- the answer for places in which no board stands
abbrev pub code_of_place : PlaceFault → PartCode
code_of_place place.FlashAddress = FlashAddress
code_of_place place.SramAddress = SramAddress
code_of_place place.FlashSize = Of FlashSize
code_of_place place.SramSize = Of SramSize
code_of_place place.Past = Past
code_of_place place.Overlap = Overlap

-- the answer for regions that make no board
abbrev pub code_of_part : PartFault → PartCode
code_of_part part.FlashSize = Of FlashSize
code_of_part part.SramSize = Of SramSize
code_of_part part.NoMemory = Of NoMemory
