-- The numbers of what calls on a place answer. No two answers share one.
use Rattle.std.specs.Prelude.{ℕ, Option, None, Some}
use Rattle.envy_calls.specs.Codes.{number_of}
use Rattle.envy_calls.specs.declared.code.Code.TheVariants.{Empty}
use Rattle.envy_memory.specs.Picture.{Picture}
use Rattle.envy_places.specs.declared.code.PlaceCode.{PlaceCode}
use Rattle.envy_places.specs.declared.code.PlaceCode.TheVariants.{Of, NoJournal, OtherVersion, Damaged, Appended, OtherBoard}

abbrev pub number_of_place : PlaceCode → ℕ
number_of_place (Of code) = number_of code
number_of_place NoJournal = 72
number_of_place OtherVersion = 73
number_of_place Damaged = 74
number_of_place Appended = 75
number_of_place OtherBoard = 76

-- what a place answers that stands over another board than a call asks for
abbrev pub unable : Option Picture → ℕ
unable None = number_of Empty
unable (Some p) = number_of_place OtherBoard
