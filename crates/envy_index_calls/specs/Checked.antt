-- What the check of a range answers, whatever its words are.
use Rattle.std.specs.Prelude.{◌≡◌, ◌≢◌, ◌⊎◌, ℕ, List, Option, None, Some, Result, Ok, Err}
use Rattle.envy_memory.specs.Picture.{Picture}
use Rattle.envy_btree.specs.Index.{IsIndex}
use Rattle.envy_tree_check.specs.Faults.{Causes}
use Rattle.envy_tree_check.specs.declared.fault.MapFault.{MapFault}
use Rattle.envy_tree_check.specs.declared.fault.MapFault.TheVariants.{Off, Short, Used, Many, FreeList, Deep, Node, Head, Level, Few, Keys, Freed, Lost, Count}
use Rattle.envy_calls.specs.declared.code.Code.{Code}
use Rattle.envy_calls.specs.declared.code.Code.TheVariants.{Done, Off as CodeOff, BrokenMap}
use Rattle.envy_index_calls.specs.Indexed.{Loses, Pairs}
use Rattle.envy_index_calls.specs.Ranged.{Keeps}
use Rattle.envy_index_calls.specs.Ranges.{Denies, words_in}
use Rattle.envy_index_calls.specs.declared.ranges.EnvyMap.{EnvyMap}
use Rattle.envy_index_calls.specs.declared.ranges.Whose.TheVariants.{Any}

-- the rules of maps by number, in the order of the check
abbrev pub number_of_rule : MapFault → ℕ
number_of_rule Off = 0
number_of_rule Short = 1
number_of_rule Used = 2
number_of_rule Many = 3
number_of_rule FreeList = 4
number_of_rule Deep = 5
number_of_rule Node = 6
number_of_rule Head = 7
number_of_rule Level = 8
number_of_rule Few = 9
number_of_rule Keys = 10
number_of_rule Freed = 11
number_of_rule Lost = 12
number_of_rule Count = 13

-- The words break the rule of this number, and stand for no map.
pub record AreNone (words : List ℕ) (rule : ℕ) : Type 0 where
  pub fault : MapFault
  pub told : fault ≢ Off
  pub number : rule ≡ number_of_rule fault
  pub cause : Causes words fault
  pub none : (es : Pairs) → IsIndex words es → ⊥

-- what the check of a range leaves, and what its answer tells of the words
abbrev pub Checks : EnvyMap → ℕ → Picture → Picture → Code → Type 0
Checks range rule p q Done = Keeps p q × ((es : Pairs) × IsIndex (words_in range p) es)
Checks range rule p q BrokenMap = Keeps p q × AreNone (words_in range p) rule
Checks range rule p q CodeOff = Loses p q
Checks range rule p q code = (q ≡ p) × Denies Any (Some range) p code

-- the code of a check, and the number at the caller's pointer
abbrev pub TellsCheck : Result Unit MapFault → Code → ℕ → ℕ → Type 0
TellsCheck (Ok done) code before after = (code ≡ Done) × (after ≡ before)
TellsCheck (Err fault) code before after = ((fault ≡ Off) × (code ≡ CodeOff) × (after ≡ before)) ⊎ ((fault ≢ Off) × (code ≡ BrokenMap) × (after ≡ number_of_rule fault))
