-- What a board told of its failures, beside what it counted itself.
use Rattle.std.specs.Prelude.{◌≤◌}
use Rattle.envy_base.specs.State.{State}

-- no more failures were told than the board counted itself
pub record TellsNoMore (told own : State) : Type 0 where
  pub cuts : told.cuts ≤ own.cuts
  pub bads : told.bads ≤ own.bads
