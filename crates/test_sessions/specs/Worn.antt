-- A board whose worn segments are known to it.
use Rattle.std.specs.Prelude.{None}
use Rattle.envy_base.specs.State.{State}

-- the same, but for the plans that the board makes itself
abbrev pub unplanned : State → State
unplanned s = record s { plans = 0; last_plan = None }
