-- How a call ended tells whether power is on, and whether power is on tells how it ended.
use Rattle.std.specs.Prelude.{Bool, true, false, Result, Ok, Err}
use Rattle.envy_base.specs.declared.board.Off.{Off}
use Rattle.envy_base.specs.declared.board.Trouble.{Trouble}
use Rattle.envy_base.specs.declared.board.Trouble.TheVariants.{Off as TroubleOff, Bad}

-- power is off exactly where a call ended with `Off`
abbrev pub power_of : {A : Type 0} → Result A Off → Bool
power_of (Ok x) = true
power_of (Err off) = false

-- and so it is where a call can also end with `Bad`, which leaves power on
abbrev pub power_after : {A : Type 0} → Result A Trouble → Bool
power_after (Ok x) = true
power_after (Err TroubleOff) = false
power_after (Err Bad) = true
