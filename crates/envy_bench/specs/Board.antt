-- What a board in memory means.
use Rattle.envy_base.specs.State.{State}
use Rattle.envy_bench.specs.Power.{Power}
use Rattle.envy_bench.specs.declared.board.MemBoard.{MemBoard}
use Rattle.envy_bench.specs.Parts.{state_of}

-- as a board
abbrev pub board_state : MemBoard → State
board_state b = state_of b.shape b.flash b.sram b.supply b.begun b.pulled b.plans b.given

-- its supply of power, with the plans that stand
abbrev pub board_power : MemBoard → Power
board_power b = b.supply
