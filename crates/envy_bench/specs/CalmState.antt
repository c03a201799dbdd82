-- What a board on which failures are planned means.
use Rattle.envy_base.specs.State.{State}
use Rattle.envy_bench.specs.Board.{board_state}
use Rattle.envy_bench.specs.declared.calm.CalmBoard.{CalmBoard}

abbrev pub calm_state : CalmBoard → State
calm_state b = board_state b.board
