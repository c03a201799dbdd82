use Rattle.std.specs.Prelude.{◌≡◌, length}
use Rattle.envy_base.specs.State.{State}
use Rattle.envy_io.specs.Streams.{Feed}
use Rattle.envy_io.specs.Taking.{Taking}
use Rattle.envy_image.specs.Installing.{Filled}
use Rattle.envy_image.proofs.installation.fill_rest.Given as goal

abbrev pub invariant-loop-w : goal.invariant-loop-w
invariant-loop-w g l =
    (length (g.B.Board.state l.board).sram ≡ length (g.B.Board.state l.initial.board).sram)
    × ((start : State) (was : Taking) (from : Feed) → Filled l.first start was from (g.B.Board.state l.initial.board) l.initial.lines (g.S.Source.feed l.initial.source) → Filled l.w start was from (g.B.Board.state l.board) l.lines (g.S.Source.feed l.source))
