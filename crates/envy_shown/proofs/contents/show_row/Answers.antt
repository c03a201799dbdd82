use Rattle.std.proofs.Common.{rules}
use Rattle.envy_shown.proofs.Rows.{row_shown}
use Rattle.envy_shown.proofs.contents.show_row.Goals as goal

pub returns : goal.returns
returns g c = row_shown _ _ _ _ _ c.in-Ok.kind _ _ c.in-Some.is c.board-board.ensures.same (search rules) (search rules) c.number-2.ensures c.in-Ok.ensures.kind c.row_for_c.ensures
