use Rattle.envy_base.specs.State.{IsBoard}
use Rattle.envy_map.specs.Fields.{chart}
use Rattle.envy_soundness.proofs.Empty.{laid-map, laid-spoils}
use Rattle.envy_soundness.proofs.Formed.{Lengths-board, slots-few}
use Rattle.envy_soundness.proofs.format.lay_map.Goals as goal

pub returns-clause-laid : goal.returns-clause-laid
returns-clause-laid g c =
    let board = g.met.B.Board.lawful c.args.board.now in
    laid-map (chart (g.B.Board.state c.args.board.now)) (chart (g.B.Board.state c.clear_segments.new.board)) (chart (g.B.Board.state c.lay_head.new.board)) (chart (g.B.Board.state c.lay_regions.new.board)) c.args.version c.args.slots (IsBoard.shape board) c.requires.slots (rw c.requires.slots (slots-few c.args.version)) (Lengths-board _ board) (IsBoard.rows board) c.in-Ok.ensures.done c.in_ok-lay_head.ensures.done c.in_ok-lay_regions.ensures.done

pub returns-clause-spoils : goal.returns-clause-spoils
returns-clause-spoils g c =
    laid-spoils (chart (g.B.Board.state c.args.board.now)) (chart (g.B.Board.state c.clear_segments.new.board)) (chart (g.B.Board.state c.lay_head.new.board)) (chart (g.B.Board.state c.lay_regions.new.board)) c.args.version c.args.slots c.in-Ok.ensures.done c.in_ok-lay_head.ensures.done c.in_ok-lay_regions.ensures.done
