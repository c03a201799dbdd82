use Rattle.std.proofs.Common.{arith}
use Rattle.std.proofs.lemmas.List.{ext_get_or}
use Rattle.envy_base.specs.State.{IsBoard, IsPage}
use Rattle.envy_reloc.proofs.row_copy.read_row.Goals as goal

pub returns-clause-words : goal.returns-clause-words
returns-clause-words g c =
    let long = c.loop-i.invariant.long in
    let page = IsPage.long (IsBoard.pages (g.met.B.Board.lawful c.args.board.now) c.args.row (rw (IsBoard.rows (g.met.B.Board.lawful c.args.board.now)) c.requires)) in
    ext_get_or 0 _ _ (omega arith) (λ k lt. c.loop-i.invariant.read k (omega arith))
