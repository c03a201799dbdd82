use Rattle.std.proofs.lemmas.Result.{err_from_is_err_and}
use Rattle.envy_image.proofs.Blanking.{blanked-goes}
use Rattle.envy_image.proofs.Upsetting.{erase-upset}
use Rattle.envy_image.proofs.installation.erase_all.Goals as goal

pub returns-in_err-erase : goal.returns-in_err-erase
returns-in_err-erase g c =
    let p = err_from_is_err_and c.from_residual.result c.from_residual.ensures.1 in
    let old = g.B.Board.state c.args.board.now in
    let mid = g.B.Board.state c.loop-segment.board in
    rw p.1 (erase-upset old mid (g.B.Board.state c.erase.new.self) c.loop-segment.segment _ (blanked-goes c.loop-segment.segment old mid c.loop-segment.invariant) c.in_err-erase.ensures)
