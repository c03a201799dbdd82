use Rattle.std.proofs.Common.{◌<◌, length, refl, ◌∙◌, ap, arith}
use Rattle.std.specs.Prelude.{if◌then◌else◌}
use Rattle.envy_base.specs.State.{IsBoard}
use Rattle.envy_base.specs.declared.shape.Shape.{Shape}
use Rattle.envy_map.specs.Fields.{Chart, chart}
use Rattle.envy_map.specs.Writes.{with_wear, with_fill}
use Rattle.envy_soundness.specs.Formatting.{Reached}
use Rattle.envy_soundness.proofs.Laying.{Stops-put, Stopped-more, Reached-refl, Reached-fields, Reached-trans, Reached-stops, Reached-spoils}
use Rattle.envy_soundness.proofs.Clearing.{erase-reached, cleared-one}
use Rattle.envy_soundness.proofs.format.clear_segment.Goals as goal

pub returns-in_err-set_wear-clause-stopped : goal.returns-in_err-set_wear-clause-stopped
returns-in_err-set_wear-clause-stopped g c is = Stopped-more 0 1 _ _ (omega arith) (Stops-put (chart (g.B.Board.state c.args.board.now)) (chart (g.B.Board.state c.set_wear.new.board)) (with_wear c.args.segment 1) _ c.requires.on refl c.in_err-set_wear.ensures.writes)

pub returns-in-Err-clause-stopped : goal.returns-in-Err-clause-stopped
returns-in-Err-clause-stopped g c is =
    let worn = c.in_ok-set_wear.ensures.writes in
    let first = Reached-fields 0 (chart (g.B.Board.state c.args.board.now)) (chart (g.B.Board.state c.args.board.now)) (chart (g.B.Board.state c.set_wear.new.board)) (with_wear c.args.segment 1 (chart (g.B.Board.state c.args.board.now)).fields) refl worn.1 (Reached-refl (chart (g.B.Board.state c.args.board.now)) c.requires.on) in
    Reached-stops 0 1 (chart (g.B.Board.state c.args.board.now)) (chart (g.B.Board.state c.set_wear.new.board)) (chart (g.B.Board.state c.erase_one.new.board)) first (c.in-Err.ensures.stopped is)

pub returns-in-Err-clause-spoilt : goal.returns-in-Err-clause-spoilt
returns-in-Err-clause-spoilt g c is =
    let worn = c.in_ok-set_wear.ensures.writes in
    let first = Reached-fields 0 (chart (g.B.Board.state c.args.board.now)) (chart (g.B.Board.state c.args.board.now)) (chart (g.B.Board.state c.set_wear.new.board)) (with_wear c.args.segment 1 (chart (g.B.Board.state c.args.board.now)).fields) refl worn.1 (Reached-refl (chart (g.B.Board.state c.args.board.now)) c.requires.on) in
    let spoilt = c.in-Err.ensures.spoilt is in
    (spoilt.0, Reached-spoils 0 1 (chart (g.B.Board.state c.args.board.now)) (chart (g.B.Board.state c.set_wear.new.board)) (chart (g.B.Board.state c.erase_one.new.board)) first spoilt.1)

pub returns-in_err-set_fill-clause-stopped : goal.returns-in_err-set_fill-clause-stopped
returns-in_err-set_fill-clause-stopped g c is =
    let worn = c.in_ok-set_wear.ensures.writes in
    let first = Reached-fields 0 (chart (g.B.Board.state c.args.board.now)) (chart (g.B.Board.state c.args.board.now)) (chart (g.B.Board.state c.set_wear.new.board)) (with_wear c.args.segment 1 (chart (g.B.Board.state c.args.board.now)).fields) refl worn.1 (Reached-refl (chart (g.B.Board.state c.args.board.now)) c.requires.on) in
    let shape = ap (λ (x : Chart). x.shape.segments) worn.1 in
    let long = IsBoard.erases (g.met.B.Board.lawful c.set_wear.new.board) in
    let inside = c.requires.segment in
    let room : c.args.segment < length (g.B.Board.state c.set_wear.new.board).erases = omega arith in
    let second = Reached-trans 0 1 (chart (g.B.Board.state c.args.board.now)) (chart (g.B.Board.state c.set_wear.new.board)) (chart (g.B.Board.state c.erase_one.new.board)) first (erase-reached (g.B.Board.state c.set_wear.new.board) (g.B.Board.state c.erase_one.new.board) c.args.segment c.in-Ok.is_bad room c.in-Ok.ensures.done) in
    Reached-stops 1 0 (chart (g.B.Board.state c.args.board.now)) (chart (g.B.Board.state c.erase_one.new.board)) (chart (g.B.Board.state c.set_fill.new.board)) second (Stops-put (chart (g.B.Board.state c.erase_one.new.board)) (chart (g.B.Board.state c.set_fill.new.board)) (with_fill c.args.segment c.fill_after.result) _ (Reached.on second) refl c.in_err-set_fill.ensures.writes)

pub returns-clause-done : goal.returns-clause-done
returns-clause-done g c =
    let worn = c.in_ok-set_wear.ensures.writes in
    let first = Reached-fields 0 (chart (g.B.Board.state c.args.board.now)) (chart (g.B.Board.state c.args.board.now)) (chart (g.B.Board.state c.set_wear.new.board)) (with_wear c.args.segment 1 (chart (g.B.Board.state c.args.board.now)).fields) refl worn.1 (Reached-refl (chart (g.B.Board.state c.args.board.now)) c.requires.on) in
    let shape = ap (λ (x : Chart). x.shape.segments) worn.1 in
    let long = IsBoard.erases (g.met.B.Board.lawful c.set_wear.new.board) in
    let inside = c.requires.segment in
    let room : c.args.segment < length (g.B.Board.state c.set_wear.new.board).erases = omega arith in
    cleared-one (chart (g.B.Board.state c.args.board.now)) (g.B.Board.state c.set_wear.new.board) (g.B.Board.state c.erase_one.new.board) (g.B.Board.state c.set_fill.new.board) c.args.segment c.fill_after.result c.in-Ok.is_bad room worn c.in-Ok.ensures.done (c.fill_after.ensures ∙ ap (λ (sh : Shape). if c.in-Ok.is_bad then sh.rows else 0) c.shape-rows.ensures) c.in_ok-set_fill.ensures.writes
