use Rattle.std.proofs.Common.{◌*◌, [], arith, ap}
use Rattle.envy_base.specs.declared.shape.Shape.{Shape}
use Rattle.std.proofs.lemmas.Result.{err_from_is_err_and}
use Rattle.envy_image.specs.Image.{words_bytes}
use Rattle.envy_image.proofs.Joining.{item-out}
use Rattle.envy_image.proofs.writer.write_rows.Goals as goal

pub returns-in_err-write_row : goal.returns-in_err-write_row
returns-in_err-write_row g c =
    let p = err_from_is_err_and c.from_residual.result c.from_residual.ensures.1 in
    rw (p.1, p.2) (item-out words_bytes (g.B.Board.state c.args.board.now).flash [] c.loop-row.row (g.B.Board.state c.args.board.now).on _ (g.K.Sink.drain c.args.sink.now) (g.K.Sink.drain c.loop-row.sink) (g.K.Sink.drain c.write_row.new.sink) (omega (arith, (g.met.B.Board.lawful c.args.board.now).rows, ap (λ (sh : Shape). sh.segments * sh.rows) c.shape-shape.ensures)) c.requires c.loop-row.invariant c.in_err-write_row.ensures)
