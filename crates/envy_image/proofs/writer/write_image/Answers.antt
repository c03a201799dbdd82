use Rattle.std.proofs.Common.{Ok, Err, subst, sym, ◌∙◌}
use Rattle.envy_base.specs.declared.shape.Shape.{Shape}
use Rattle.envy_io.specs.Streams.{WritesAll}
use Rattle.std.proofs.lemmas.Result.{err_from_is_err_and}
use Rattle.envy_image.specs.Image.{head_of}
use Rattle.envy_image.proofs.Joining.{head-failed, body-out}
use Rattle.envy_image.proofs.writer.write_image.Goals as goal

pub returns-in_err-write_head : goal.returns-in_err-write_head
returns-in_err-write_head g c =
    let p = err_from_is_err_and c.from_residual.result c.from_residual.ensures.1 in
    rw (p.1, p.2) (head-failed (g.B.Board.state c.args.board.now) _ (g.K.Sink.drain c.args.sink.now) (g.K.Sink.drain c.write_head.new.sink) (sym c.powered.ensures ∙ c.if-not-powered.false) (subst (λ (sh : Shape). WritesAll (g.K.Sink.drain c.args.sink.now) (head_of sh) (Err c.in_err-write_head.field-0.0) (g.K.Sink.drain c.write_head.new.sink)) c.shape.ensures c.in_err-write_head.ensures))

pub returns : goal.returns
returns g c =
    body-out (g.B.Board.state c.args.board.now) _ (g.K.Sink.drain c.args.sink.now) (g.K.Sink.drain c.write_head.new.sink) (g.K.Sink.drain c.write_body.new.sink) (sym c.powered.ensures ∙ c.if-not-powered.false) (subst (λ (sh : Shape). WritesAll (g.K.Sink.drain c.args.sink.now) (head_of sh) (Ok tt) (g.K.Sink.drain c.write_head.new.sink)) c.shape.ensures c.in_ok-write_head.ensures) c.write_body.ensures
