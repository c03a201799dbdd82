use Rattle.std.proofs.Common.{Bool, List, ℕ, Ok, Err, subst}
use Rattle.std.proofs.lemmas.Result.{err_from_is_err_and}
use Rattle.envy_io.specs.Streams.{WritesAll}
use Rattle.envy_image.specs.Image.{mark_of, numbers_bytes, numbers_of, head_with}
use Rattle.envy_image.proofs.Joining.{first-failed, second-any}
use Rattle.envy_image.proofs.writer.write_head.Goals as goal

pub returns-in_err-write_all : goal.returns-in_err-write_all
unfolding head_with
returns-in_err-write_all g c =
    let p = err_from_is_err_and c.from_residual.result c.from_residual.ensures.1 in
    let sh = c.args.shape.now in
    let extended = c.is_extended-extended.result in
    let old = g.K.Sink.drain c.args.sink.now in
    let mid = g.K.Sink.drain c.write_all.new.sink in
    let failed = c.in_err-write_all.field-0.0 in
    rw p.1
    (subst (λ (b : Bool). WritesAll old (head_with b sh) (Err failed) mid) c.is_extended-extended.ensures
    (first-failed (mark_of extended) (numbers_bytes (numbers_of extended sh)) failed old mid
    (subst (λ (xs : List ℕ). WritesAll old xs (Err failed) mid) c.mark_of.ensures c.in_err-write_all.ensures.writes)))

pub returns : goal.returns
unfolding head_with
returns g c =
    let sh = c.args.shape.now in
    let extended = c.is_extended-extended.result in
    let old = g.K.Sink.drain c.args.sink.now in
    let mid = g.K.Sink.drain c.write_all.new.sink in
    let new = g.K.Sink.drain c.write_shape.new.sink in
    subst (λ (b : Bool). WritesAll old (head_with b sh) c.write_shape.result new) c.is_extended-extended.ensures
    (second-any (mark_of extended) (numbers_bytes (numbers_of extended sh)) c.write_shape.result old mid new
    (subst (λ (xs : List ℕ). WritesAll old xs (Ok tt) mid) c.mark_of.ensures c.in_ok-write_all.ensures.writes) c.write_shape.ensures)
