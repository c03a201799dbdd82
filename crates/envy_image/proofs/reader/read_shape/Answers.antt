use Rattle.std.proofs.Common.{arith}
use Rattle.std.proofs.lemmas.Result.{err_from_is_err_and}
use Rattle.envy_image.proofs.Consuming.{extras-end, extras-read}
use Rattle.envy_image.proofs.reader.read_shape.Goals as goal

pub returns-in_err-read_bytes : goal.returns-in_err-read_bytes
returns-in_err-read_bytes g c =
    let p = err_from_is_err_and c.from_residual-in_err-read_bytes.result c.from_residual-in_err-read_bytes.ensures.1 in
    let (bytes, few, ends, stops) = c.in_err-read_bytes.ensures in
    rw (p.1, p.2) (extras-end _ _ _ _ _ _ c.in_ok-sizes.sizes c.in_ok-sizes.ensures.0 c.args.extended c.if-not-extended.false _ bytes (omega (arith, few, c.read_bytes.auto.into)) ends stops)

pub returns : goal.returns
returns g c =
    extras-read _ _ _ _ _ _ c.in_ok-sizes.sizes c.in_ok-sizes.ensures.0 c.args.extended c.if-not-extended.false c.in_ok-sizes.ensures.1 c.number_at.result c.number_at-2.result c.number_at.type_inv c.number_at-2.type_inv c.read_bytes.new.into c.read_bytes.auto.into c.number_at.ensures c.number_at-2.ensures c.in_ok-read_bytes.ensures
