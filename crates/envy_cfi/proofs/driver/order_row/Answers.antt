use Rattle.std.proofs.Common.{◌≡◌, ◌<◌, arith}
use Rattle.std.proofs.lemmas.Result.{err_from_is_err_and}
use Rattle.envy_cfi.proofs.Steps.{row_whole, row_broken}
use Rattle.envy_cfi.proofs.driver.order_row.Goals as goal

pub returns-in_err-order_byte-clause-makes : goal.returns-in_err-order_byte-clause-makes
returns-in_err-order_byte-clause-makes g c =
    let low : c.loop-k.k < 256 = omega arith in
    let p = err_from_is_err_and c.from_residual.result c.from_residual.ensures.1 in
    rw (p.1, p.2) (row_broken (g.B.Bus.chip c.args.bus.now) (g.B.Bus.chip c.loop-k.bus) (g.B.Bus.chip c.order_byte.new.bus) c.args.addr c.loop-k.k c.args.row.now
    c.in_err-order_byte.field-0.0 low c.loop-k.invariant.going c.in_err-order_byte.ensures.makes)

pub returns-clause-makes : goal.returns-clause-makes
returns-clause-makes g c =
    let end : c.loop-k.k ≡ 256 = omega arith in
    row_whole (g.B.Bus.chip c.args.bus.now) (g.B.Bus.chip c.loop-k.bus) c.args.addr c.loop-k.k c.args.row.now end c.loop-k.invariant.going
