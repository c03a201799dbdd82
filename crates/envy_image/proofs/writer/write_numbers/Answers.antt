use Rattle.std.proofs.Common.{arith}
use Rattle.std.proofs.lemmas.Result.{err_from_is_err_and}
use Rattle.envy_image.specs.Image.{number_bytes}
use Rattle.envy_image.proofs.Joining.{items-failed}
use Rattle.envy_image.proofs.writer.write_numbers.Goals as goal

pub returns-in_err-write_number : goal.returns-in_err-write_number
returns-in_err-write_number g c =
    let p = err_from_is_err_and c.from_residual.result c.from_residual.ensures.1 in
    rw p.1 (items-failed number_bytes c.args.numbers.now 0 c.loop-number.number-index _ (g.K.Sink.drain c.args.sink.now) (g.K.Sink.drain c.loop-number.sink) (g.K.Sink.drain c.write_number.new.sink) (omega arith) c.loop-number.invariant c.in_err-write_number.ensures)
