use Rattle.std.proofs.Common.{◌∙◌}
use Rattle.std.proofs.lemmas.Result.{err_from_is_err_and}
use Rattle.envy_args.proofs.Readable.{run-large, run-powered}
use Rattle.envy_args.proofs.read.maybe_large.Goals as goal

pub returns-in_err-powered : goal.returns-in_err-powered
returns-in_err-powered c =
    let fault = c.in_err-powered.ensures in
    let p = err_from_is_err_and c.from_residual.result c.from_residual.ensures.1 in
    rw p.1 (run-powered c.args.options.now fault.0, p.2 ∙ fault.1)

pub returns-in_err-most : goal.returns-in_err-most
returns-in_err-most c =
    let fault = c.in_err-most.ensures in
    let p = err_from_is_err_and c.from_residual-in_err-most.result c.from_residual-in_err-most.ensures.1 in
    rw p.1 (run-large c.args.options.now fault.0, p.2 ∙ fault.1)
