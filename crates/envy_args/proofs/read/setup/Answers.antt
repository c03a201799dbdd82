use Rattle.std.proofs.Common.{◌∙◌, refl}
use Rattle.std.proofs.lemmas.Result.{err_from_is_err_and}
use Rattle.envy_args.proofs.Readable.{plain-all, plain-limit, plain-mark, plain-policy, plain-shape}
use Rattle.envy_args.proofs.read.setup.Goals as goal

pub returns-in_err-shape : goal.returns-in_err-shape
returns-in_err-shape c =
    let fault = c.in_err-shape.ensures in
    let p = err_from_is_err_and c.from_residual.result c.from_residual.ensures.1 in
    rw p.1 (plain-shape c.args.options.now fault.0, p.2 ∙ fault.1)

pub returns-in_err-policy : goal.returns-in_err-policy
returns-in_err-policy c =
    let fault = c.in_err-policy.ensures in
    let p = err_from_is_err_and c.from_residual-in_err-policy.result c.from_residual-in_err-policy.ensures.1 in
    rw p.1 (plain-policy c.args.options.now fault.0, p.2 ∙ fault.1)

pub returns-in_err-limit : goal.returns-in_err-limit
returns-in_err-limit c =
    let fault = c.in_err-limit.ensures in
    let p = err_from_is_err_and c.from_residual-in_err-limit.result c.from_residual-in_err-limit.ensures.1 in
    rw p.1 (plain-limit c.args.options.now fault.0, p.2 ∙ fault.1)

pub returns-in_err-mark : goal.returns-in_err-mark
returns-in_err-mark c =
    let fault = c.in_err-mark.ensures in
    let p = err_from_is_err_and c.from_residual-in_err-mark.result c.from_residual-in_err-mark.ensures.1 in
    rw p.1 (plain-mark c.args.options.now fault.0, p.2 ∙ fault.1)

pub returns : goal.returns
returns c =
    let shape = c.in_ok-shape.ensures in
    let policy = c.in_ok-policy.ensures in
    let limit = c.in_ok-limit.ensures in
    let mark = c.in_ok-mark.ensures in
    (plain-all c.args.options.now shape.0 policy.0 limit.0 mark.0, rw (mark.1, limit.1, policy.1, shape.1) refl)
