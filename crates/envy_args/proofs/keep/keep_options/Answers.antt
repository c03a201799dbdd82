use Rattle.std.proofs.Common.{◌∙◌, refl}
use Rattle.std.proofs.lemmas.Result.{err_from_is_err_and}
use Rattle.envy_args.proofs.Keeping.{beside, beside-all, beside-compact}
use Rattle.envy_args.proofs.Readable.{plain-all, plain-limit, plain-mark, plain-policy, plain-shape}
use Rattle.envy_args.proofs.keep.keep_options.Goals as goal

pub returns-in_err-compact : goal.returns-in_err-compact
returns-in_err-compact c =
    let fault = c.in_err-compact.ensures in
    let p = err_from_is_err_and c.from_residual.result c.from_residual.ensures.1 in
    rw p.1 (beside-compact c.args.options.now fault.0, p.2 ∙ fault.1)

pub returns-in_err-sizes : goal.returns-in_err-sizes
returns-in_err-sizes c =
    let fault = c.in_err-sizes.ensures in
    let p = err_from_is_err_and c.from_residual-in_err-sizes.result c.from_residual-in_err-sizes.ensures.1 in
    rw p.1 (beside c.args.options.now (plain-shape c.args.options.now fault.0), p.2 ∙ fault.1)

pub returns-in_err-policy : goal.returns-in_err-policy
returns-in_err-policy c =
    let fault = c.in_err-policy.ensures in
    let p = err_from_is_err_and c.from_residual-in_err-policy.result c.from_residual-in_err-policy.ensures.1 in
    rw p.1 (beside c.args.options.now (plain-policy c.args.options.now fault.0), p.2 ∙ fault.1)

pub returns-in_err-limit : goal.returns-in_err-limit
returns-in_err-limit c =
    let fault = c.in_err-limit.ensures in
    let p = err_from_is_err_and c.from_residual-in_err-limit.result c.from_residual-in_err-limit.ensures.1 in
    rw p.1 (beside c.args.options.now (plain-limit c.args.options.now fault.0), p.2 ∙ fault.1)

pub returns-in_err-mark : goal.returns-in_err-mark
returns-in_err-mark c =
    let fault = c.in_err-mark.ensures in
    let p = err_from_is_err_and c.from_residual-in_err-mark.result c.from_residual-in_err-mark.ensures.1 in
    rw p.1 (beside c.args.options.now (plain-mark c.args.options.now fault.0), p.2 ∙ fault.1)

pub returns : goal.returns
returns c =
    let o = c.args.options.now in
    let compact = c.in_ok-compact.ensures in
    let sizes = c.in_ok-sizes.ensures in
    let policy = c.in_ok-policy.ensures in
    let limit = c.in_ok-limit.ensures in
    let mark = c.in_ok-mark.ensures in
    (beside-all o compact.0 (plain-all o sizes.0 policy.0 limit.0 mark.0), rw (compact.1, sizes.1, policy.1, limit.1, mark.1) refl)
