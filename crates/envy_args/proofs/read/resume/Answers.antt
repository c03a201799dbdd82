use Rattle.std.proofs.Common.{refl}
use Rattle.std.proofs.lemmas.Result.{err_from_is_err_and}
use Rattle.envy_args.proofs.Readable.{resume-all, resume-large, resume-limit, resume-lives, resume-mark, resume-policy}
use Rattle.envy_args.proofs.read.resume.Goals as goal

pub returns-in_err-policy : goal.returns-in_err-policy
returns-in_err-policy c =
    let fault = c.in_err-policy.ensures in
    let p = err_from_is_err_and c.from_residual.result c.from_residual.ensures.1 in
    rw (p.1, p.2, fault.1, resume-policy c.args.options.now fault.0) refl

pub returns-in_err-limit : goal.returns-in_err-limit
returns-in_err-limit c =
    let fault = c.in_err-limit.ensures in
    let p = err_from_is_err_and c.from_residual-in_err-limit.result c.from_residual-in_err-limit.ensures.1 in
    rw (p.1, p.2, fault.1, resume-limit c.args.options.now fault.0) refl

pub returns-in_err-mark : goal.returns-in_err-mark
returns-in_err-mark c =
    let fault = c.in_err-mark.ensures in
    let p = err_from_is_err_and c.from_residual-in_err-mark.result c.from_residual-in_err-mark.ensures.1 in
    rw (p.1, p.2, fault.1, resume-mark c.args.options.now fault.0) refl

pub returns-in_err-lives : goal.returns-in_err-lives
returns-in_err-lives c =
    let fault = c.in_err-lives.ensures in
    let p = err_from_is_err_and c.from_residual-in_err-lives.result c.from_residual-in_err-lives.ensures.1 in
    rw (p.1, p.2, fault.1, resume-lives c.args.options.now fault.0) refl

pub returns-in_err-most : goal.returns-in_err-most
returns-in_err-most c =
    let fault = c.in_err-most.ensures in
    let p = err_from_is_err_and c.from_residual-in_err-most.result c.from_residual-in_err-most.ensures.1 in
    rw (p.1, p.2, fault.1, resume-large c.args.options.now fault.0) refl

pub returns : goal.returns
returns c =
    let o = c.args.options.now in
    let policy = c.in_ok-policy.ensures in
    let limit = c.in_ok-limit.ensures in
    let mark = c.in_ok-mark.ensures in
    let lives = c.in_ok-lives.ensures in
    let most = c.in_ok-most.ensures in
    rw (policy.1, limit.1, mark.1, lives.1, most.1, resume-all o policy.0 limit.0 mark.0 lives.0 most.0) refl
