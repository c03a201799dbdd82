use Rattle.std.proofs.Common.{◌∙◌, refl}
use Rattle.std.proofs.lemmas.Result.{err_from_is_err_and}
use Rattle.envy_args.proofs.Readable.{index-all, index-lives, index-reserves, index-setup}
use Rattle.envy_args.proofs.read.powered.Goals as goal

pub returns-in_err-reserves : goal.returns-in_err-reserves
returns-in_err-reserves c =
    let fault = c.in_err-reserves.ensures in
    let p = err_from_is_err_and c.from_residual.result c.from_residual.ensures.1 in
    rw p.1 (index-reserves c.args.options.now fault.0, p.2 ∙ fault.1)

pub returns-in_err-setup : goal.returns-in_err-setup
returns-in_err-setup c =
    let fault = c.in_err-setup.ensures in
    let p = err_from_is_err_and c.from_residual-in_err-setup.result c.from_residual-in_err-setup.ensures.1 in
    rw p.1 (index-setup c.args.options.now fault.0, p.2 ∙ fault.1)

pub returns-in_err-lives : goal.returns-in_err-lives
returns-in_err-lives c =
    let fault = c.in_err-lives.ensures in
    let p = err_from_is_err_and c.from_residual-in_err-lives.result c.from_residual-in_err-lives.ensures.1 in
    rw p.1 (index-lives c.args.options.now fault.0, p.2 ∙ fault.1)

pub returns : goal.returns
returns c =
    let reserves = c.in_ok-reserves.ensures in
    let setup = c.in_ok-setup.ensures in
    let lives = c.in_ok-lives.ensures in
    (index-all c.args.options.now reserves.0 setup.0 lives.0, rw (lives.1, setup.1, reserves.1) refl)
