use Rattle.std.proofs.Common.{Ok, Err, refl}
use Rattle.std.proofs.lemmas.Result.{err_from_is_err_and}
use Rattle.envy_args.proofs.Readable.{gen-all, gen-hot, gen-lines, gen-made, gen-pages, gen-share, gen-start, gen-stores}
use Rattle.envy_args.proofs.read.generate.Goals as goal

pub returns-in_err-start : goal.returns-in_err-start
returns-in_err-start c =
    let fault = c.in_err-start.ensures in
    let p = err_from_is_err_and c.from_residual.result c.from_residual.ensures.1 in
    rw (p.1, p.2, fault.1, gen-start c.args.options.now fault.0) refl

pub returns-in_err-lines : goal.returns-in_err-lines
returns-in_err-lines c =
    let fault = c.in_err-lines.ensures in
    let p = err_from_is_err_and c.from_residual-in_err-lines.result c.from_residual-in_err-lines.ensures.1 in
    rw (p.1, p.2, fault.1, gen-lines c.args.options.now fault.0) refl

pub returns-in_err-pages : goal.returns-in_err-pages
returns-in_err-pages c =
    let fault = c.in_err-pages.ensures in
    let p = err_from_is_err_and c.from_residual-in_err-pages.result c.from_residual-in_err-pages.ensures.1 in
    rw (p.1, p.2, fault.1, gen-pages c.args.options.now fault.0) refl

pub returns-in_err-hot : goal.returns-in_err-hot
returns-in_err-hot c =
    let fault = c.in_err-hot.ensures in
    let p = err_from_is_err_and c.from_residual-in_err-hot.result c.from_residual-in_err-hot.ensures.1 in
    rw (p.1, p.2, fault.1, gen-hot c.args.options.now fault.0) refl

pub returns-in_err-share : goal.returns-in_err-share
returns-in_err-share c =
    let fault = c.in_err-share.ensures in
    let p = err_from_is_err_and c.from_residual-in_err-share.result c.from_residual-in_err-share.ensures.1 in
    rw (p.1, p.2, fault.1, gen-share c.args.options.now fault.0) refl

pub returns-in_err-stores : goal.returns-in_err-stores
returns-in_err-stores c =
    let fault = c.in_err-stores.ensures in
    let p = err_from_is_err_and c.from_residual-in_err-stores.result c.from_residual-in_err-stores.ensures.1 in
    rw (p.1, p.2, fault.1, gen-stores c.args.options.now fault.0) refl

pub returns-in_err-mix : goal.returns-in_err-mix
returns-in_err-mix c =
    let o = c.args.options.now in
    let p = err_from_is_err_and c.from_residual-in_err-mix.result c.from_residual-in_err-mix.ensures.1 in
    let all = gen-all o c.in_ok-start.ensures.0 c.in_ok-lines.ensures.0 c.in_ok-pages.ensures.0 c.in_ok-hot.ensures.0 c.in_ok-share.ensures.0 c.in_ok-stores.ensures.0 in
    rw (p.1, p.2) (gen-made o all _ _ _ _ _ _ c.in_ok-start.ensures.1 c.in_ok-lines.ensures.1 c.in_ok-pages.ensures.1 c.in_ok-hot.ensures.1 c.in_ok-share.ensures.1 c.in_ok-stores.ensures.1 (Err c.in_err-mix.field-0.0) c.in_err-mix.ensures)

pub returns : goal.returns
returns c =
    let o = c.args.options.now in
    let all = gen-all o c.in_ok-start.ensures.0 c.in_ok-lines.ensures.0 c.in_ok-pages.ensures.0 c.in_ok-hot.ensures.0 c.in_ok-share.ensures.0 c.in_ok-stores.ensures.0 in
    gen-made o all _ _ _ _ _ _ c.in_ok-start.ensures.1 c.in_ok-lines.ensures.1 c.in_ok-pages.ensures.1 c.in_ok-hot.ensures.1 c.in_ok-share.ensures.1 c.in_ok-stores.ensures.1 (Ok c.in_ok-mix.mix) c.in_ok-mix.ensures
