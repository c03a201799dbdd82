use Rattle.std.proofs.Common.{ℕ, ap, refl, sym}
use Rattle.std.proofs.lemmas.Result.{err_from_is_err_and}
use Rattle.envy_policy.specs.declared.setup.Setup.{Setup}
use Rattle.envy_args.proofs.Indexes.{index-made, index-pages, index-refused, index-shadows}
use Rattle.envy_args.proofs.read.index.Goals as goal

pub returns-in_err-setup : goal.returns-in_err-setup
returns-in_err-setup c =
    let fault = c.in_err-setup.ensures in
    let p = err_from_is_err_and c.from_residual.result c.from_residual.ensures.1 in
    rw (p.1, p.2, fault.1, fault.0) refl

pub returns-in_err-check : goal.returns-in_err-check
returns-in_err-check c =
    let read = c.in_ok-setup.ensures in
    let p = err_from_is_err_and c.from_residual-in_err-check.result c.from_residual-in_err-check.ensures.1 in
    rw (p.1, p.2) (sym (index-refused c.args.options.now read.0 _ (ap (λ (p : Setup × ℕ). p.0) read.1) _ c.in_err-check.ensures))

pub returns-then-setup-lt-INDEX_SHADOWS : goal.returns-then-setup-lt-INDEX_SHADOWS
returns-then-setup-lt-INDEX_SHADOWS c =
    let read = c.in_ok-setup.ensures in
    sym (index-shadows c.args.options.now read.0 _ (ap (λ (p : Setup × ℕ). p.0) read.1) c.in_ok-check.ensures c.if-setup-lt-INDEX_SHADOWS.true)

pub returns-then-setup-lt-INDEX_PAGES : goal.returns-then-setup-lt-INDEX_PAGES
returns-then-setup-lt-INDEX_PAGES c =
    let read = c.in_ok-setup.ensures in
    sym (index-pages c.args.options.now read.0 _ (ap (λ (p : Setup × ℕ). p.0) read.1) c.in_ok-check.ensures c.if-setup-lt-INDEX_SHADOWS.false c.if-setup-lt-INDEX_PAGES.true)

pub returns : goal.returns
returns c =
    let read = c.in_ok-setup.ensures in
    rw (ap (λ (p : Setup × ℕ). p.1) read.1)
    (sym (index-made c.args.options.now read.0 _ (ap (λ (p : Setup × ℕ). p.0) read.1) c.in_ok-check.ensures c.if-setup-lt-INDEX_SHADOWS.false c.if-setup-lt-INDEX_PAGES.false))
