use Rattle.std.proofs.Common.{◌↔◌, ℕ, IsTrue, ap, refl, subst, sym}
use Rattle.std.proofs.lemmas.Result.{err_from_is_err_and}
use Rattle.envy_array.specs.Area.{Fits}
use Rattle.envy_array.specs.declared.area.Area.{Area}
use Rattle.envy_policy.specs.declared.setup.Setup.{Setup}
use Rattle.envy_args.proofs.Loads.{load-made, load-refused, load-shadows, load-unfit}
use Rattle.envy_args.proofs.Readable.{tpca-all, tpca-area, tpca-every, tpca-run, tpca-start}
use Rattle.envy_args.proofs.read.tpca.Goals as goal

pub returns-in_err-setup : goal.returns-in_err-setup
returns-in_err-setup c =
    let fault = c.in_err-setup.ensures in
    let p = err_from_is_err_and c.from_residual.result c.from_residual.ensures.1 in
    rw (p.1, p.2, fault.1, tpca-run c.args.options.now fault.0) refl

pub returns-in_err-start : goal.returns-in_err-start
returns-in_err-start c =
    let fault = c.in_err-start.ensures in
    let p = err_from_is_err_and c.from_residual-in_err-start.result c.from_residual-in_err-start.ensures.1 in
    rw (p.1, p.2, fault.1, tpca-start c.args.options.now fault.0) refl

pub returns-in_err-area : goal.returns-in_err-area
returns-in_err-area c =
    let fault = c.in_err-area.ensures in
    let p = err_from_is_err_and c.from_residual-in_err-area.result c.from_residual-in_err-area.ensures.1 in
    rw (p.1, p.2, fault.1, tpca-area c.args.options.now fault.0) refl

pub returns-in_err-every : goal.returns-in_err-every
returns-in_err-every c =
    let fault = c.in_err-every.ensures in
    let p = err_from_is_err_and c.from_residual-in_err-every.result c.from_residual-in_err-every.ensures.1 in
    rw (p.1, p.2, fault.1, tpca-every c.args.options.now fault.0) refl

pub returns-in_err-check : goal.returns-in_err-check
returns-in_err-check c =
    let o = c.args.options.now in
    let all = tpca-all o c.in_ok-setup.ensures.0 c.in_ok-start.ensures.0 c.in_ok-area.ensures.0 c.in_ok-every.ensures.0 in
    let p = err_from_is_err_and c.from_residual-in_err-check.result c.from_residual-in_err-check.ensures.1 in
    rw (p.1, p.2) (sym (load-refused o all _ (ap (λ (p : (Setup × ℕ) × ℕ). p.0.0) c.in_ok-setup.ensures.1) _ (ap (λ (p : (Setup × ℕ) × ℕ). p.1) c.in_ok-setup.ensures.1) _ c.in_err-check.ensures))

pub returns-then-not-fits : goal.returns-then-not-fits
returns-then-not-fits c =
    let o = c.args.options.now in
    let all = tpca-all o c.in_ok-setup.ensures.0 c.in_ok-start.ensures.0 c.in_ok-area.ensures.0 c.in_ok-every.ensures.0 in
    let decides = subst (λ (area : Area). IsTrue c.fits.result ↔ Fits area c.in_ok-setup.setup.shape.pages) c.in_ok-area.ensures.1 c.fits.ensures in
    sym (load-unfit o all _ (ap (λ (p : (Setup × ℕ) × ℕ). p.0.0) c.in_ok-setup.ensures.1) _ (ap (λ (p : (Setup × ℕ) × ℕ). p.1) c.in_ok-setup.ensures.1) c.in_ok-check.ensures _ decides c.if-not-fits.true)

pub returns-then-setup-lt-LOAD_SHADOWS : goal.returns-then-setup-lt-LOAD_SHADOWS
returns-then-setup-lt-LOAD_SHADOWS c =
    let o = c.args.options.now in
    let all = tpca-all o c.in_ok-setup.ensures.0 c.in_ok-start.ensures.0 c.in_ok-area.ensures.0 c.in_ok-every.ensures.0 in
    let decides = subst (λ (area : Area). IsTrue c.fits.result ↔ Fits area c.in_ok-setup.setup.shape.pages) c.in_ok-area.ensures.1 c.fits.ensures in
    sym (load-shadows o all _ (ap (λ (p : (Setup × ℕ) × ℕ). p.0.0) c.in_ok-setup.ensures.1) _ (ap (λ (p : (Setup × ℕ) × ℕ). p.1) c.in_ok-setup.ensures.1) c.in_ok-check.ensures _ decides c.if-not-fits.false c.if-setup-lt-LOAD_SHADOWS.true)

pub returns : goal.returns
returns c =
    let o = c.args.options.now in
    let all = tpca-all o c.in_ok-setup.ensures.0 c.in_ok-start.ensures.0 c.in_ok-area.ensures.0 c.in_ok-every.ensures.0 in
    let decides = subst (λ (area : Area). IsTrue c.fits.result ↔ Fits area c.in_ok-setup.setup.shape.pages) c.in_ok-area.ensures.1 c.fits.ensures in
    rw (ap (λ (p : (Setup × ℕ) × ℕ). p.0.1) c.in_ok-setup.ensures.1, c.in_ok-start.ensures.1, c.in_ok-area.ensures.1, c.in_ok-every.ensures.1)
    (sym (load-made o all _ (ap (λ (p : (Setup × ℕ) × ℕ). p.0.0) c.in_ok-setup.ensures.1) _ (ap (λ (p : (Setup × ℕ) × ℕ). p.1) c.in_ok-setup.ensures.1) c.in_ok-check.ensures _ decides c.if-not-fits.false c.if-setup-lt-LOAD_SHADOWS.false))
