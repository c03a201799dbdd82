use Rattle.std.proofs.Common.{◌≡◌, ◌∙◌, [], inl, inr, subst, sym}
use Rattle.std.proofs.lemmas.Result.{err_from_is_err_and}
use Rattle.envy_begun.proofs.Planned.{is-empty}
use Rattle.envy_begun.specs.Plans.{Plans}
use Rattle.envy_begun.specs.declared.file_contents.FileContents.{FileContents}
use Rattle.envy_begun.proofs.file_contents.plan.Goals as goal

pub returns-in_err-fresh-clause-refused : goal.returns-in_err-fresh-clause-refused
returns-in_err-fresh-clause-refused c =
    let p = err_from_is_err_and c.from_residual.result c.from_residual.ensures.1 in
    let (fault, is, bad) = c.in_err-fresh.ensures.refused in
    let empty : c.args.bytes.now ≡ [] = is-empty c.args.bytes.now (sym c.is_empty.ensures ∙ c.if-is_empty.true) in
    rw (p.1, p.2, is) (empty, bad)

pub returns-in_err-setup-clause-refused : goal.returns-in_err-setup-clause-refused
returns-in_err-setup-clause-refused c =
    let p = err_from_is_err_and c.from_residual-in_err-setup.result c.from_residual-in_err-setup.ensures.1 in
    rw (p.1, p.2) c.in_err-setup.ensures.refused

pub returns-clause-plans : goal.returns-clause-plans
returns-clause-plans c =
    elim c.holding_of.ensures [
      | inl written ↦ subst (λ (h : FileContents). Plans h c.args.options.now c.args.bytes.now c.in_ok-setup.setup) (sym written.0) (c.in_ok-setup.ensures.found, written.1)
      | inr blank ↦ subst (λ (h : FileContents). Plans h c.args.options.now c.args.bytes.now c.in_ok-setup.setup) (sym blank.0) (c.in_ok-setup.ensures.found, blank.1)
    ]
