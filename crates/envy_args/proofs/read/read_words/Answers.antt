use Rattle.std.proofs.Common.{◌∙◌, ap, inl, inr, refl, sym, Err}
use Rattle.std.proofs.lemmas.Result.{err_from_is_err_and}
use Rattle.envy_args.proofs.Tables.{command-made, no-command, no-options, no-words}
use Rattle.envy_args.proofs.read.read_words.Goals as goal

pub returns-in_default : goal.returns-in_default
returns-in_default c = inr (sym (no-words c.args.words.now c.in_default.ensures.cases))

pub returns-in_default-of : goal.returns-in_default-of
returns-in_default-of c = inr (sym (no-command _ _ _ c.in-Some.ensures.cases.0 _ c.as_bytes.ensures.value _ c.in_default-of.ensures refl))

pub returns-in_err-options : goal.returns-in_err-options
returns-in_err-options c =
    let p = err_from_is_err_and c.from_residual.result c.from_residual.ensures.1 in
    elim c.in_err-options.ensures [
      | inl memory ↦ inl (p.1 ∙ ap (λ e. Err e) (p.2 ∙ memory))
      | inr form ↦ inr (p.1 ∙ ap (λ e. Err e) (p.2 ∙ form.0) ∙ sym (no-options _ _ _ c.in-Some.ensures.cases.0 _ c.as_bytes.ensures.value _ c.in-Some-of.ensures _ refl _ c.options.ensures form.1))
    ]

pub returns : goal.returns
returns c =
    let given = c.in_ok-options.ensures in
    inr (c.make.ensures ∙ command-made _ _ _ c.in-Some.ensures.cases.0 _ c.as_bytes.ensures.value _ c.in-Some-of.ensures _ refl _ c.options.ensures _ given.0 given.1)
