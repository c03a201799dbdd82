use Rattle.std.proofs.Common.{◌∙◌, ap, inl, inr, sym, map, string_bytes, Err}
use Rattle.std.proofs.lemmas.Result.{err_from_is_err_and}
use Rattle.envy_args.proofs.Keeping.{named-as, no-options, no-path, no-trust, unread}
use Rattle.envy_args.proofs.keep.read_keep.Goals as goal

pub returns-in_err-given-clause-refused : goal.returns-in_err-given-clause-refused
returns-in_err-given-clause-refused c =
    let p = err_from_is_err_and c.from_residual.result c.from_residual.ensures.1 in
    elim c.in_err-given.ensures [
      | inl memory ↦ rw p.1 (inl (p.2 ∙ memory))
      | inr form ↦ rw p.1 (inr (unread (map string_bytes c.args.words.now) form.1 ∙ ap (λ e. Err e) (sym (p.2 ∙ form.0))))
    ]

pub returns-in_err-file-clause-refused : goal.returns-in_err-file-clause-refused
returns-in_err-file-clause-refused c =
    let given = c.in_ok-given.ensures in
    let p = err_from_is_err_and c.from_residual-in_err-file.result c.from_residual-in_err-file.ensures.1 in
    rw p.1 (inr (no-path (map string_bytes c.args.words.now) _ given.0 given.1 c.in_err-file.ensures.none ∙ ap (λ e. Err e) (sym (p.2 ∙ c.in_err-file.ensures.form))))

pub returns-in_err-bytewise-clause-refused : goal.returns-in_err-bytewise-clause-refused
returns-in_err-bytewise-clause-refused c =
    let given = c.in_ok-given.ensures in
    let fault = c.in_err-bytewise.ensures in
    let p = err_from_is_err_and c.from_residual-in_err-bytewise.result c.from_residual-in_err-bytewise.ensures.1 in
    rw p.1 (inr (no-trust (map string_bytes c.args.words.now) _ given.0 given.1 fault.0 ∙ ap (λ e. Err e) (sym (p.2 ∙ fault.1))))

pub returns-in_err-options-clause-refused : goal.returns-in_err-options-clause-refused
returns-in_err-options-clause-refused c =
    let given = c.in_ok-given.ensures in
    let fault = c.in_err-options.ensures in
    let p = err_from_is_err_and c.from_residual-in_err-options.result c.from_residual-in_err-options.ensures.1 in
    rw p.1 (inr (no-options (map string_bytes c.args.words.now) _ given.0 given.1 fault.0 ∙ ap (λ e. Err e) (sym (p.2 ∙ fault.1))))

pub returns-clause-said : goal.returns-clause-said
returns-clause-said c =
    let given = c.in_ok-given.ensures in
    let told = c.in_ok-bytewise.ensures in
    let options = c.in_ok-options.ensures in
    named-as (map string_bytes c.args.words.now) _ given.0 given.1 _ _ _ c.in_ok-file.ensures.given c.in_ok-file.ensures.path told.0 options.0 told.1 options.1
