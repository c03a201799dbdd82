use Rattle.std.proofs.Common.{◌≡◌, ◌∙◌, sym, Ok, Err}
use Rattle.std.proofs.lemmas.Result.{err_from_is_err_and}
use Rattle.envy_trace.specs.Grammar.{number_in}
use Rattle.envy_trace.proofs.Counts.{handed-on, no-value, two-none, two-one, two-more, two-exact}
use Rattle.envy_trace.proofs.Numerals.{number-most}
use Rattle.envy_trace.proofs.numbers.two_numbers.Goals as goal

pub returns-in_err-x-clause-value : goal.returns-in_err-x-clause-value
returns-in_err-x-clause-value c = handed-on c.from_residual.result _ _ c.from_residual.ensures.1 (two-none c.args.first c.args.second _ _ _ c.in_err-x.ensures.0 c.in_err-x.ensures.1)

pub returns-in_err-x-clause-within : goal.returns-in_err-x-clause-within
returns-in_err-x-clause-within c = no-value c.from_residual.result _ _ c.from_residual.ensures.1

pub returns-in_err-y-clause-value : goal.returns-in_err-y-clause-value
returns-in_err-y-clause-value c = handed-on c.from_residual-in_err-y.result _ _ c.from_residual-in_err-y.ensures.1 (two-one c.args.first c.args.second _ _ _ _ _ c.in_ok-x.ensures.0 c.in_err-y.ensures.0 c.in_err-y.ensures.1)

pub returns-in_err-y-clause-within : goal.returns-in_err-y-clause-within
returns-in_err-y-clause-within c = no-value c.from_residual-in_err-y.result _ _ c.from_residual-in_err-y.ensures.1

pub returns-in_err-no_number-clause-value : goal.returns-in_err-no_number-clause-value
returns-in_err-no_number-clause-value c = handed-on c.from_residual-in_err-no_number.result _ _ c.from_residual-in_err-no_number.ensures.1 (two-more c.args.first c.args.second _ _ _ _ _ _ c.in_ok-x.ensures.0 c.in_ok-y.ensures.0 _ c.in_err-no_number.ensures)

pub returns-in_err-no_number-clause-within : goal.returns-in_err-no_number-clause-within
returns-in_err-no_number-clause-within c = no-value c.from_residual-in_err-no_number.result _ _ c.from_residual-in_err-no_number.ensures.1

pub returns-in_err-x-2-clause-value : goal.returns-in_err-x-2-clause-value
returns-in_err-x-2-clause-value c =
    let p = err_from_is_err_and c.from_residual-in_err-x-2.result c.from_residual-in_err-x-2.ensures.1 in
    let x : number_in c.args.first c.in_ok-x.field-0-0.now ≡ Err c.in_err-x-2.field-0.0 = sym c.in_ok-x.ensures.1 ∙ c.in_err-x-2.was in
    rw (p.1, p.2, two-exact _ _ _ _ _ c.in_ok-x.ensures.0 c.in_ok-y.ensures.0 c.in_ok-no_number.ensures, x)

pub returns-in_err-x-2-clause-within : goal.returns-in_err-x-2-clause-within
returns-in_err-x-2-clause-within c = no-value c.from_residual-in_err-x-2.result _ _ c.from_residual-in_err-x-2.ensures.1

pub returns-in_err-y-2-clause-value : goal.returns-in_err-y-2-clause-value
returns-in_err-y-2-clause-value c =
    let p = err_from_is_err_and c.from_residual-in_err-y-2.result c.from_residual-in_err-y-2.ensures.1 in
    let x : number_in c.args.first c.in_ok-x.field-0-0.now ≡ Ok c.in_ok-x-2.field-0 = sym c.in_ok-x.ensures.1 ∙ c.in_ok-x-2.was in
    let y : number_in c.args.second c.in_ok-y.field-0-0.now ≡ Err c.in_err-y-2.field-0.0 = sym c.in_ok-y.ensures.1 ∙ c.in_err-y-2.was in
    rw (p.1, p.2, two-exact _ _ _ _ _ c.in_ok-x.ensures.0 c.in_ok-y.ensures.0 c.in_ok-no_number.ensures, x, y)

pub returns-in_err-y-2-clause-within : goal.returns-in_err-y-2-clause-within
returns-in_err-y-2-clause-within c = no-value c.from_residual-in_err-y-2.result _ _ c.from_residual-in_err-y-2.ensures.1

pub returns-clause-value : goal.returns-clause-value
returns-clause-value c =
    let x : number_in c.args.first c.in_ok-x.field-0-0.now ≡ Ok c.in_ok-x-2.field-0 = sym c.in_ok-x.ensures.1 ∙ c.in_ok-x-2.was in
    let y : number_in c.args.second c.in_ok-y.field-0-0.now ≡ Ok c.in_ok-y-2.field-0 = sym c.in_ok-y.ensures.1 ∙ c.in_ok-y-2.was in
    rw (two-exact _ _ _ _ _ c.in_ok-x.ensures.0 c.in_ok-y.ensures.0 c.in_ok-no_number.ensures, x, y)

pub returns-clause-within : goal.returns-clause-within
returns-clause-within c =
    let x : number_in c.args.first c.in_ok-x.field-0-0.now ≡ Ok c.in_ok-x-2.field-0 = sym c.in_ok-x.ensures.1 ∙ c.in_ok-x-2.was in
    let y : number_in c.args.second c.in_ok-y.field-0-0.now ≡ Ok c.in_ok-y-2.field-0 = sym c.in_ok-y.ensures.1 ∙ c.in_ok-y-2.was in
    (number-most c.args.first c.in_ok-x.field-0-0.now c.in_ok-x-2.field-0 x, number-most c.args.second c.in_ok-y.field-0-0.now c.in_ok-y-2.field-0 y)
