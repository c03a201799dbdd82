use Rattle.std.proofs.Common.{◌∙◌, IsTrue, SomeIff, sym, subst, rules, tests, true≢false, ℕ, Option}
use Rattle.std.specs.Char.{is_ascii_digit}
use Rattle.std.specs.Str.Parse.{digits_value}
use Rattle.std.proofs.lemmas.Iterator.{YieldsList-from_slice}
use Rattle.std.proofs.lemmas.Iterator.Search.{all_from_yields_List}
use Rattle.envy_args.specs.Words.{is_number}
use Rattle.envy_args.proofs.Numbers.{digits-all, number-parts, parsed-digits}
use Rattle.envy_args.proofs.values.number.Goals as goal

pub returns-then-has_digits_only : goal.returns-then-has_digits_only
returns-then-has_digits_only c =
    let text = c.args.text.now in
    let all = all_from_yields_List is_ascii_digit _ _ c.all-has_digits_only.result c.all-has_digits_only.ensures.ran (YieldsList-from_slice text cc) (λ x b q k. search (rules, tests)) in
    let digits = sym (all ∙ digits-all text) ∙ c.if-has_digits_only.true in
    subst (λ (o : Option ℕ). SomeIff o (IsTrue (is_number 64 text)) (digits_value 10 text)) (sym c.ok.ensures.value) (parsed-digits text c.parse.result digits c.parse.ensures.value.0)

pub returns-else-has_digits_only : goal.returns-else-has_digits_only
returns-else-has_digits_only c =
    let text = c.args.text.now in
    let all = all_from_yields_List is_ascii_digit _ _ c.all-has_digits_only.result c.all-has_digits_only.ensures.ran (YieldsList-from_slice text cc) (λ x b q k. search (rules, tests)) in
    λ number. true≢false (sym (number-parts 64 text number).digits ∙ sym (all ∙ digits-all text) ∙ c.if-has_digits_only.false)
