use Rattle.std.proofs.Common.{◌≡◌, ◌∙◌, ◌<◌, ap, ap₂, sym, map, take, ℕ, ◌+◌, List, [], ◌∷◌, length, get_or, true, Some}
use Rattle.std.specs.Borrow.{Bor}
use Rattle.std.proofs.lemmas.List.{take_all, take_more, map-append}
use Rattle.clap.specs.Words.{App, Rule, new_rule, rule_of, with_rule}
use Rattle.clap.specs.Simple.{app_of_fields}
use Rattle.clap.specs.declared.builder.arg.Arg.{Arg}
use Rattle.envy_args.specs.Parser.{app_of_names, rule_named}
use Rattle.envy_args.proofs.options.parser.Goals as goal

abbrev taken : List (Bor (List ℕ)) → ℕ → List (List ℕ)
taken names i = map (λ name. name.now) (take i names)

-- a rule more is a name more
one_more : (names : List (Bor (List ℕ))) (i : ℕ) (d : Bor (List ℕ)) → i < length names
    → with_rule (app_of_names (taken names i)) (rule_named (get_or names i d).now) ≡ app_of_names (taken names (i + 1))
one_more names i d lt =
    let more = ap (map (λ name. name.now)) (take_more names i d lt) ∙ map-append _ (take i names) (get_or names i d ∷ []) in
    let rules = ap (map rule_named) more ∙ map-append rule_named (taken names i) ((get_or names i d).now ∷ []) in
    ap (λ rs. record { top = record (app_of_names []).top { rules = rs }; subs = [] }) (sym rules)

named : (fresh arg : Arg) (name : Bor (List ℕ)) → arg ≡ record fresh { long = Some name } → rule_of fresh ≡ new_rule name.now → rule_of arg ≡ rule_named name.now
named fresh arg name long is = ap rule_of long ∙ ap (λ (r : Rule). record r { long = Some name.now }) is

pub loop-name-init : goal.loop-name-init
loop-name-init c =
    ap app_of_fields c.disable_help_flag-parser.ensures
    ∙ ap (λ (a : App). record a { top = record a.top { disable_help_flag = true } })
    (ap app_of_fields c.no_binary_name.ensures ∙ ap (λ (a : App). record a { top = record a.top { no_binary_name = true } }) c.new.ensures.app)

pub loop-name-preserved : goal.loop-name-preserved
loop-name-preserved c =
    let local = ap (λ (a : Arg). a.global) c.long.ensures ∙ c.new-in-loop-name.ensures.optional.1 in
    let rule_is = named _ _ _ c.long.ensures c.new-in-loop-name.ensures.rule in
    c.in_ok-parser.ensures.shape local ∙ ap₂ with_rule c.loop-name.invariant rule_is
    ∙ one_more c.args.names.now c.loop-name.name-index _ c.loop-name-test.true

pub returns : goal.returns
returns c = c.loop-name.invariant ∙ ap (λ (names : List (Bor (List ℕ))). app_of_names (map (λ name. name.now) names)) (take_all c.loop-name.name-index c.args.names.now c.loop-name-test.false)
