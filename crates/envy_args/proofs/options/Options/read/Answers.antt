use Rattle.std.proofs.Common.{◌≡◌, ◌∙◌, inl, ap, sym, subst, map, List, Some}
use Rattle.std.specs.Borrow.{Bor}
use Rattle.std.proofs.lemmas.Result.{err_from_is_err_and}
use Rattle.clap.specs.Words.{App, HasKind, Row, fault_of, is_simple, is_simple_and_free, matches_of}
use Rattle.envy_args.specs.Words.{Text, are_known}
use Rattle.envy_args.specs.Parser.{option_of, row_of}
use Rattle.envy_args.proofs.Parsing.{app-is_simple, app-simple, gives, options-of_rows, refused}
use Rattle.envy_args.proofs.Tables.{bytes}
use Rattle.envy_args.proofs.options.Options.read.Goals as goal

abbrev texts : List (Bor Text) → List Text
texts = map (λ name. name.now)

pub returns-in_err-parser : goal.returns-in_err-parser
returns-in_err-parser c =
    let p = err_from_is_err_and c.from_residual.result c.from_residual.ensures.1 in
    rw p.1 (inl p.2)

pub returns-in_err-matches : goal.returns-in_err-matches
returns-in_err-matches c =
    let names = texts c.args.names.now in
    let words = bytes c.args.words.now in
    let p = err_from_is_err_and c.from_residual-in_err-matches.result c.from_residual-in_err-matches.ensures.1 in
    let kinds = c.in_err-matches.ensures.kinds (ap is_simple_and_free c.in_ok-parser.ensures ∙ app-simple names) in
    let kind = subst (λ (a : App). HasKind (fault_of a words) c.in_err-matches.field-0.0) c.in_ok-parser.ensures kinds in
    rw p.1 (refused names words _ _ p.2 kind)

pub invariant_of-result : goal.invariant_of-result
invariant_of-result c =
    let names = texts c.args.names.now in
    let words = bytes c.args.words.now in
    let none = sym (ap (λ (a : App). fault_of a words) c.in_ok-parser.ensures) ∙ c.in_ok-matches.ensures.kinds (ap is_simple_and_free c.in_ok-parser.ensures ∙ app-simple names) in
    let given = gives names words none in
    let rows = (c.in_ok-matches.ensures.matches (ap is_simple c.in_ok-parser.ensures ∙ app-is_simple names)).0 ∙ ap (λ (a : App). matches_of a words) c.in_ok-parser.ensures ∙ given.rows_are in
    subst (λ (rs : List Row). rs ≡ map row_of (map option_of rs)) (sym rows) (ap (map row_of) (sym (options-of_rows given.options)))

pub returns : goal.returns
returns c =
    let names = texts c.args.names.now in
    let words = bytes c.args.words.now in
    let none = sym (ap (λ (a : App). fault_of a words) c.in_ok-parser.ensures) ∙ c.in_ok-matches.ensures.kinds (ap is_simple_and_free c.in_ok-parser.ensures ∙ app-simple names) in
    let given = gives names words none in
    let rows = (c.in_ok-matches.ensures.matches (ap is_simple c.in_ok-parser.ensures ∙ app-is_simple names)).0 ∙ ap (λ (a : App). matches_of a words) c.in_ok-parser.ensures ∙ given.rows_are in
    let options = ap (map option_of) rows ∙ options-of_rows given.options in
    (given.read ∙ ap Some (sym options), ap (are_known names) options ∙ given.known)
