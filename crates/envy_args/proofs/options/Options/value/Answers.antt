use Rattle.std.proofs.Common.{◌∙◌, ap}
use Rattle.clap.specs.Words.{first_of, found_of}
use Rattle.clap.proofs.WalkLemmas.{first_value-rows}
use Rattle.envy_args.specs.Words.{Options, value_of}
use Rattle.envy_args.proofs.Parsing.{first-value_of}
use Rattle.envy_args.proofs.options.Options.value.Goals as goal

pub returns : goal.returns
returns c =
    let name = c.args.name.now in
    c.get_str.ensures ∙ first_value-rows (found_of c.self.inside.matches) name ∙ ap (first_of name) c.self.invariant
    ∙ first-value_of name _ ∙ ap (λ (options : Options). value_of options name) c.self.view_is
