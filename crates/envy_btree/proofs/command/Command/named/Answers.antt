use Rattle.std.proofs.Common.{◌∙◌, rules, tests}
use Rattle.std.proofs.lemmas.Iterator.{YieldsList-from_slice}
use Rattle.std.proofs.lemmas.Iterator.Search.{find_from_yields_List}
use Rattle.std.specs.Str.{bytes_eq}
use Rattle.envy_btree.specs.Commands.{name_of, all}
use Rattle.envy_btree.proofs.command.Command.named.Goals as goal

pub returns : goal.returns
returns c =
    c.copied.ensures ∙ find_from_yields_List (λ command. bytes_eq (name_of command) c.args.name.now) _ _ c.find.result c.find.ensures.ran (YieldsList-from_slice all cc) (λ x b q k. search (rules, tests))
