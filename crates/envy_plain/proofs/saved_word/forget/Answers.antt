use Rattle.std.proofs.Common.{not, rules, tests}
use Rattle.std.specs.Prelude.{◌==◌}
use Rattle.std.proofs.lemmas.Fn.{filter_same}
use Rattle.envy_plain.specs.declared.saved_word.SavedWord.{SavedWord}
use Rattle.envy_plain.proofs.saved_word.forget.Goals as goal

pub returns-clause-items : goal.returns-clause-items
returns-clause-items c = filter_same _ (λ (e : SavedWord). not (e.slot == c.args.slot)) _ (λ x b f' k. search (rules, tests)) _ _ c.retain.ensures.filtered
