use Rattle.std.proofs.Common.{◌∙◌, sym}
use Rattle.std.proofs.lemmas.Bool.{le-ltb, lt-ltb}
use Rattle.envy_journal.proofs.Words.{words_put, words_low, words_high, words_run}
use Rattle.envy_journal.proofs.operation.words_of_tag.Goals as goal

pub returns-then-tag-eq-PUT-clause-value : goal.returns-then-tag-eq-PUT-clause-value
returns-then-tag-eq-PUT-clause-value c = sym (words_put c.args.tag c.if-tag-eq-PUT.true)

pub returns-then-tag-lt130-clause-value : goal.returns-then-tag-lt130-clause-value
returns-then-tag-lt130-clause-value c = sym (words_low c.args.tag c.if-tag-eq-PUT.false (lt-ltb c.args.tag 130 c.if-tag-lt130.true))

pub returns-then-tag-gt192-clause-value : goal.returns-then-tag-gt192-clause-value
returns-then-tag-gt192-clause-value c = sym (words_high c.args.tag c.if-tag-eq-PUT.false (le-ltb c.args.tag 130 c.if-tag-lt130.false) (lt-ltb 192 c.args.tag c.if-tag-gt192.true))

pub returns-else-tag-gt192-clause-value : goal.returns-else-tag-gt192-clause-value
returns-else-tag-gt192-clause-value c = c.from.ensures ∙ sym (words_run c.args.tag c.if-tag-eq-PUT.false (le-ltb c.args.tag 130 c.if-tag-lt130.false) (le-ltb 192 c.args.tag c.if-tag-gt192.false))
