use Rattle.std.proofs.Common.{◌∙◌, ◌+◌, ◌*◌, ℕ, ap, sym}
use Rattle.envy_journal.proofs.Words.{behind_program, behind_erase, behind_other, behind_words}
use Rattle.envy_journal.proofs.counted.size_behind.Goals as goal

pub returns-then-tag-eq-PROGRAM-clause-value : goal.returns-then-tag-eq-PROGRAM-clause-value
returns-then-tag-eq-PROGRAM-clause-value c = sym (behind_program c.args.tag c.if-tag-eq-PROGRAM.true)

pub returns-then-tag-eq-ERASE-clause-value : goal.returns-then-tag-eq-ERASE-clause-value
returns-then-tag-eq-ERASE-clause-value c = sym (behind_erase c.args.tag c.if-tag-eq-ERASE.true)

pub returns-then-words-eq0-clause-value : goal.returns-then-words-eq0-clause-value
returns-then-words-eq0-clause-value c = sym (behind_other c.args.tag (sym c.words_of_tag-words.ensures.value ∙ c.if-words-eq0.true) c.if-tag-eq-PROGRAM.false c.if-tag-eq-ERASE.false)

pub returns-else-words-eq0-clause-value : goal.returns-else-words-eq0-clause-value
returns-else-words-eq0-clause-value c =
    let is = c.words_of_tag-words.ensures.value in
    ap (λ (k : ℕ). 4 + 8 * k) is ∙ sym (behind_words c.args.tag (λ none. c.if-words-eq0.false (is ∙ none)))
