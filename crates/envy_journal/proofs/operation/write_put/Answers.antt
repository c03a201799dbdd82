use Rattle.std.proofs.Common.{◌∷◌, [], ◌++◌, ◌∙◌, ℕ, List, take, ap, append_assoc, arith}
use Rattle.std.proofs.lemmas.List.{take_more_set}
use Rattle.envy_journal.specs.Reading.{number_bytes, word_bytes}
use Rattle.envy_journal.proofs.operation.write_put.Goals as goal

pub returns-clause-written : goal.returns-clause-written
returns-clause-written c =
    let at = c.args.at in
    let front = take at c.args.into.now in
    let number = number_bytes c.args.w in
    let word = word_bytes c.args.v in
    ap (λ (n : ℕ). take n c.write_word.new.into) (omega arith)
    ∙ c.write_word.ensures.written
    ∙ ap (λ (n : ℕ). take n c.write_number.new.into ++ word) (omega arith)
    ∙ ap (λ (l : List ℕ). l ++ word) c.write_number.ensures.written
    ∙ ap (λ (l : List ℕ). (l ++ number) ++ word) (take_more_set c.args.into.now at 1 (omega arith))
    ∙ append_assoc (front ++ 1 ∷ []) number word
    ∙ append_assoc front (1 ∷ []) (number ++ word)
