use Rattle.std.proofs.Common.{◌≡◌, ◌∙◌, ap, sym, List, ℕ}
use Rattle.envy_bench.specs.Draws.{seeded, next_word}
use Rattle.envy_bank.specs.Rows.{BankState, with_row}
use Rattle.envy_bench.specs.TornRows.{next_words, torn_row}
use Rattle.envy_bench.proofs.Draws.{after_none}
use Rattle.envy_bench.proofs.flash.Flash.tear_row.Goals as goal

pub returns-clause-row : goal.returns-clause-row
returns-clause-row c =
    let torn : c.next_row-words.result ≡ torn_row c.args.g 0 =
    c.next_row-words.ensures.row ∙ ap (λ t. next_words next_word t) (c.new.ensures ∙ sym (after_none next_word (seeded c.args.g))) in
    c.upset_row.ensures.row ∙ ap (λ (row : List ℕ). with_row c.self.inside.bank c.args.row row) torn
    ∙ ap (λ (bank : BankState). with_row bank c.args.row (torn_row c.args.g 0)) c.self.view_is
