use Rattle.envy_bank.proofs.BankSteps.{IsBank-seen}
use Rattle.envy_bank.proofs.chip_bank.ChipBank.erases.Goals as goal

pub returns-clause-whole : goal.returns-clause-whole
returns-clause-whole c =
    let a = c.self.inside in
    IsBank-seen a.chips.items a.rows a.erases.items _ c.self.view_is c.self.invariant
