use Rattle.envy_bank.proofs.RowLaws.{IsBank-programmed}
use Rattle.envy_bank.proofs.bank.Bank.program_row.Goals as goal

pub invariant_of-self : goal.invariant_of-self
invariant_of-self c =
    let a = c.self.inside in
    IsBank-programmed a.flash c.program.new.self a.rows a.erases.items _ c.args.row c.args.page.now c.self.invariant c.self.view_is c.requires (record { long = c.told-page; words = c.fits-page }) c.program.ensures.row

pub returns-clause-whole : goal.returns-clause-whole
returns-clause-whole c =
    let a = c.self.inside in
    IsBank-programmed a.flash c.program.new.self a.rows a.erases.items _ c.args.row c.args.page.now c.self.invariant c.self.view_is c.requires (record { long = c.told-page; words = c.fits-page }) c.program.ensures.row
