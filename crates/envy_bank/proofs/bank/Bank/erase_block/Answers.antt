use Rattle.envy_bank.proofs.RowLaws.{IsBank-erased, ErasesBlock-seen}
use Rattle.envy_bank.proofs.bank.Bank.erase_block.Goals as goal

pub invariant_of-self : goal.invariant_of-self
invariant_of-self c =
    let a = c.self.inside in
    IsBank-erased a.flash c.erase.new.self a.rows c.args.block c.more.result a.erases.items c.self.invariant c.erase.ensures

pub returns-clause-erased : goal.returns-clause-erased
returns-clause-erased c =
    let a = c.self.inside in
    ErasesBlock-seen a.flash c.erase.new.self a.rows c.index_mut-count.result.now c.more.result a.erases.items _ c.args.block c.self.invariant c.self.view_is c.requires c.erase.ensures c.index_mut-count.ensures.value c.more.ensures

pub returns-clause-whole : goal.returns-clause-whole
returns-clause-whole c =
    let a = c.self.inside in
    IsBank-erased a.flash c.erase.new.self a.rows c.args.block c.more.result a.erases.items c.self.invariant c.erase.ensures
