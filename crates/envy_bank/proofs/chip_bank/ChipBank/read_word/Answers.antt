use Rattle.envy_bank.proofs.BankSteps.{IsBank-seen, read_of_word, has_addr, in_range}
use Rattle.envy_bank.proofs.chip_bank.ChipBank.read_word.Goals as goal

pub read_lanes-requires-clause-addr : goal.read_lanes-requires-clause-addr
read_lanes-requires-clause-addr c =
    let a = c.self.inside in
    has_addr a.chips.items _ a.rows a.erases.items c.args.row c.deref.ensures.value c.self.invariant (in_range a.chips.items a.rows a.erases.items _ c.args.row c.self.view_is c.requires.row)

pub returns-clause-word : goal.returns-clause-word
returns-clause-word c =
    let a = c.self.inside in
    read_of_word a.chips.items c.deref.result.now a.rows a.erases.items _ c.args.row c.args.i c.read_lanes.result c.self.view_is c.deref.ensures.value c.requires.row c.read_lanes.ensures

pub returns-clause-whole : goal.returns-clause-whole
returns-clause-whole c =
    let a = c.self.inside in
    IsBank-seen a.chips.items a.rows a.erases.items _ c.self.view_is c.self.invariant
