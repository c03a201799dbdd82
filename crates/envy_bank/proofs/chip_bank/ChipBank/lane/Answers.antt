use Rattle.envy_bank.proofs.BankSteps.{IsBank-seen, lane_addr, lane_read}
use Rattle.envy_bank.proofs.chip_bank.ChipBank.lane.Goals as goal

pub read-requires : goal.read-requires
read-requires c =
    let a = c.self.inside in
    lane_addr a.chips.items c.index.result.now a.rows a.erases.items _ c.args.row c.args.lane c.self.view_is c.self.invariant c.requires.row c.requires.lane c.index.ensures

pub returns-clause-byte : goal.returns-clause-byte
returns-clause-byte c =
    let a = c.self.inside in
    lane_read a.chips.items c.index.result.now a.rows a.erases.items _ c.args.row c.args.lane c.read.result c.self.view_is c.self.invariant c.requires.row c.requires.lane c.index.ensures c.read.ensures

pub returns-clause-whole : goal.returns-clause-whole
returns-clause-whole c =
    let a = c.self.inside in
    IsBank-seen a.chips.items a.rows a.erases.items _ c.self.view_is c.self.invariant
