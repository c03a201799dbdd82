use Rattle.envy_bank.proofs.BankSteps.{EraseStep, erase_step}
use Rattle.envy_bank.proofs.chip_bank.ChipBank.erase_block.Goals as goal

pub invariant_of-self : goal.invariant_of-self
invariant_of-self c =
    let a = c.self.inside in
    EraseStep.chips (erase_step a.chips.len a.chips.items c.deref_mut.result.now c.erase_lanes.new.chips a.rows c.index_mut-count.result.now c.more.result a.erases.items _ c.args.block
    a.chips.ok.0 c.deref_mut.ensures.value c.self.invariant c.self.view_is c.requires c.erase_lanes.ensures c.index_mut-count.ensures.value c.more.ensures)

pub returns-clause-erased : goal.returns-clause-erased
returns-clause-erased c =
    let a = c.self.inside in
    EraseStep.erased (erase_step a.chips.len a.chips.items c.deref_mut.result.now c.erase_lanes.new.chips a.rows c.index_mut-count.result.now c.more.result a.erases.items _ c.args.block
    a.chips.ok.0 c.deref_mut.ensures.value c.self.invariant c.self.view_is c.requires c.erase_lanes.ensures c.index_mut-count.ensures.value c.more.ensures)

pub returns-clause-whole : goal.returns-clause-whole
returns-clause-whole c =
    let a = c.self.inside in
    EraseStep.whole (erase_step a.chips.len a.chips.items c.deref_mut.result.now c.erase_lanes.new.chips a.rows c.index_mut-count.result.now c.more.result a.erases.items _ c.args.block
    a.chips.ok.0 c.deref_mut.ensures.value c.self.invariant c.self.view_is c.requires c.erase_lanes.ensures c.index_mut-count.ensures.value c.more.ensures)
