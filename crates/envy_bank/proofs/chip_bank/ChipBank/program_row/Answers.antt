use Rattle.envy_bank.proofs.BankSteps.{ProgramStep, program_step, has_addr, in_range}
use Rattle.envy_bank.proofs.chip_bank.ChipBank.program_row.Goals as goal

pub program_lanes-requires-clause-addr : goal.program_lanes-requires-clause-addr
program_lanes-requires-clause-addr c =
    let a = c.self.inside in
    has_addr a.chips.items _ a.rows a.erases.items c.args.row c.deref_mut.ensures.value c.self.invariant (in_range a.chips.items a.rows a.erases.items _ c.args.row c.self.view_is c.requires)

pub invariant_of-self : goal.invariant_of-self
invariant_of-self c =
    let a = c.self.inside in
    ProgramStep.chips (program_step a.chips.len a.chips.items c.deref_mut.result.now c.program_lanes.new.chips a.rows a.erases.items _ c.args.row c.args.page.now c.program_lanes.result
    a.chips.ok.0 c.deref_mut.ensures.value c.self.invariant c.self.view_is c.requires (record { long = c.told-page; words = c.fits-page }) c.program_lanes.ensures.chips c.program_lanes.ensures.held)

pub returns-clause-row : goal.returns-clause-row
returns-clause-row c =
    let a = c.self.inside in
    ProgramStep.row (program_step a.chips.len a.chips.items c.deref_mut.result.now c.program_lanes.new.chips a.rows a.erases.items _ c.args.row c.args.page.now c.program_lanes.result
    a.chips.ok.0 c.deref_mut.ensures.value c.self.invariant c.self.view_is c.requires (record { long = c.told-page; words = c.fits-page }) c.program_lanes.ensures.chips c.program_lanes.ensures.held)

pub returns-clause-held : goal.returns-clause-held
returns-clause-held c =
    let a = c.self.inside in
    ProgramStep.held (program_step a.chips.len a.chips.items c.deref_mut.result.now c.program_lanes.new.chips a.rows a.erases.items _ c.args.row c.args.page.now c.program_lanes.result
    a.chips.ok.0 c.deref_mut.ensures.value c.self.invariant c.self.view_is c.requires (record { long = c.told-page; words = c.fits-page }) c.program_lanes.ensures.chips c.program_lanes.ensures.held)

pub returns-clause-whole : goal.returns-clause-whole
returns-clause-whole c =
    let a = c.self.inside in
    ProgramStep.whole (program_step a.chips.len a.chips.items c.deref_mut.result.now c.program_lanes.new.chips a.rows a.erases.items _ c.args.row c.args.page.now c.program_lanes.result
    a.chips.ok.0 c.deref_mut.ensures.value c.self.invariant c.self.view_is c.requires (record { long = c.told-page; words = c.fits-page }) c.program_lanes.ensures.chips c.program_lanes.ensures.held)
