use Rattle.envy_bank.proofs.BankSteps.{UpsetStep, upset_step, has_addr, in_range}
use Rattle.envy_bank.proofs.chip_bank.ChipBank.upset_row.Goals as goal

pub upset_lanes-requires-clause-addr : goal.upset_lanes-requires-clause-addr
upset_lanes-requires-clause-addr c =
    let a = c.self.inside in
    has_addr a.chips.items _ a.rows a.erases.items c.args.row c.deref_mut.ensures.value c.self.invariant (in_range a.chips.items a.rows a.erases.items _ c.args.row c.self.view_is c.requires)

pub invariant_of-self : goal.invariant_of-self
invariant_of-self c =
    let a = c.self.inside in
    UpsetStep.chips (upset_step a.chips.len a.chips.items c.deref_mut.result.now c.upset_lanes.new.chips a.rows a.erases.items _ c.args.row c.args.page.now
    a.chips.ok.0 c.deref_mut.ensures.value c.self.invariant c.self.view_is c.requires (record { long = c.told-page; words = c.fits-page }) c.upset_lanes.ensures)

pub returns-clause-row : goal.returns-clause-row
returns-clause-row c =
    let a = c.self.inside in
    UpsetStep.row (upset_step a.chips.len a.chips.items c.deref_mut.result.now c.upset_lanes.new.chips a.rows a.erases.items _ c.args.row c.args.page.now
    a.chips.ok.0 c.deref_mut.ensures.value c.self.invariant c.self.view_is c.requires (record { long = c.told-page; words = c.fits-page }) c.upset_lanes.ensures)

pub returns-clause-whole : goal.returns-clause-whole
returns-clause-whole c =
    let a = c.self.inside in
    UpsetStep.whole (upset_step a.chips.len a.chips.items c.deref_mut.result.now c.upset_lanes.new.chips a.rows a.erases.items _ c.args.row c.args.page.now
    a.chips.ok.0 c.deref_mut.ensures.value c.self.invariant c.self.view_is c.requires (record { long = c.told-page; words = c.fits-page }) c.upset_lanes.ensures)
