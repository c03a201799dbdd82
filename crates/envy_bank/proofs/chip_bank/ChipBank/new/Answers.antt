use Rattle.envy_bank.proofs.BankSteps.{NewStep, new_step}
use Rattle.envy_bank.proofs.chip_bank.ChipBank.new.Goals as goal

pub invariant_of-result : goal.invariant_of-result
invariant_of-result c =
    NewStep.chips (new_step c.in_ok-new_lanes.field-0.items c.args.rows c.in_ok-vec.field-0.items c.args.blocks c.in_ok-new_lanes.ensures (c.in_ok-vec.ensures.items_if_clones_equal (λ y e. e)) c.requires.rows c.requires.size)

pub returns-clause-erased : goal.returns-clause-erased
returns-clause-erased c =
    NewStep.erased (new_step c.in_ok-new_lanes.field-0.items c.args.rows c.in_ok-vec.field-0.items c.args.blocks c.in_ok-new_lanes.ensures (c.in_ok-vec.ensures.items_if_clones_equal (λ y e. e)) c.requires.rows c.requires.size)

pub returns-clause-whole : goal.returns-clause-whole
returns-clause-whole c =
    NewStep.whole (new_step c.in_ok-new_lanes.field-0.items c.args.rows c.in_ok-vec.field-0.items c.args.blocks c.in_ok-new_lanes.ensures (c.in_ok-vec.ensures.items_if_clones_equal (λ y e. e)) c.requires.rows c.requires.size)
