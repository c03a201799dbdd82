use Rattle.std.proofs.Common.{◌≡◌, replicate}
use Rattle.envy_bank.specs.Commands.{erased_chip}
use Rattle.envy_bank.proofs.lanes.new_lanes.Given as goal

abbrev pub invariant-loop-lane : goal.invariant-loop-lane
invariant-loop-lane l = l.chips.items ≡ replicate l._lane (erased_chip l.blocks l.rows)
