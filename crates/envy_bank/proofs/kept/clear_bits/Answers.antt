use Rattle.std.proofs.Common.{◌≡◌, arith}
use Rattle.envy_bank.proofs.KeptLaws.{cleared, cleared_held}
use Rattle.envy_bank.proofs.kept.clear_bits.Goals as goal

pub returns-clause-row : goal.returns-clause-row
returns-clause-row c = cleared c.args.row.now c.args.page.now c.loop-i.row c.told-row c.told-page c.loop-i.invariant.0 (λ k lt. c.loop-i.invariant.1 k (omega arith))

pub returns-clause-held : goal.returns-clause-held
returns-clause-held c = cleared_held c.args.page.now c.loop-i.row c.loop-i.held c.told-page c.loop-i.invariant.0 (let n : c.loop-i.i ≡ 32 = omega arith in rw n at c.loop-i.invariant.3)
