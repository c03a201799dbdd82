use Rattle.std.proofs.Common.{◌∙◌, arith}
use Rattle.envy_bank.specs.Lanes.{lanes_at}
use Rattle.envy_bank.proofs.LaneLaws.{from_le-eight}
use Rattle.envy_bank.proofs.BankLaws.{length-lanes_at}
use Rattle.envy_bank.proofs.lanes.read_lanes.Goals as goal

pub returns : goal.returns
returns c =
    let lanes = lanes_at c.args.chips.now c.args.addr in
    c.from_le_bytes.ensures ∙ from_le-eight c.loop-i.bytes lanes c.args.word c.loop-i.invariant.long (length-lanes_at c.args.chips.now c.args.addr ∙ c.requires.count) c.requires.word
    (λ k small. c.loop-i.invariant.read k (omega arith))
