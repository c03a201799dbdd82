use Rattle.std.proofs.Common.{◌∙◌, arith}
use Rattle.envy_bank.proofs.LaneLaws.{from_le-eight}
use Rattle.envy_part.proofs.rows.word.Goals as goal

pub returns : goal.returns
returns c = c.from_le_bytes.ensures ∙ from_le-eight c.loop-j.bytes c.args.row.now c.args.i c.loop-j.invariant.long c.told-row c.requires (λ k small. c.loop-j.invariant.read k (omega arith))
