use Rattle.std.proofs.Common.{rules, arith}
use Rattle.std.proofs.lemmas.List.{places}
use Rattle.envy_part.proofs.RowLaws.{bytes_all}
use Rattle.envy_part.proofs.rows.bytes_of.Goals as goal

pub returns : goal.returns
returns c =
    bytes_all c.args.page.now c.loop-j.bytes (record { long = c.told-page; words = search (rules, places, c.fits-page) }) c.loop-j.invariant.long
    (λ k lt. c.loop-j.invariant.done k (omega arith))
