use Rattle.std.proofs.Common.{arith}
use Rattle.envy_audit.proofs.Turning.{refuted, shown, all-ones, not-ones}
use Rattle.envy_audit.proofs.segments.is_ones.Goals as goal

pub returns-then-word : goal.returns-then-word
returns-then-word g c = refuted (not-ones _ c.loop-i.i _ (omega arith) c.in_ok-word.ensures.1 c.if-word.true)

pub returns : goal.returns
returns g c =
    shown (all-ones _ ((g.met.B.Board.lawful c.args.board.now).pages c.args.row (omega (arith, c.requires, (g.met.B.Board.lawful c.args.board.now).rows))).long (λ k below. c.loop-i.invariant k (omega (arith, below))))
