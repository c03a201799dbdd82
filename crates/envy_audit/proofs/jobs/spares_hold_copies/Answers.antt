use Rattle.std.proofs.Common.{below_more, ◌<◌, ap, arith}
use Rattle.envy_base.specs.declared.shape.Shape.{Shape}
use Rattle.envy_map.specs.Fields.{chart}
use Rattle.envy_audit.proofs.Turning.{not-spare}
use Rattle.envy_audit.proofs.jobs.spares_hold_copies.Goals as goal

pub loop-spare-preserved-then-placed-spare : goal.loop-spare-preserved-then-placed-spare
loop-spare-preserved-then-placed-spare g c =
    let below : c.loop-spare.spare < (g.B.Board.state c.args.board.now).shape.segments = omega (arith, ap (λ (sh : Shape). sh.segments) c.shape-spare-end.ensures) in
    below_more _ _ c.loop-spare.invariant (λ spare. not-spare (chart (g.B.Board.state c.args.board.now)) c.args.placed.now c.requires.marks _ below c.if-placed-spare.true spare)

pub loop-spare-preserved : goal.loop-spare-preserved
loop-spare-preserved g c = below_more _ _ c.loop-spare.invariant (λ spare. c.in_ok-holds.ensures.0 c.if-not-holds.false)
