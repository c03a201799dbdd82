use Rattle.std.proofs.Common.{below_more, ◌<◌, ap, arith}
use Rattle.envy_base.specs.declared.shape.Shape.{Shape}
use Rattle.envy_map.specs.Fields.{chart}
use Rattle.envy_audit.proofs.Turning.{is-spare, not-spare, found-some, refuted, shown, not-so}
use Rattle.envy_audit.proofs.jobs.kept_once.Goals as goal

pub loop-spare-preserved-then-placed-spare : goal.loop-spare-preserved-then-placed-spare
loop-spare-preserved-then-placed-spare g c =
    let below : c.loop-spare.spare < (g.B.Board.state c.args.board.now).shape.segments = omega (arith, ap (λ (sh : Shape). sh.segments) c.shape-spare-end.ensures) in
    below_more _ _ c.loop-spare.invariant (λ spare. not-spare (chart (g.B.Board.state c.args.board.now)) c.args.placed.now c.requires.marks _ below c.if-placed-spare.true spare)

pub returns-then-not-once : goal.returns-then-not-once
returns-then-not-once g c =
    let below : c.loop-spare.spare < (g.B.Board.state c.args.board.now).shape.segments = omega (arith, ap (λ (sh : Shape). sh.segments) c.shape-spare-end.ensures) in
    let (v, switches) = found-some (chart (g.B.Board.state c.args.board.now)) c.in_ok-switching.switching c.is_none.result c.in_ok-switching.ensures c.is_none.ensures c.if-is_none.false in
    let spare = is-spare (chart (g.B.Board.state c.args.board.now)) c.args.placed.now c.requires.marks _ below c.if-placed-spare.false in
    refuted (λ all. not-so _ c.in_ok-once.ensures c.if-not-once.true (λ i less kept origin. all v c.loop-spare.spare i switches spare less kept origin))

pub loop-spare-preserved : goal.loop-spare-preserved
loop-spare-preserved g c = below_more _ _ c.loop-spare.invariant (λ spare. c.in_ok-once.ensures.0 c.if-not-once.false)

pub returns : goal.returns
returns g c =
    let segments = ap (λ (sh : Shape). sh.segments) c.shape-spare-end.ensures in
    shown (λ v e i switches spare less kept origin. c.loop-spare.invariant e (omega (arith, segments, spare.segment)) spare i less kept origin)
