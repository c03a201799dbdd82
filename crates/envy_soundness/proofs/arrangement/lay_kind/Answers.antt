use Rattle.std.proofs.Common.{ap, arith}
use Rattle.envy_base.specs.declared.shape.Shape.{Shape}
use Rattle.envy_map.specs.Fields.{chart}
use Rattle.envy_map.proofs.Sizes.{length-positions}
use Rattle.envy_soundness.proofs.Arranged.{Arranged-next}
use Rattle.envy_soundness.proofs.arrangement.lay_kind.Goals as goal

pub loop-segment-preserved : goal.loop-segment-preserved
loop-segment-preserved g c =
    let told = ap (λ (sh : Shape). sh.segments) c.shape-segment-end.ensures in
    let below = c.loop-segment-test.true in
    let long = length-positions (g.B.Board.state c.args.board.now) (g.met.B.Board.lawful c.args.board.now) in
    let fits = c.requires.end in
    Arranged-next c.args.kind c.args.start c.args.end c.loop-segment.segment c.loop-segment.at c.in_ok-at.at (chart (g.B.Board.state c.args.board.now)) (chart (g.B.Board.state c.loop-segment.board)) (chart (g.B.Board.state c.lay_next.new.board)) (omega arith) (omega arith) c.loop-segment.invariant c.in_ok-at.ensures.done
