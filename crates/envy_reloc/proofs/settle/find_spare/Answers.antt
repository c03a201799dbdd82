use Rattle.std.proofs.Common.{ap, arith}
use Rattle.envy_base.specs.State.{IsBoard}
use Rattle.envy_base.specs.declared.shape.Shape.{Shape}
use Rattle.envy_map.specs.Fields.{chart}
use Rattle.envy_soundness.specs.Sound.{IsSpare}
use Rattle.envy_soundness.proofs.SpareLemmas.{some-spare}
use Rattle.envy_reloc.proofs.settle.find_spare.Goals as goal

pub unreachable-requires : goal.unreachable-requires
unreachable-requires g c =
    let now = chart (g.B.Board.state c.args.board.now) in
    let spare = some-spare now.shape now.fields now.flash c.requires.sound (IsBoard.shape (g.met.B.Board.lawful c.args.board.now)) in
    let low = IsSpare.segment spare.1 in
    let size = ap (λ (sh : Shape). sh.segments) c.shape-segment-end.ensures in
    let end = c.loop-segment-test.false in
    let placed = c.in_ok-placed.ensures.placed spare.0 (c.loop-segment.invariant spare.0 (omega arith)) in
    IsSpare.nowhere spare.1 placed.0 placed.1 placed.2
