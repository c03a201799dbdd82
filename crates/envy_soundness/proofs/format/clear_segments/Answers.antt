use Rattle.std.proofs.Common.{◌∙◌, refl, sym, ap, arith}
use Rattle.std.proofs.lemmas.Bool.{ltb-true}
use Rattle.envy_base.specs.State.{IsBoard}
use Rattle.envy_base.specs.Shape.{IsShape}
use Rattle.envy_base.specs.declared.shape.Shape.{Shape}
use Rattle.envy_map.specs.Fields.{chart}
use Rattle.envy_map.proofs.Sizes.{length-fills}
use Rattle.envy_soundness.specs.Formatting.{Cleared}
use Rattle.envy_soundness.proofs.Clearing.{Cleared-none, Cleared-more, aside-cleared, counted-more}
use Rattle.envy_soundness.proofs.format.clear_segments.Goals as goal

pub loop-segment-init : goal.loop-segment-init
loop-segment-init g c = record { cleared = Cleared-none (chart (g.B.Board.state c.args.board.now)) c.requires; bads = refl }

pub loop-segment-preserved : goal.loop-segment-preserved
loop-segment-preserved g c =
    let board = g.met.B.Board.lawful c.args.board.now in
    let shape = IsBoard.shape board in
    let some = IsShape.rows shape in
    let reserved = IsShape.reserves shape in
    let long = length-fills (g.B.Board.state c.args.board.now) board in
    let told = ap (λ (sh : Shape). sh.segments) c.shape-segment-end.ensures in
    let left = ap (λ (sh : Shape). sh.reserves) c.shape-reserves.ensures in
    let below = c.loop-segment-test.true in
    let cleared = c.loop-segment.invariant.cleared in
    let bads = c.loop-segment.invariant.bads in
    let same = Cleared.fills_long cleared in
    record {
      cleared = Cleared-more (chart (g.B.Board.state c.args.board.now)) (chart (g.B.Board.state c.loop-segment.board)) (chart (g.B.Board.state c.clear_segment.new.board)) c.loop-segment.segment c.in-Ok.is_bad (omega arith) (omega arith) cleared c.in-Ok.ensures.done (λ is_bad. let room = ltb-true _ _ (c.in-Ok.ensures.allowed is_bad) in omega arith);
      bads = counted-more c.loop-segment.bads _ c.in-Ok.is_bad c.counted-bads.result c.counted-bads.ensures bads ∙ sym (aside-cleared (g.B.Board.state c.args.board.now).shape (chart (g.B.Board.state c.loop-segment.board)) (chart (g.B.Board.state c.clear_segment.new.board)) c.loop-segment.segment c.in-Ok.is_bad (omega arith) (Cleared.shape cleared) (omega arith) c.in-Ok.ensures.done);
    }
