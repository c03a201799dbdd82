use Rattle.std.proofs.Common.{◌≡◌, ◌-◌, ◌∙◌, true, ap, arith}
use Rattle.envy_base.specs.State.{IsBoard}
use Rattle.envy_base.specs.Shape.{IsShape, all_positions_of}
use Rattle.envy_base.specs.declared.shape.Shape.{Shape}
use Rattle.envy_map.specs.Fields.{Chart, chart, with_fields}
use Rattle.envy_map.proofs.Sizes.{length-positions}
use Rattle.envy_soundness.specs.Formatting.{with_kind_laid}
use Rattle.envy_soundness.proofs.Arranged.{laid-both}
use Rattle.envy_soundness.proofs.arrangement.lay_positions.Goals as goal

pub returns-clause-done : goal.returns-clause-done
returns-clause-done g c =
    let board = g.met.B.Board.lawful c.args.board.now in
    let reserved = IsShape.reserves (IsBoard.shape board) in
    let few = c.requires.few in
    let told : c.all_positions_of-all.result ≡ all_positions_of (g.B.Board.state c.args.board.now).shape = c.all_positions_of-all.ensures ∙ ap (λ (sh : Shape). all_positions_of sh) c.shape.ensures in
    c.in_ok-lay_kind-2.ensures.done
    ∙ ap (λ (x : Chart). with_fields x (with_kind_laid true x.shape (c.all_positions_of-all.result - c.args.bads) c.all_positions_of-all.result x.fields)) c.in_ok-lay_kind.ensures.done
    ∙ ap (with_fields (chart (g.B.Board.state c.args.board.now))) (laid-both (g.B.Board.state c.args.board.now).shape (chart (g.B.Board.state c.args.board.now)).fields c.args.bads c.all_positions_of-all.result told (length-positions (g.B.Board.state c.args.board.now) board) c.requires.bads (omega arith))
