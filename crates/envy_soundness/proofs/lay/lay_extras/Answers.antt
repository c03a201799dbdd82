use Rattle.std.proofs.Common.{◌∙◌, refl, ap}
use Rattle.envy_base.specs.declared.shape.Shape.{Shape}
use Rattle.envy_map.specs.Fields.{chart, with_fields}
use Rattle.envy_map.specs.Writes.{with_reserves, with_sums}
use Rattle.envy_soundness.proofs.Laying.{Lays-more, Lays-stops, OnErr-any, extras-same, extras-none}
use Rattle.envy_soundness.proofs.lay.lay_extras.Goals as goal

pub returns-then-version-ne3-clause-done : goal.returns-then-version-ne3-clause-done
returns-then-version-ne3-clause-done g c = ap (with_fields (chart (g.B.Board.state c.args.board.now))) (extras-none (chart (g.B.Board.state c.args.board.now)).fields (g.B.Board.state c.args.board.now).shape c.args.version c.if-version-ne3.true)

pub returns-in_err-set_reserves-clause-stopped : goal.returns-in_err-set_reserves-clause-stopped
returns-in_err-set_reserves-clause-stopped g c =
    OnErr-any _ (Lays-stops (chart (g.B.Board.state c.args.board.now)) (chart (g.B.Board.state c.args.board.now)) (chart (g.B.Board.state c.set_reserves.new.board)) (chart (g.B.Board.state c.args.board.now)).fields (with_reserves c.shape-shape.result.reserves) _ c.requires refl refl refl c.in_err-set_reserves.ensures.writes)

pub returns-in_err-set_sums-clause-stopped : goal.returns-in_err-set_sums-clause-stopped
returns-in_err-set_sums-clause-stopped g c =
    let step = Lays-more (chart (g.B.Board.state c.args.board.now)) (chart (g.B.Board.state c.args.board.now)) (chart (g.B.Board.state c.set_reserves.new.board)) (chart (g.B.Board.state c.args.board.now)).fields (with_reserves c.shape-shape.result.reserves (chart (g.B.Board.state c.args.board.now)).fields) (with_reserves c.shape-shape.result.reserves) refl refl c.in_ok-set_reserves.ensures.writes in
    OnErr-any _ (Lays-stops (chart (g.B.Board.state c.args.board.now)) (chart (g.B.Board.state c.set_reserves.new.board)) (chart (g.B.Board.state c.set_sums.new.board)) (with_reserves c.shape-shape.result.reserves (chart (g.B.Board.state c.args.board.now)).fields) (with_sums c.shape-shape.result.sums) _ c.requires step refl refl c.in_err-set_sums.ensures.writes)

pub returns-clause-done : goal.returns-clause-done
returns-clause-done g c =
    let step = Lays-more (chart (g.B.Board.state c.args.board.now)) (chart (g.B.Board.state c.args.board.now)) (chart (g.B.Board.state c.set_reserves.new.board)) (chart (g.B.Board.state c.args.board.now)).fields (with_reserves c.shape-shape.result.reserves (chart (g.B.Board.state c.args.board.now)).fields) (with_reserves c.shape-shape.result.reserves) refl refl c.in_ok-set_reserves.ensures.writes in
    let last = Lays-more (chart (g.B.Board.state c.args.board.now)) (chart (g.B.Board.state c.set_reserves.new.board)) (chart (g.B.Board.state c.set_sums.new.board)) (with_reserves c.shape-shape.result.reserves (chart (g.B.Board.state c.args.board.now)).fields) (with_sums c.shape-shape.result.sums (with_reserves c.shape-shape.result.reserves (chart (g.B.Board.state c.args.board.now)).fields)) (with_sums c.shape-shape.result.sums) step refl c.in_ok-set_sums.ensures.writes in
    last ∙ ap (with_fields (chart (g.B.Board.state c.args.board.now))) (extras-same (chart (g.B.Board.state c.args.board.now)).fields (g.B.Board.state c.args.board.now).shape c.args.version c.shape-shape.result.reserves c.shape-shape.result.sums c.if-version-ne3.false (ap (λ (sh : Shape). sh.reserves) c.shape-shape.ensures) (ap (λ (sh : Shape). sh.sums) c.shape-shape.ensures))
