use Rattle.std.proofs.Common.{◌+◌, refl, ap}
use Rattle.envy_map.specs.Fields.{chart, with_fields}
use Rattle.envy_map.specs.Writes.{with_back}
use Rattle.envy_soundness.specs.Formatting.{with_backs_laid}
use Rattle.envy_soundness.proofs.Laying.{Lays-more, Lays-stops, OnErr-any}
use Rattle.envy_soundness.proofs.Regions.{backs-none, backs-next}
use Rattle.envy_soundness.proofs.lay.lay_backs.Goals as goal

pub loop-row-init : goal.loop-row-init
loop-row-init g c = record { is = ap (with_fields (chart (g.B.Board.state c.args.board.now))) (backs-none (chart (g.B.Board.state c.args.board.now)).fields); on = c.requires }

pub loop-row-preserved : goal.loop-row-preserved
loop-row-preserved g c = record { is = Lays-more (chart (g.B.Board.state c.args.board.now)) (chart (g.B.Board.state c.loop-row.board)) (chart (g.B.Board.state c.set_back.new.board)) (with_backs_laid c.loop-row.row (chart (g.B.Board.state c.args.board.now)).fields) (with_backs_laid (c.loop-row.row + 1) (chart (g.B.Board.state c.args.board.now)).fields) (with_back c.loop-row.row 0) c.loop-row.invariant.is (backs-next (chart (g.B.Board.state c.args.board.now)).fields c.loop-row.row) c.in_ok-set_back.ensures.writes; on = c.loop-row.invariant.on }

pub returns-in_err-set_back-clause-stopped : goal.returns-in_err-set_back-clause-stopped
returns-in_err-set_back-clause-stopped g c = OnErr-any _ (Lays-stops (chart (g.B.Board.state c.args.board.now)) (chart (g.B.Board.state c.loop-row.board)) (chart (g.B.Board.state c.set_back.new.board)) (with_backs_laid c.loop-row.row (chart (g.B.Board.state c.args.board.now)).fields) (with_back c.loop-row.row 0) _ c.loop-row.invariant.on c.loop-row.invariant.is refl refl c.in_err-set_back.ensures.writes)
