use Rattle.std.proofs.Common.{◌*◌, ◌+◌, refl, ap}
use Rattle.envy_map.specs.Fields.{chart, with_fields}
use Rattle.envy_map.specs.Writes.{with_undos_clear}
use Rattle.envy_soundness.specs.Formatting.{with_undos_laid}
use Rattle.envy_soundness.proofs.Laying.{Lays-more, Lays-stops, OnErr-any}
use Rattle.envy_soundness.proofs.Regions.{undos-none, undos-next}
use Rattle.envy_soundness.proofs.lay.lay_undos.Goals as goal

pub loop-i-init : goal.loop-i-init
loop-i-init g c = record { is = ap (with_fields (chart (g.B.Board.state c.args.board.now))) (undos-none (chart (g.B.Board.state c.args.board.now)).fields); on = c.requires }

pub loop-i-preserved : goal.loop-i-preserved
loop-i-preserved g c = record { is = Lays-more (chart (g.B.Board.state c.args.board.now)) (chart (g.B.Board.state c.loop-i.board)) (chart (g.B.Board.state c.clear_undos.new.board)) (with_undos_laid (2 * c.loop-i.i) (chart (g.B.Board.state c.args.board.now)).fields) (with_undos_laid (2 * (c.loop-i.i + 1)) (chart (g.B.Board.state c.args.board.now)).fields) (with_undos_clear c.loop-i.i) c.loop-i.invariant.is (undos-next (chart (g.B.Board.state c.args.board.now)).fields c.loop-i.i) c.in_ok-clear_undos.ensures.writes; on = c.loop-i.invariant.on }

pub returns-in_err-clear_undos-clause-stopped : goal.returns-in_err-clear_undos-clause-stopped
returns-in_err-clear_undos-clause-stopped g c = OnErr-any _ (Lays-stops (chart (g.B.Board.state c.args.board.now)) (chart (g.B.Board.state c.loop-i.board)) (chart (g.B.Board.state c.clear_undos.new.board)) (with_undos_laid (2 * c.loop-i.i) (chart (g.B.Board.state c.args.board.now)).fields) (with_undos_clear c.loop-i.i) _ c.loop-i.invariant.on c.loop-i.invariant.is refl refl c.in_err-clear_undos.ensures.writes)
