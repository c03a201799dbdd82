use Rattle.std.proofs.Common.{◌+◌, refl, ap}
use Rattle.envy_map.specs.Fields.{chart, with_fields}
use Rattle.envy_map.specs.Writes.{with_origin}
use Rattle.envy_soundness.specs.Formatting.{with_origins_laid}
use Rattle.envy_soundness.proofs.Laying.{Lays-more, Lays-stops, OnErr-any}
use Rattle.envy_soundness.proofs.Regions.{origins-none, origins-next}
use Rattle.envy_soundness.proofs.lay.lay_origins.Goals as goal

pub loop-i-init : goal.loop-i-init
loop-i-init g c = record { is = ap (with_fields (chart (g.B.Board.state c.args.board.now))) (origins-none (chart (g.B.Board.state c.args.board.now)).fields); on = c.requires }

pub loop-i-preserved : goal.loop-i-preserved
loop-i-preserved g c = record { is = Lays-more (chart (g.B.Board.state c.args.board.now)) (chart (g.B.Board.state c.loop-i.board)) (chart (g.B.Board.state c.set_origin.new.board)) (with_origins_laid c.loop-i.i (chart (g.B.Board.state c.args.board.now)).fields) (with_origins_laid (c.loop-i.i + 1) (chart (g.B.Board.state c.args.board.now)).fields) (with_origin c.loop-i.i 0) c.loop-i.invariant.is (origins-next (chart (g.B.Board.state c.args.board.now)).fields c.loop-i.i) c.in_ok-set_origin.ensures.writes; on = c.loop-i.invariant.on }

pub returns-in_err-set_origin-clause-stopped : goal.returns-in_err-set_origin-clause-stopped
returns-in_err-set_origin-clause-stopped g c = OnErr-any _ (Lays-stops (chart (g.B.Board.state c.args.board.now)) (chart (g.B.Board.state c.loop-i.board)) (chart (g.B.Board.state c.set_origin.new.board)) (with_origins_laid c.loop-i.i (chart (g.B.Board.state c.args.board.now)).fields) (with_origin c.loop-i.i 0) _ c.loop-i.invariant.on c.loop-i.invariant.is refl refl c.in_err-set_origin.ensures.writes)
