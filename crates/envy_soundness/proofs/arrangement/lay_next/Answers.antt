use Rattle.std.proofs.Common.{refl}
use Rattle.envy_map.specs.Fields.{chart}
use Rattle.envy_map.specs.Writes.{with_position}
use Rattle.envy_soundness.proofs.Laying.{Stops-put, OnErr-any}
use Rattle.envy_soundness.proofs.arrangement.lay_next.Goals as goal

pub returns-in_err-set_segment_at-clause-stopped : goal.returns-in_err-set_segment_at-clause-stopped
returns-in_err-set_segment_at-clause-stopped g c = OnErr-any _ (Stops-put (chart (g.B.Board.state c.args.board.now)) (chart (g.B.Board.state c.set_segment_at.new.board)) (with_position c.args.at c.args.segment) _ c.requires.on refl c.in_err-set_segment_at.ensures.writes)
