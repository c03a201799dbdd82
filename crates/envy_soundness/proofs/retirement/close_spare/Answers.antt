use Rattle.std.proofs.Common.{ap, arith}
use Rattle.envy_base.specs.declared.shape.Shape.{Shape}
use Rattle.envy_map.specs.Fields.{chart}
use Rattle.envy_soundness.proofs.EraseLaw.{Same-refilled}
use Rattle.envy_soundness.proofs.retirement.close_spare.Goals as goal

pub returns-clause-same : goal.returns-clause-same
returns-clause-same g c =
    let rows = ap (λ (sh : Shape). sh.rows) c.shape-rows.ensures in
    Same-refilled (chart (g.B.Board.state c.args.board.now)) (chart (g.B.Board.state c.set_fill.new.board)) c.args.segment c.shape-rows.result.rows c.set_fill.result c.requires.sound (omega (arith, rows)) c.requires.erasing c.requires.spare c.set_fill.ensures.writes
