use Rattle.std.proofs.Common.{arith}
use Rattle.envy_map.specs.Fields.{chart}
use Rattle.envy_soundness.proofs.EraseLaw.{Same-refilled}
use Rattle.envy_soundness.proofs.erase.empty_spare.Goals as goal

pub returns-clause-same : goal.returns-clause-same
returns-clause-same g c = Same-refilled (chart (g.B.Board.state c.args.board.now)) (chart (g.B.Board.state c.set_fill.new.board)) c.args.segment 0 c.set_fill.result c.requires.sound (omega arith) c.requires.erasing c.requires.spare c.set_fill.ensures.writes
