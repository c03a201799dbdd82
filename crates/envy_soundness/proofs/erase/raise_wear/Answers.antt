use Rattle.envy_map.specs.Fields.{chart}
use Rattle.envy_soundness.proofs.EraseLaw.{Stays-worn}
use Rattle.envy_soundness.proofs.erase.raise_wear.Goals as goal

pub returns-clause-stays : goal.returns-clause-stays
returns-clause-stays g c = Stays-worn (chart (g.B.Board.state c.args.board.now)) (chart (g.B.Board.state c.set_wear.new.board)) c.args.segment c.one_more.result c.set_wear.result c.requires.sound c.set_wear.ensures.writes
