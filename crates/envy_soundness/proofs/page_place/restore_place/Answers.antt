use Rattle.envy_map.specs.Fields.{chart}
use Rattle.envy_soundness.proofs.RestoreLaw.{SameDurable-restored, Restored-put}
use Rattle.envy_soundness.proofs.page_place.restore_place.Goals as goal

pub returns-clause-durable : goal.returns-clause-durable
returns-clause-durable g c = SameDurable-restored (chart (g.B.Board.state c.args.board.now)) (chart (g.B.Board.state c.set_place.new.board)) c.args.page c.args.back c.set_place.result c.requires.sound c.requires.page c.requires.owned c.requires.names c.set_place.ensures.writes

pub returns-clause-restored : goal.returns-clause-restored
returns-clause-restored g c = Restored-put (chart (g.B.Board.state c.args.board.now)) (chart (g.B.Board.state c.set_place.new.board)) c.args.page c.args.back c.set_place.result c.requires.sound c.requires.page c.requires.names c.set_place.ensures.writes
