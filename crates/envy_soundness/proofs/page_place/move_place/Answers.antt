use Rattle.envy_map.specs.Fields.{chart}
use Rattle.envy_soundness.proofs.PlaceLaw.{Same-moved}
use Rattle.envy_soundness.proofs.page_place.move_place.Goals as goal

pub returns-clause-same : goal.returns-clause-same
returns-clause-same g c = Same-moved (chart (g.B.Board.state c.args.board.now)) (chart (g.B.Board.state c.set_place.new.board)) c.args.page c.args.place c.set_place.result c.requires.sound c.requires.page c.requires.may c.requires.copy c.set_place.ensures.writes
