use Rattle.envy_map.specs.Fields.{chart}
use Rattle.envy_soundness.proofs.PositionLaw.{FitsPositions-replaced}
use Rattle.envy_soundness.proofs.position.replace_segment.Goals as goal

pub change_position-requires-clause-fits : goal.change_position-requires-clause-fits
change_position-requires-clause-fits g c = λ on. FitsPositions-replaced (g.B.Board.state c.args.board.now).shape (chart (g.B.Board.state c.args.board.now)).fields (g.B.Board.state c.args.board.now).flash c.args.position c.args.spare (record { sound = c.requires.sound; position = c.requires.position; spare = c.requires.spare on; switching = c.requires.switching on; clear = c.requires.clear on })
