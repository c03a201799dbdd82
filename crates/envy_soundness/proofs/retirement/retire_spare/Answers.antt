use Rattle.envy_map.specs.Fields.{chart}
use Rattle.envy_base.specs.State.{IsBoard}
use Rattle.envy_soundness.proofs.RetireLaw.{FitsPositions-retired}
use Rattle.envy_soundness.proofs.retirement.retire_spare.Goals as goal

pub change_position-requires-clause-fits : goal.change_position-requires-clause-fits
change_position-requires-clause-fits g c = λ on. FitsPositions-retired (g.B.Board.state c.args.board.now).shape (chart (g.B.Board.state c.args.board.now)).fields (g.B.Board.state c.args.board.now).flash c.args.position c.args.spare (record { sound = c.requires.sound; shape = IsBoard.shape (g.met.B.Board.lawful c.args.board.now); reserved = c.requires.reserved; position = c.requires.position; spare = c.requires.spare on; erasing = c.requires.erasing on; closed = c.requires.closed on })
