use Rattle.envy_soundness.proofs.ProgramLaw.{Same-programmed, written-programmed}
use Rattle.envy_soundness.proofs.program.program_row.Goals as goal

pub returns-clause-same : goal.returns-clause-same
returns-clause-same g c = Same-programmed (g.B.Board.state c.args.board.now) (g.B.Board.state c.program.new.self) c.args.row c.args.page.now c.program.result c.requires.sound c.requires.may c.program.ensures

pub returns-clause-written : goal.returns-clause-written
returns-clause-written g c = written-programmed (g.B.Board.state c.args.board.now) (g.B.Board.state c.program.new.self) c.args.row c.args.page.now c.program.result (g.met.B.Board.lawful c.args.board.now) c.requires.row c.told-page c.fits-page c.program.ensures
