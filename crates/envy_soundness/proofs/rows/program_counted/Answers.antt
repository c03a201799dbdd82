use Rattle.envy_soundness.proofs.Tallies.{tally-programmed}
use Rattle.envy_soundness.proofs.rows.program_counted.Goals as goal

pub returns-clause-counts : goal.returns-clause-counts
returns-clause-counts g c = (c.one_more.ensures, tally-programmed (g.B.Board.state c.args.board.now) (g.B.Board.state c.program_row-answer.new.board) c.args.row c.args.count.now c.one_more.result c.args.words.now c.program_row-answer.result c.requires.on c.program_row-answer.ensures.programs c.one_more.ensures)
