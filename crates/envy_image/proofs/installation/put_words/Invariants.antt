use Rattle.std.specs.Prelude.{take}
use Rattle.envy_image.specs.Installing.{HasPut}
use Rattle.envy_image.proofs.installation.put_words.Given as goal

abbrev pub invariant-loop-i : goal.invariant-loop-i
invariant-loop-i g l = HasPut l.first (take l.i l.words) (g.B.Board.state l.initial.board) (g.B.Board.state l.board)
