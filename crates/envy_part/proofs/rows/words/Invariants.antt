use Rattle.envy_part.proofs.RowLaws.{Read}
use Rattle.envy_part.proofs.rows.words.Given as goal

abbrev pub invariant-loop-i : goal.invariant-loop-i
invariant-loop-i l = Read l.i l.row l.found
