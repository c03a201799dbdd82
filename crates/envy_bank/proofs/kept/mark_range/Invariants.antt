use Rattle.envy_bank.specs.Kept.{MarksRange}
use Rattle.envy_bank.proofs.kept.mark_range.Given as goal

abbrev pub invariant-loop-row : goal.invariant-loop-row
invariant-loop-row l = MarksRange l.first l.row l.initial.marks l.marks
