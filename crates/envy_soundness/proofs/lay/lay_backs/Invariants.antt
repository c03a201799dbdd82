use Rattle.envy_map.specs.Fields.{chart}
use Rattle.envy_soundness.specs.Formatting.{with_backs_laid}
use Rattle.envy_soundness.proofs.Laying.{IsLaidSo}
use Rattle.envy_soundness.proofs.lay.lay_backs.Given as goal

abbrev pub invariant-loop-row : goal.invariant-loop-row
invariant-loop-row g l = IsLaidSo (chart (g.B.Board.state l.initial.board)) (chart (g.B.Board.state l.board)) (with_backs_laid l.row (chart (g.B.Board.state l.initial.board)).fields)
