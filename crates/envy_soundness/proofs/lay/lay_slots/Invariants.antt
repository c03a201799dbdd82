use Rattle.envy_map.specs.Fields.{chart}
use Rattle.envy_soundness.specs.Formatting.{with_slots_laid}
use Rattle.envy_soundness.proofs.Laying.{IsLaidSo}
use Rattle.envy_soundness.proofs.lay.lay_slots.Given as goal

abbrev pub invariant-loop-t : goal.invariant-loop-t
invariant-loop-t g l = IsLaidSo (chart (g.B.Board.state l.initial.board)) (chart (g.B.Board.state l.board)) (with_slots_laid l.t (chart (g.B.Board.state l.initial.board)).fields)
