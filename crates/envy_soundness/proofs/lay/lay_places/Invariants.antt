use Rattle.std.proofs.Common.{◌*◌}
use Rattle.envy_map.specs.Fields.{chart}
use Rattle.envy_soundness.specs.Formatting.{with_places_laid}
use Rattle.envy_soundness.proofs.Laying.{IsLaidSo}
use Rattle.envy_soundness.proofs.lay.lay_places.Given as goal

abbrev pub invariant-loop-i : goal.invariant-loop-i
invariant-loop-i g l = IsLaidSo (chart (g.B.Board.state l.initial.board)) (chart (g.B.Board.state l.board)) (with_places_laid (2 * l.i) (chart (g.B.Board.state l.initial.board)).fields)
