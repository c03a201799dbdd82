use Rattle.std.proofs.Common.{◌≡◌, ◌/◌, ◌+◌, ◌≤◌, length}
use Rattle.std.specs.Prelude.{All}
use Rattle.envy_map.specs.Fields.{chart}
use Rattle.envy_engine.proofs.KeptLemmas.{Found}
use Rattle.envy_engine.proofs.cleaner.kept_rows.Given as goal

abbrev pub invariant-loop-i : goal.invariant-loop-i
invariant-loop-i g l = record {
  rows : All (λ q. q / (g.B.Board.state l.board).shape.rows ≡ l.segment) l.rows.items;
  found : Found (g.B.Board.state l.board).shape (chart (g.B.Board.state l.board)).fields l.segment (l.first + l.i) l.rows.items;
  few : length l.rows.items ≤ 4;
}
