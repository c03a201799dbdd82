use Rattle.std.proofs.Common.{◌≡◌}
use Rattle.envy_map.specs.Fields.{chart}
use Rattle.envy_wear.specs.Swaps.{wear_at, IsMostWorn, IsLeastWorn}
use Rattle.envy_wear.proofs.overdue.extremes_of_all.Given as goal

abbrev pub invariant-loop-position : goal.invariant-loop-position
invariant-loop-position g l = record {
  most : IsMostWorn l.position (wear_at (chart (g.B.Board.state l.board)).fields) l.seen.most.position;
  most_wear : l.seen.most.wear ≡ wear_at (chart (g.B.Board.state l.board)).fields l.seen.most.position;
  least : IsLeastWorn l.position (wear_at (chart (g.B.Board.state l.board)).fields) l.seen.least.position;
  least_wear : l.seen.least.wear ≡ wear_at (chart (g.B.Board.state l.board)).fields l.seen.least.position;
}
