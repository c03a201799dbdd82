use Rattle.std.proofs.Common.{ℕ, ◌<◌, ◌≤◌, get_or}
use Rattle.envy_map.specs.Fields.{chart}
use Rattle.envy_wear.proofs.quiet.spread_of_all.Given as goal

abbrev pub invariant-loop-segment : goal.invariant-loop-segment
invariant-loop-segment g l = record {
  order : l.seen.least ≤ l.seen.most;
  least : (s : ℕ) → s < l.segment → l.seen.least ≤ get_or (chart (g.B.Board.state l.board)).fields.wears s 0;
  most : (s : ℕ) → s < l.segment → get_or (chart (g.B.Board.state l.board)).fields.wears s 0 ≤ l.seen.most;
}
