use Rattle.std.proofs.Common.{◌≡◌}
use Rattle.envy_map.specs.Fields.{chart}
use Rattle.envy_space.specs.Pool.{HasCounted}
use Rattle.envy_space.proofs.space.Space.count_kept.Given as goal

abbrev pub invariant-loop-page : goal.invariant-loop-page
invariant-loop-page g l =
    HasCounted (g.B.Board.state l.board).shape (chart (g.B.Board.state l.board)).fields l.page l.self
    × (l.self.shape ≡ l.initial.self.shape) × (l.self.fills ≡ l.initial.self.fills) × (l.self.positions ≡ l.initial.self.positions)
