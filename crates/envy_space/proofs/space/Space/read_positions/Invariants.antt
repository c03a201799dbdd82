use Rattle.std.proofs.Common.{◌≡◌, ℕ, ◌<◌, slice_index}
use Rattle.envy_map.specs.Fields.{chart}
use Rattle.envy_space.specs.Pool.{IsPool}
use Rattle.envy_space.proofs.space.Space.read_positions.Given as goal

abbrev pub invariant-loop-position : goal.invariant-loop-position
invariant-loop-position g l =
    ((k : ℕ) → k < l.position → slice_index l.self.positions k ≡ slice_index (chart (g.B.Board.state l.board)).fields.positions k)
    × IsPool l.self × (l.self.shape ≡ l.initial.self.shape) × (l.self.fills ≡ l.initial.self.fills) × (l.self.kept ≡ l.initial.self.kept)
