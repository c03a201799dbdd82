use Rattle.std.proofs.Common.{◌≡◌, ℕ, ◌<◌, length, slice_index}
use Rattle.envy_map.specs.Fields.{chart}
use Rattle.envy_space.proofs.space.Space.read_fills.Given as goal

abbrev pub invariant-loop-segment : goal.invariant-loop-segment
invariant-loop-segment g l =
    ((s : ℕ) → s < l.segment → slice_index l.self.fills s ≡ slice_index (chart (g.B.Board.state l.board)).fields.fills s)
    × (length l.self.fills ≡ (g.B.Board.state l.board).shape.segments)
    × (l.self.shape ≡ l.initial.self.shape) × (l.self.kept ≡ l.initial.self.kept) × (l.self.positions ≡ l.initial.self.positions)
