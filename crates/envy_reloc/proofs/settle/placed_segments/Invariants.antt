use Rattle.std.proofs.Common.{◌≡◌, ℕ, ◌<◌, false, length, slice_index}
use Rattle.std.specs.Prelude.{IsTrue, slice_index_or}
use Rattle.envy_base.specs.Shape.{all_positions_of}
use Rattle.envy_map.specs.Fields.{chart}
use Rattle.envy_reloc.proofs.settle.placed_segments.Given as goal

-- those of the positions so far
abbrev pub invariant-loop-position : goal.invariant-loop-position
invariant-loop-position g l = record {
  long : length l.placed ≡ 4096;
  placed : (s : ℕ) → IsTrue (slice_index_or l.placed s false) → (k : ℕ) × (k < all_positions_of (g.B.Board.state l.board).shape) × (slice_index (chart (g.B.Board.state l.board)).fields.positions k ≡ s);
  all : (k : ℕ) → k < l.position → IsTrue (slice_index_or l.placed (slice_index (chart (g.B.Board.state l.board)).fields.positions k) false);
}
