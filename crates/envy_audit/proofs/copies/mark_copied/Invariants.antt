use Rattle.std.specs.Prelude.{◌≡◌, ℕ, ◌/◌, ◌<◌, length, slice_index}
use Rattle.envy_map.specs.Fields.{chart}
use Rattle.envy_audit.specs.Points.{rows_of}
use Rattle.envy_audit.proofs.Marks.{IsMarked, IsApart}
use Rattle.envy_audit.proofs.copies.mark_copied.Given as goal

abbrev pub invariant-loop-i : goal.invariant-loop-i
invariant-loop-i g l = let c = chart (g.B.Board.state l.board) in
    let R : ℕ → ℕ → Type 0 = λ i q. slice_index c.fields.origins i ≡ q in
    record {
      long : length l.copied ≡ rows_of c.shape;
      marked : IsMarked R l.i l.copied;
      apart : IsApart R l.i;
      rows : (i : ℕ) → i < l.i → slice_index c.fields.origins i / c.shape.rows ≡ l.segment;
    }
