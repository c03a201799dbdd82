use Rattle.std.specs.Prelude.{◌≡◌, ℕ, suc, ◌+◌, ◌*◌, ◌<◌, [], slice_index, slice_index_or}
use Rattle.envy_map.specs.Fields.{chart}
use Rattle.envy_audit.proofs.copies.copies_are_same.Given as goal

abbrev pub invariant-loop-i : goal.invariant-loop-i
invariant-loop-i g l = let c = chart (g.B.Board.state l.board) in
    (k : ℕ) → k < l.i → (p : ℕ) → slice_index l.owners (slice_index c.fields.origins k) ≡ suc p
    → (slice_index_or c.flash (l.spare * c.shape.rows + k) [] ≡ slice_index_or c.flash (slice_index c.fields.origins k) [])
    × (slice_index c.fields.backs (l.spare * c.shape.rows + k) ≡ slice_index c.fields.backs (slice_index c.fields.origins k))
