use Rattle.std.specs.Prelude.{◌≡◌, ℕ, suc, ◌+◌, ◌*◌, ◌<◌, slice_index}
use Rattle.envy_map.specs.Fields.{chart}
use Rattle.envy_audit.proofs.copies.is_kept_once.Given as goal

abbrev pub invariant-loop-i : goal.invariant-loop-i
invariant-loop-i g l = let c = chart (g.B.Board.state l.board) in
    (k : ℕ) → k < l.i → (p r : ℕ) → slice_index l.owners (l.spare * c.shape.rows + k) ≡ suc p → slice_index l.owners (slice_index c.fields.origins k) ≡ suc r → ⊥
