use Rattle.std.specs.Prelude.{◌≡◌, ℕ, suc, ◌+◌, ◌*◌, ◌<◌, slice_index}
use Rattle.envy_map.specs.Fields.{chart}
use Rattle.envy_audit.proofs.copies.kept_are_copied.Given as goal

abbrev pub invariant-loop-i : goal.invariant-loop-i
invariant-loop-i g l = let c = chart (g.B.Board.state l.board) in
    (k : ℕ) → k < l.i → (p : ℕ) → slice_index l.owners (l.segment * c.shape.rows + k) ≡ suc p → (i : ℕ) × (i < l.fill) × (slice_index c.fields.origins i ≡ l.segment * c.shape.rows + k)
