use Rattle.std.specs.Prelude.{◌≡◌, ℕ, slice_index}
use Rattle.envy_map.specs.Fields.{chart}
use Rattle.envy_audit.proofs.Marks.{IsMarked}
use Rattle.envy_audit.proofs.tables.mark_used.Given as goal

abbrev pub invariant-loop-position : goal.invariant-loop-position
invariant-loop-position g l = let c = chart (g.B.Board.state l.board) in
    let R : ℕ → ℕ → Type 0 = λ k s. slice_index c.fields.positions k ≡ s in
    IsMarked R l.position l.used
