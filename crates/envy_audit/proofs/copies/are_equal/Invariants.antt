use Rattle.std.specs.Prelude.{◌≡◌, ℕ, ◌<◌, [], slice_index, slice_index_or}
use Rattle.envy_map.specs.Fields.{chart}
use Rattle.envy_audit.proofs.copies.are_equal.Given as goal

abbrev pub invariant-loop-i : goal.invariant-loop-i
invariant-loop-i g l = let c = chart (g.B.Board.state l.board) in
    (k : ℕ) → k < l.i → slice_index (slice_index_or c.flash l.a []) k ≡ slice_index (slice_index_or c.flash l.b []) k
