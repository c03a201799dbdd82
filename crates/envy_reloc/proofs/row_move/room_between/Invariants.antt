use Rattle.std.proofs.Common.{◌≤◌, ℕ, ◌<◌}
use Rattle.envy_reloc.specs.Rows.{HasRoom}
use Rattle.envy_reloc.proofs.row_move.room_between.Given as goal

abbrev pub invariant-loop-position : goal.invariant-loop-position
invariant-loop-position l = (j : ℕ) → l.first ≤ j → j < l.position → HasRoom l.space.shape l.space.fills l.space.positions l.segment j → ⊥
