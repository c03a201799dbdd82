use Rattle.std.proofs.Common.{◌≡◌, ℕ, ◌<◌, length, get_or}
use Rattle.envy_base.specs.State.{row_of}
use Rattle.envy_journal.proofs.snapshots.page_in.Given as goal

abbrev pub invariant-loop-i : goal.invariant-loop-i
invariant-loop-i g l = record { long : length l.page ≡ 32; read : (j : ℕ) → j < l.i → get_or l.page j 0 ≡ get_or (row_of (g.B.Board.state l.board) l.row) j 0 }
