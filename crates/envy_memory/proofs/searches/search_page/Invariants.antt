use Rattle.std.proofs.Common.{◌+◌, ◌-◌, Some}
use Rattle.envy_array.proofs.Halving.{Narrow}
use Rattle.envy_map.specs.Fields.{chart}
use Rattle.envy_soundness.specs.Words.{word_at}
use Rattle.envy_memory.proofs.searches.search_page.Given as goal

abbrev pub invariant-loop-place : goal.invariant-loop-place
invariant-loop-place g l = Narrow (λ i. word_at (chart (g.B.Board.state l.board)).fields.frames (g.B.Board.state l.board).flash (Some l.from) (l.first + i)) l.n l.key l.low l.top l.place.index l.place.low l.place.top l.end

abbrev pub decreases-loop-place : goal.decreases-loop-place
decreases-loop-place g l = l.end - l.place.index
