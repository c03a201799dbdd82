use Rattle.std.specs.Prelude.{IsTrue}
use Rattle.envy_map.specs.Fields.{chart}
use Rattle.envy_run.specs.Prepares.{IsPrepared, IsUnspent}
use Rattle.envy_run.proofs.preparation.prepare.Given as goal

abbrev pub invariant-loop-memory : goal.invariant-loop-memory
invariant-loop-memory g l = IsTrue (g.B.Board.state l.board).on × (IsPrepared (chart (g.B.Board.state l.initial.board)) (chart (g.B.Board.state l.board)) × IsUnspent (chart (g.B.Board.state l.initial.board)) (chart (g.B.Board.state l.board)))

abbrev pub decreases-loop-memory : goal.decreases-loop-memory
decreases-loop-memory g l = (g.B.Board.state l.board).lives
