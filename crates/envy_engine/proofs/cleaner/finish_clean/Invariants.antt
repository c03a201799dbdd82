use Rattle.std.proofs.Common.{◌≡◌, ◌+◌, List, [], ℕ}
use Rattle.envy_map.specs.Fields.{chart}
use Rattle.envy_soundness.specs.Frames.{FramesStay}
use Rattle.envy_engine.specs.Agreement.{Ready}
use Rattle.envy_engine.specs.Budgets.{Going}
use Rattle.envy_reloc.specs.Cleaning.{Cleans}
use Rattle.envy_engine.specs.Leaving.{LeavesParts}
use Rattle.envy_engine.specs.Steps.{StepsBy}
use Rattle.envy_engine.proofs.cleaner.finish_clean.Given as goal

abbrev pub invariant-loop-turn : goal.invariant-loop-turn
invariant-loop-turn g l = record {
  ready : Ready (chart (g.B.Board.state l.board)) l.parts;
  going : Going (chart (g.B.Board.state l.initial.board)) (chart (g.B.Board.state l.board)) l.parts (l.rows + 4) 1 (l.rows + 7) l._turn;
  leaves : LeavesParts (chart (g.B.Board.state l.initial.board)) l.initial.parts (chart (g.B.Board.state l.board)) l.parts;
  here : FramesStay (chart (g.B.Board.state l.initial.board)).fields.places (chart (g.B.Board.state l.board)).fields.places;
  parts : l.parts ≡ record l.initial.parts { space = l.parts.space; cache = l.parts.cache; reloc = l.parts.reloc; stages = l.parts.stages };
  none : l.parts.stages ≡ [];
  steps : StepsBy l._turn (chart (g.B.Board.state l.initial.board)) l.initial.parts (chart (g.B.Board.state l.board)) l.parts;
  cleans : (positions : List ℕ) (k n : ℕ) → Cleans (g.B.Board.state l.initial.board).shape positions k n (chart (g.B.Board.state l.initial.board)).fields l.initial.parts.reloc.erased → Cleans (g.B.Board.state l.initial.board).shape positions k n (chart (g.B.Board.state l.board)).fields l.parts.reloc.erased;
}
