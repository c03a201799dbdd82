use Rattle.envy_map.specs.Fields.{chart}
use Rattle.test_relocations.proofs.CallLemmas.{done_makes, fails_make}
use Rattle.test_relocations.proofs.calls.step_once.Goals as goal

pub returns-clause-done : goal.returns-clause-done
returns-clause-done g c sound = done_makes (chart (g.B.Board.state c.args.board.now)) (chart (g.B.Board.state c.step.new.board)) c.args.reloc.now c.step.new.self c.step.result sound c.step.ensures.steps

pub returns-clause-bad : goal.returns-clause-bad
returns-clause-bad g c sound bad = fails_make (chart (g.B.Board.state c.args.board.now)) (chart (g.B.Board.state c.step.new.board)) c.args.reloc.now c.step.new.self sound (c.step.ensures.same sound) (c.step.ensures.fails bad)
