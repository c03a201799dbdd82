use Rattle.std.proofs.Common.{◌+◌, ◌*◌, ap, subst, arith}
use Rattle.envy_base.specs.State.{IsBoard}
use Rattle.envy_map.specs.Fields.{chart}
use Rattle.envy_engine.proofs.BudgetLemmas.{Budget-start}
use Rattle.envy_engine.specs.Agreement.{Fits, AreStages}
use Rattle.envy_base.specs.declared.shape.Shape.{Shape}
use Rattle.envy_soundness.specs.Same.{Same}
use Rattle.envy_engine.specs.declared.parts.Parts.{Parts}
use Rattle.envy_engine.proofs.job_rest.finish.Goals as goal

pub finish_all-requires-clause-budget : goal.finish_all-requires-clause-budget
finish_all-requires-clause-budget g c =
    let old = chart (g.B.Board.state c.args.board.now) in
    let is = c.left-few.ensures.is in
    let few = c.left-few.ensures.few in
    rw c.shape-rows.ensures (Budget-start old c.args.parts.now c.requires.ready.sound (IsBoard.shape (g.met.B.Board.lawful c.args.board.now)) (omega arith) (AreStages.few (Fits.stages c.requires.ready.fits)))

pub returns-clause-same : goal.returns-clause-same
returns-clause-same g c =
    subst (λ (sh : Shape). Same (3 * sh.rows + 5) 4 (chart (g.B.Board.state c.args.board.now)) (chart (g.B.Board.state c.finish_all.new.board))) c.shape-rows.ensures c.finish_all.ensures.same

pub returns-clause-leaves : goal.returns-clause-leaves
returns-clause-leaves g c = c.finish_all.ensures.leaves

pub returns-clause-keeps : goal.returns-clause-keeps
returns-clause-keeps g c =
    let e = c.finish_all.ensures in
    record { frames = ap (λ (z : Parts). z.frames) e.parts; here = e.here; flushes = ap (λ (z : Parts). z.flushes) e.parts }

pub returns-clause-chooser : goal.returns-clause-chooser
returns-clause-chooser g c = ap (λ (z : Parts). z.chooser) c.finish_all.ensures.parts

pub returns-clause-finishes : goal.returns-clause-finishes
returns-clause-finishes g c = c.finish_all.ensures.finishes

pub returns-clause-stops : goal.returns-clause-stops
returns-clause-stops g c = c.finish_all.ensures.stops

pub returns-clause-power : goal.returns-clause-power
returns-clause-power g c = c.finish_all.ensures.power

pub returns-clause-bad : goal.returns-clause-bad
returns-clause-bad g c = c.finish_all.ensures.bad
