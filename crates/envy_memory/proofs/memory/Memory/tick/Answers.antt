use Rattle.std.proofs.Common.{sym, subst}
use Rattle.envy_map.specs.Fields.{chart}
use Rattle.envy_meaning.specs.Stands.{Stands}
use Rattle.envy_soundness.proofs.Composition.{cause}
use Rattle.envy_engine.proofs.Leaving.{powers_both}
use Rattle.envy_memory.specs.Below.{TicksBelow}
use Rattle.envy_memory.specs.Calls.{IsCut, Undisturbed}
use Rattle.envy_memory.specs.Picture.{Picture}
use Rattle.envy_memory.proofs.Shutting.{shut-ticked}
use Rattle.envy_memory.proofs.Below.{Ticked, below-ticked}
use Rattle.envy_memory.proofs.EndLemmas.{undisturbed-on}
use Rattle.envy_memory.proofs.TickLemmas.{IsMemory-ticked, Ticks-all, counted-once, undisturbed-bad}
use Rattle.envy_memory.proofs.memory.Memory.tick.Goals as goal

pub returns-clause-step : goal.returns-clause-step
returns-clause-step g c m stood =
    let old = chart (g.B.Board.state c.self.inside.board) in
    let stands : Stands old m = subst (λ (p : Picture). Stands p.chart m) (sym c.self.view_is) stood in
    let new = chart (g.B.Board.state c.tick_ruled.new.board) in
    Ticks-all old new m c.tick_ruled.result stands c.tick_ruled.ensures.step (powers_both c.tick_ruled.result _ c.tick_ruled.ensures.power)

pub returns-clause-cut : goal.returns-clause-cut
returns-clause-cut g c =
    let old = chart (g.B.Board.state c.self.inside.board) in
    let new = chart (g.B.Board.state c.tick_ruled.new.board) in
    subst (λ (p : Picture). IsCut p.chart new) c.self.view_is (cause 1 1 old new (counted-once old new c.tick_ruled.ensures.step))

pub returns-clause-complete : goal.returns-clause-complete
returns-clause-complete g c calm =
    let old = chart (g.B.Board.state c.self.inside.board) in
    let new = chart (g.B.Board.state c.tick_ruled.new.board) in
    let quiet = subst (λ (p : Picture). Undisturbed p.chart new) (sym c.self.view_is) calm in
    ((λ is. undisturbed-on old new (cause 1 1 old new (counted-once old new c.tick_ruled.ensures.step)) ((powers_both c.tick_ruled.result _ c.tick_ruled.ensures.power).0 is) quiet), (λ is. undisturbed-bad old new ((c.tick_ruled.ensures.stops is).1) quiet))

pub invariant_of-self : goal.invariant_of-self
invariant_of-self g c =
    let old = chart (g.B.Board.state c.self.inside.board) in
    let new = chart (g.B.Board.state c.tick_ruled.new.board) in
    let was = c.self.inside in
    (IsMemory-ticked was.limit was.mark old new was.parts c.tick_ruled.new.parts was.owned (sym c.if-not-powered.ensures) c.self.invariant.0 c.tick_ruled.ensures.step c.tick_ruled.ensures.steady, c.tick_ruled.ensures.quiet, λ on. shut-ticked was.shut_from old new c.tick_ruled.ensures.step (c.self.invariant.2 (sym c.if-not-powered.ensures)))

pub returns-clause-below : goal.returns-clause-below
returns-clause-below g c =
    let old = chart (g.B.Board.state c.self.inside.board) in
    let new = chart (g.B.Board.state c.tick_ruled.new.board) in
    let was : Picture = record { chart = old; parts = c.self.inside.parts; owned = c.self.inside.owned; limit = c.self.inside.limit; mark = c.self.inside.mark; sram = (g.B.Board.state c.self.inside.board).sram } in
    let e = c.tick_ruled.ensures in
    let ticked : Ticked c.tick_ruled.result was new c.tick_ruled.new.parts = record { on = sym c.if-not-powered.ensures; step = e.step; does = e.does; idle = e.idle; stops = λ is. (e.stops is).0; counts = e.counts; rests = e.rests } in
    subst (λ (p : Picture). TicksBelow c.tick_ruled.result p (record { chart = new; parts = c.tick_ruled.new.parts; owned = c.self.inside.owned; limit = c.self.inside.limit; mark = c.self.inside.mark; sram = (g.B.Board.state c.tick_ruled.new.board).sram })) c.self.view_is
    (below-ticked c.tick_ruled.result was new c.tick_ruled.new.parts ticked)
