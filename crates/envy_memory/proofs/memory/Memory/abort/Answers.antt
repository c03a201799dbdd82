use Rattle.std.proofs.Common.{◌≡◌, ◌<◌, Some, sym, subst, arith, ap, ◌∙◌, false, Ok, Err, refl}
use Rattle.std.proofs.lemmas.Bool.{false≢true}
use Rattle.std.specs.Prelude.{IsTrue, ◌↔◌}
use Rattle.std.proofs.lemmas.Result.{err_from_is_err_and}
use Rattle.envy_base.specs.declared.fields.Slot.TheVariants.{Active}
use Rattle.envy_map.specs.Fields.{chart, slot}
use Rattle.envy_soundness.specs.Same.{SameDurable}
use Rattle.envy_meaning.specs.Stands.{Stands}
use Rattle.envy_soundness.proofs.Composition.{cause}
use Rattle.envy_meaning.proofs.Ending.{Steps-abort, IsLost-abort, closed-past, closed-inactive}
use Rattle.envy_engine.specs.Storing.{Rows}
use Rattle.envy_engine.specs.declared.parts.Parts.{Parts}
use Rattle.envy_memory.specs.Calls.{IsCut, Undisturbed}
use Rattle.envy_memory.specs.Picture.{Picture}
use Rattle.envy_memory.specs.Below.{AbortsBelow, IsShut}
use Rattle.envy_memory.specs.declared.faults.EndFault.{EndFault}
use Rattle.envy_memory.specs.declared.faults.EndFault.TheVariants.{Off, Closed}
use Rattle.envy_memory.proofs.Shutting.{closes-shut}
use Rattle.envy_memory.proofs.PutAnswers.{beyond-slots}
use Rattle.envy_memory.proofs.EndAnswers.{Answer, unlit, off-open, shut-lit, done-open, done-lit, dark-off, lit-off, dark-closed, shut-closed, open-closed, still-cut, dark-complete, headed-same, IsMemory-headed, settled-closed, aborts-refused, aborts-ended, aborts-done}
use Rattle.envy_memory.proofs.EndLemmas.{undisturbed-on}
use Rattle.envy_wear.specs.Swaps.{IsQuiet}
use Rattle.envy_engine.proofs.WearLemmas.{IsQuiet-still}
use Rattle.envy_memory.proofs.memory.Memory.abort.Goals as goal

pub returns-in_err-abort_pages-clause-step : goal.returns-in_err-abort_pages-clause-step
returns-in_err-abort_pages-clause-step g c m stood =
    let old = chart (g.B.Board.state c.self.inside.board) in
    let new = chart (g.B.Board.state c.abort_pages.new.board) in
    let stands : Stands old m = subst (λ (p : Picture). Stands p.chart m) (sym c.self.view_is) stood in
    let ge = c.if-t-ge64.false in
    let low : c.args.t < 64 = omega arith in
    let active : slot old.fields c.args.t ≡ Some Active = c.in_ok-is_open.ensures.yes c.if-not-branch.false in
    let p = err_from_is_err_and c.from_residual-in_err-abort_pages.result c.from_residual-in_err-abort_pages.ensures.1 in
    rw (p.1, p.2) (IsLost-abort 0 0 old new m c.args.t stands low active c.in_err-abort_pages.ensures.durable c.in_err-abort_pages.ensures.power)

pub returns-clause-step : goal.returns-clause-step
returns-clause-step g c m stood =
    let old = chart (g.B.Board.state c.self.inside.board) in
    let new = chart (g.B.Board.state c.abort_pages.new.board) in
    let stands : Stands old m = subst (λ (p : Picture). Stands p.chart m) (sym c.self.view_is) stood in
    let ge = c.if-t-ge64.false in
    let low : c.args.t < 64 = omega arith in
    let active : slot old.fields c.args.t ≡ Some Active = c.in_ok-is_open.ensures.yes c.if-not-branch.false in
    let o = c.in_ok-abort_pages.ensures in
    Steps-abort 0 0 old new m c.args.t stands low active o.durable o.aborts.takes o.aborts.ends.closes o.power

pub returns-in_err-abort_pages-clause-cut : goal.returns-in_err-abort_pages-clause-cut
returns-in_err-abort_pages-clause-cut g c =
    let old = chart (g.B.Board.state c.self.inside.board) in
    let new = chart (g.B.Board.state c.abort_pages.new.board) in
    subst (λ (p : Picture). IsCut p.chart new) c.self.view_is (cause 0 0 old new (SameDurable.counted c.in_err-abort_pages.ensures.durable))

pub returns-in_err-abort_pages-clause-complete : goal.returns-in_err-abort_pages-clause-complete
returns-in_err-abort_pages-clause-complete g c calm is =
    let old = chart (g.B.Board.state c.self.inside.board) in
    let new = chart (g.B.Board.state c.abort_pages.new.board) in
    undisturbed-on old new (cause 0 0 old new (SameDurable.counted c.in_err-abort_pages.ensures.durable)) c.in_err-abort_pages.ensures.power (subst (λ (p : Picture). Undisturbed p.chart new) (sym c.self.view_is) calm)

pub returns-then-not-powered-clause-off : goal.returns-then-not-powered-clause-off
returns-then-not-powered-clause-off g c = dark-off c.args.self.now.chart.on (subst (λ (p : Picture). p.chart.on ≡ false) c.self.view_is (sym c.if-not-powered.ensures))

pub returns-then-not-powered-clause-cut : goal.returns-then-not-powered-clause-cut
returns-then-not-powered-clause-cut g c = still-cut c.args.self.now.chart

pub returns-then-not-powered-clause-closed : goal.returns-then-not-powered-clause-closed
returns-then-not-powered-clause-closed g c = dark-closed c.args.t c.args.self.now (subst (λ (p : Picture). p.chart.on ≡ false) c.self.view_is (sym c.if-not-powered.ensures))

pub returns-then-not-powered-clause-complete : goal.returns-then-not-powered-clause-complete
returns-then-not-powered-clause-complete g c = dark-complete c.args.self.now.chart _ (subst (λ (p : Picture). p.chart.on ≡ false) c.self.view_is (sym c.if-not-powered.ensures))

pub returns-then-not-powered-clause-below : goal.returns-then-not-powered-clause-below
returns-then-not-powered-clause-below g c = aborts-refused c.args.t Off c.args.self.now

pub returns-then-t-ge64-clause-off : goal.returns-then-t-ge64-clause-off
returns-then-t-ge64-clause-off g c = lit-off (Err Closed) c.args.self.now.chart.on shut-lit (subst (λ (p : Picture). IsTrue p.chart.on) c.self.view_is (sym c.if-not-powered.ensures))

pub returns-then-t-ge64-clause-cut : goal.returns-then-t-ge64-clause-cut
returns-then-t-ge64-clause-cut g c = still-cut c.args.self.now.chart

pub returns-then-t-ge64-clause-closed : goal.returns-then-t-ge64-clause-closed
returns-then-t-ge64-clause-closed g c =
    let old : Picture = record { chart = chart (g.B.Board.state c.self.inside.board); parts = c.self.inside.parts; owned = c.self.inside.owned; limit = c.self.inside.limit; mark = c.self.inside.mark; sram = (g.B.Board.state c.self.inside.board).sram } in
    let is : IsShut c.args.t old = (sym c.if-not-powered.ensures, beyond-slots (chart (g.B.Board.state c.self.inside.board)) c.args.t c.self.invariant.0.sound c.if-t-ge64.true) in
    shut-closed c.args.t c.args.self.now (subst (λ (p : Picture). IsShut c.args.t p) c.self.view_is is)

pub returns-then-t-ge64-clause-complete : goal.returns-then-t-ge64-clause-complete
returns-then-t-ge64-clause-complete g c calm = shut-lit

pub returns-then-t-ge64-clause-below : goal.returns-then-t-ge64-clause-below
returns-then-t-ge64-clause-below g c = aborts-refused c.args.t Closed c.args.self.now

pub returns-then-t-ge64-clause-step : goal.returns-then-t-ge64-clause-step
returns-then-t-ge64-clause-step g c m stood =
    let old = chart (g.B.Board.state c.self.inside.board) in
    let stands : Stands old m = subst (λ (p : Picture). Stands p.chart m) (sym c.self.view_is) stood in
    (m, (closed-past old m c.args.t (Stands.holds stands) c.if-t-ge64.true, refl), stood)

pub returns-then-not-branch-clause-off : goal.returns-then-not-branch-clause-off
returns-then-not-branch-clause-off g c = lit-off (Err Closed) c.args.self.now.chart.on shut-lit (subst (λ (p : Picture). IsTrue p.chart.on) c.self.view_is (sym c.if-not-powered.ensures))

pub returns-then-not-branch-clause-cut : goal.returns-then-not-branch-clause-cut
returns-then-not-branch-clause-cut g c = still-cut c.args.self.now.chart

pub returns-then-not-branch-clause-closed : goal.returns-then-not-branch-clause-closed
returns-then-not-branch-clause-closed g c =
    let old : Picture = record { chart = chart (g.B.Board.state c.self.inside.board); parts = c.self.inside.parts; owned = c.self.inside.owned; limit = c.self.inside.limit; mark = c.self.inside.mark; sram = (g.B.Board.state c.self.inside.board).sram } in
    let is : IsShut c.args.t old = (sym c.if-not-powered.ensures, c.in_ok-is_open.ensures.never c.if-not-branch.true) in
    shut-closed c.args.t c.args.self.now (subst (λ (p : Picture). IsShut c.args.t p) c.self.view_is is)

pub returns-then-not-branch-clause-complete : goal.returns-then-not-branch-clause-complete
returns-then-not-branch-clause-complete g c calm = shut-lit

pub returns-then-not-branch-clause-below : goal.returns-then-not-branch-clause-below
returns-then-not-branch-clause-below g c = aborts-refused c.args.t Closed c.args.self.now

pub returns-then-not-branch-clause-step : goal.returns-then-not-branch-clause-step
returns-then-not-branch-clause-step g c m stood =
    let old = chart (g.B.Board.state c.self.inside.board) in
    let stands : Stands old m = subst (λ (p : Picture). Stands p.chart m) (sym c.self.view_is) stood in
    (m, (closed-inactive old m c.args.t (Stands.holds stands) c.if-t-ge64.false (c.in_ok-is_open.ensures.never c.if-not-branch.true), refl), stood)

pub returns-in_err-is_open-clause-step : goal.returns-in_err-is_open-clause-step
returns-in_err-is_open-clause-step g c = absurd (false≢true (sym c.in_err-is_open.ensures.off ∙ sym c.if-not-powered.ensures))

pub returns-in_err-is_open-clause-off : goal.returns-in_err-is_open-clause-off
returns-in_err-is_open-clause-off g c = absurd (false≢true (sym c.in_err-is_open.ensures.off ∙ sym c.if-not-powered.ensures))

pub returns-in_err-is_open-clause-cut : goal.returns-in_err-is_open-clause-cut
returns-in_err-is_open-clause-cut g c = absurd (false≢true (sym c.in_err-is_open.ensures.off ∙ sym c.if-not-powered.ensures))

pub returns-in_err-is_open-clause-closed : goal.returns-in_err-is_open-clause-closed
returns-in_err-is_open-clause-closed g c = absurd (false≢true (sym c.in_err-is_open.ensures.off ∙ sym c.if-not-powered.ensures))

pub returns-in_err-is_open-clause-complete : goal.returns-in_err-is_open-clause-complete
returns-in_err-is_open-clause-complete g c = absurd (false≢true (sym c.in_err-is_open.ensures.off ∙ sym c.if-not-powered.ensures))

pub returns-in_err-is_open-clause-below : goal.returns-in_err-is_open-clause-below
returns-in_err-is_open-clause-below g c = absurd (false≢true (sym c.in_err-is_open.ensures.off ∙ sym c.if-not-powered.ensures))

pub is_open-requires-clause-sound : goal.is_open-requires-clause-sound
is_open-requires-clause-sound g c = c.self.invariant.0.sound

pub is_open-requires-clause-version : goal.is_open-requires-clause-version
is_open-requires-clause-version g c = c.self.invariant.0.version

pub is_open-requires-clause-slot : goal.is_open-requires-clause-slot
is_open-requires-clause-slot g c = c.if-t-ge64.false

pub abort_pages-requires-clause-ready : goal.abort_pages-requires-clause-ready
abort_pages-requires-clause-ready g c = record { on = sym c.if-not-powered.ensures; sound = c.self.invariant.0.sound; fits = c.self.invariant.0.fits; agrees = c.self.invariant.0.agrees (sym c.if-not-powered.ensures) }

pub abort_pages-requires-clause-owners : goal.abort_pages-requires-clause-owners
abort_pages-requires-clause-owners g c = c.self.invariant.0.owned

pub abort_pages-requires-clause-version : goal.abort_pages-requires-clause-version
abort_pages-requires-clause-version g c = c.self.invariant.0.version

pub abort_pages-requires-clause-slot : goal.abort_pages-requires-clause-slot
abort_pages-requires-clause-slot g c = c.if-t-ge64.false

pub abort_pages-requires-clause-active : goal.abort_pages-requires-clause-active
abort_pages-requires-clause-active g c = c.in_ok-is_open.ensures.yes c.if-not-branch.false

pub returns-in_err-abort_pages-clause-off : goal.returns-in_err-abort_pages-clause-off
returns-in_err-abort_pages-clause-off g c =
    let p = err_from_is_err_and c.from_residual-in_err-abort_pages.result c.from_residual-in_err-abort_pages.ensures.1 in
    let is : c.from_residual-in_err-abort_pages.result ≡ Err Off = p.1 ∙ ap (λ (f : EndFault). Err f) p.2 in
    subst (λ (r : Answer). (r ≡ Err Off) ↔ ((g.B.Board.state c.abort_pages.new.board).on ≡ false)) (sym is) (dark-off (g.B.Board.state c.abort_pages.new.board).on c.in_err-abort_pages.ensures.power)

pub returns-in_err-abort_pages-clause-closed : goal.returns-in_err-abort_pages-clause-closed
returns-in_err-abort_pages-clause-closed g c =
    let p = err_from_is_err_and c.from_residual-in_err-abort_pages.result c.from_residual-in_err-abort_pages.ensures.1 in
    let is : c.from_residual-in_err-abort_pages.result ≡ Err Off = p.1 ∙ ap (λ (f : EndFault). Err f) p.2 in
    let old : Picture = record { chart = chart (g.B.Board.state c.self.inside.board); parts = c.self.inside.parts; owned = c.self.inside.owned; limit = c.self.inside.limit; mark = c.self.inside.mark; sram = (g.B.Board.state c.self.inside.board).sram } in
    subst (λ (r : Answer). (r ≡ Err Closed) ↔ IsShut c.args.t c.args.self.now) (sym is)
    (subst (λ (p : Picture). (◌≡◌ {A = Answer} (Err Off) (Err Closed)) ↔ IsShut c.args.t p) c.self.view_is (open-closed c.args.t old (Err Off) off-open (c.in_ok-is_open.ensures.yes c.if-not-branch.false)))

pub returns-in_err-abort_pages-clause-below : goal.returns-in_err-abort_pages-clause-below
returns-in_err-abort_pages-clause-below g c =
    let p = err_from_is_err_and c.from_residual-in_err-abort_pages.result c.from_residual-in_err-abort_pages.ensures.1 in
    let is : c.from_residual-in_err-abort_pages.result ≡ Err Off = p.1 ∙ ap (λ (f : EndFault). Err f) p.2 in
    let old : Picture = record { chart = chart (g.B.Board.state c.self.inside.board); parts = c.self.inside.parts; owned = c.self.inside.owned; limit = c.self.inside.limit; mark = c.self.inside.mark; sram = (g.B.Board.state c.self.inside.board).sram } in
    let new = chart (g.B.Board.state c.abort_pages.new.board) in
    let now : Picture = record { chart = new; parts = c.abort_pages.new.parts; owned = c.abort_pages.new.owned; limit = c.self.inside.limit; mark = c.self.inside.mark; sram = (g.B.Board.state c.abort_pages.new.board).sram } in
    let o = c.in_err-abort_pages.ensures in
    subst (λ (r : Answer). AbortsBelow c.args.t r c.args.self.now now) (sym is)
    (subst (λ (p : Picture). AbortsBelow c.args.t (Err Off) p now) c.self.view_is
    (aborts-ended c.args.t old new now.parts now.owned (sym c.if-not-powered.ensures) (headed-same old.chart new o.durable) o.rests o.parts))

pub invariant_of-self : goal.invariant_of-self
invariant_of-self g c =
    let old : Picture = record { chart = chart (g.B.Board.state c.self.inside.board); parts = c.self.inside.parts; owned = c.self.inside.owned; limit = c.self.inside.limit; mark = c.self.inside.mark; sram = (g.B.Board.state c.self.inside.board).sram } in
    let new = chart (g.B.Board.state c.abort_pages.new.board) in
    let o = c.in_err-abort_pages.ensures in (
      IsMemory-headed c.self.inside.limit c.self.inside.mark old.chart new old.parts c.abort_pages.new.parts old.owned c.abort_pages.new.owned c.self.invariant.0 (headed-same old.chart new o.durable) o.steady o.owners (λ on. absurd (unlit new.on o.power on)),
      λ on. absurd {A = IsQuiet new.shape new.fields c.self.inside.limit c.abort_pages.new.parts.reloc.since c.self.inside.quiet} (unlit new.on o.power on),
      λ on. absurd (unlit new.on o.power on),
    )

pub invariant_of-self-2 : goal.invariant_of-self-2
invariant_of-self-2 g c =
    let old : Picture = record { chart = chart (g.B.Board.state c.self.inside.board); parts = c.self.inside.parts; owned = c.self.inside.owned; limit = c.self.inside.limit; mark = c.self.inside.mark; sram = (g.B.Board.state c.self.inside.board).sram } in
    let new = chart (g.B.Board.state c.abort_pages.new.board) in
    let o = c.in_ok-abort_pages.ensures in (
      IsMemory-headed c.self.inside.limit c.self.inside.mark old.chart new old.parts c.abort_pages.new.parts old.owned c.abort_pages.new.owned c.self.invariant.0 (headed-same old.chart new o.durable) o.steady o.owners (λ on u. settled-closed c.args.t u old.chart new c.self.invariant.0.sound c.if-t-ge64.false o.aborts.ends.closes (c.self.invariant.0.settled (sym c.if-not-powered.ensures) u)),
      λ on. IsQuiet-still old.chart new c.self.inside.parts c.abort_pages.new.parts c.self.inside.limit c.self.inside.quiet (SameDurable.shape o.durable) (Rows.wears o.aborts.ends.rows) (ap (λ (z : Parts). z.reloc.since) o.parts) (c.self.invariant.1 (sym c.if-not-powered.ensures)),
      λ on. closes-shut c.self.inside.shut_from c.args.t old.chart new c.self.invariant.0.sound c.if-t-ge64.false o.aborts.ends.closes (c.self.invariant.2 (sym c.if-not-powered.ensures)),
    )

pub returns-clause-off : goal.returns-clause-off
returns-clause-off g c = lit-off (Ok tt) (g.B.Board.state c.abort_pages.new.board).on done-lit c.in_ok-abort_pages.ensures.power

pub returns-clause-cut : goal.returns-clause-cut
returns-clause-cut g c on off low = absurd (unlit (g.B.Board.state c.abort_pages.new.board).on off c.in_ok-abort_pages.ensures.power)

pub returns-clause-complete : goal.returns-clause-complete
returns-clause-complete g c calm = done-lit

pub returns-clause-closed : goal.returns-clause-closed
returns-clause-closed g c =
    let old : Picture = record { chart = chart (g.B.Board.state c.self.inside.board); parts = c.self.inside.parts; owned = c.self.inside.owned; limit = c.self.inside.limit; mark = c.self.inside.mark; sram = (g.B.Board.state c.self.inside.board).sram } in
    subst (λ (p : Picture). (◌≡◌ {A = Answer} (Ok tt) (Err Closed)) ↔ IsShut c.args.t p) c.self.view_is (open-closed c.args.t old (Ok tt) done-open (c.in_ok-is_open.ensures.yes c.if-not-branch.false))

pub returns-clause-below : goal.returns-clause-below
returns-clause-below g c =
    let old : Picture = record { chart = chart (g.B.Board.state c.self.inside.board); parts = c.self.inside.parts; owned = c.self.inside.owned; limit = c.self.inside.limit; mark = c.self.inside.mark; sram = (g.B.Board.state c.self.inside.board).sram } in
    let new = chart (g.B.Board.state c.abort_pages.new.board) in
    let now : Picture = record { chart = new; parts = c.abort_pages.new.parts; owned = c.abort_pages.new.owned; limit = c.self.inside.limit; mark = c.self.inside.mark; sram = (g.B.Board.state c.abort_pages.new.board).sram } in
    let o = c.in_ok-abort_pages.ensures in
    subst (λ (p : Picture). AbortsBelow c.args.t (Ok tt) p now) c.self.view_is
    (aborts-done c.args.t old new now.parts now.owned (sym c.if-not-powered.ensures) (headed-same old.chart new o.durable) o.rests o.parts o.aborts)
