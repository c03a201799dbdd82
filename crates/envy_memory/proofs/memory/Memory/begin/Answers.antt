use Rattle.std.proofs.Common.{arith, Bool, ◌≡◌, ◌≢◌, ◌∙◌, ℕ, ◌<◌, List, false, Option, Some, None, Ok, Err, refl, sym, subst, ap}
use Rattle.std.specs.Prelude.{IsTrue, Result, ◌↔◌}
use Rattle.std.proofs.lemmas.Bool.{false≢true}
use Rattle.std.proofs.lemmas.Result.{err_from_is_err_and}
use Rattle.envy_base.specs.Shape.{version_of}
use Rattle.envy_base.specs.declared.fields.Slot.{Slot}
use Rattle.envy_base.specs.declared.fields.Slot.TheVariants.{Active, Vacant, Committed}
use Rattle.envy_map.specs.Fields.{Chart, chart, slot, with_fields}
use Rattle.envy_map.specs.Writes.{with_slot}
use Rattle.envy_soundness.specs.Same.{SameWords}
use Rattle.envy_soundness.specs.Sound.{IsSound, Sound, Slots}
use Rattle.envy_meaning.specs.Stands.{Stands}
use Rattle.envy_soundness.proofs.Composition.{cause}
use Rattle.envy_meaning.proofs.Ending.{none-closed, IsLost-begin, Steps-begin}
use Rattle.envy_memory.proofs.Shutting.{opens-shut}
use Rattle.envy_memory.proofs.Slots.{slot-low}
use Rattle.envy_memory.specs.Below.{BeginsBelow, IsBusy}
use Rattle.envy_memory.specs.Calls.{IsCut, Undisturbed}
use Rattle.envy_memory.specs.Picture.{Picture}
use Rattle.envy_memory.specs.declared.faults.BeginFault.{BeginFault}
use Rattle.envy_memory.specs.declared.faults.BeginFault.TheVariants.{Off, Busy}
use Rattle.envy_memory.proofs.EndAnswers.{unlit, still-cut, dark-complete, Headed, headed-words, works-headed, works-still, IsMemory-headed, settled-set}
use Rattle.envy_memory.proofs.EndLemmas.{undisturbed-on}
use Rattle.envy_wear.specs.Swaps.{IsQuiet}
use Rattle.envy_engine.proofs.WearLemmas.{IsQuiet-still}
use Rattle.envy_memory.proofs.memory.Memory.begin.Goals as goal

abbrev Answer : Type 0
Answer = Result ℕ BeginFault

off-free : ◌≢◌ {A = Answer} (Err Off) (Err Busy)
off-free e = let no : Err Off ≡ Err Busy = e in cc

busy-lit : ◌≢◌ {A = Answer} (Err Busy) (Err Off)
busy-lit e = let no : Err Busy ≡ Err Off = e in cc

done-lit : (t : ℕ) → ◌≢◌ {A = Answer} (Ok t) (Err Off)
done-lit t e = let no : Ok t ≡ Err Off = e in cc

done-free : (t : ℕ) → ◌≢◌ {A = Answer} (Ok t) (Err Busy)
done-free t e = let no : Ok t ≡ Err Busy = e in cc

vacant-active : ◌≢◌ {A = Option Slot} (Some Vacant) (Some Active)
vacant-active e = let no : Some Vacant ≡ Some Active = e in cc

dark-off : (on : Bool) → on ≡ false → (◌≡◌ {A = Answer} (Err Off) (Err Off)) ↔ (on ≡ false)
dark-off on off = ((λ e. off), (λ x. refl))

lit-off : (r : Answer) (on : Bool) → r ≢ Err Off → IsTrue on → (r ≡ Err Off) ↔ (on ≡ false)
lit-off r on other lit = ((λ e. absurd (other e)), (λ x. absurd (unlit on x lit)))

dark-busy : (p : Picture) → p.chart.on ≡ false → (◌≡◌ {A = Answer} (Err Off) (Err Busy)) ↔ IsBusy p
dark-busy p off = ((λ e. absurd (off-free e)), (λ x. absurd (unlit p.chart.on off x.0)))

full-busy : (p : Picture) → IsBusy p → (◌≡◌ {A = Answer} (Err Busy) (Err Busy)) ↔ IsBusy p
full-busy p is = ((λ e. is), (λ x. refl))

active-settled : ◌≢◌ {A = Option Slot} (Some Active) (Some Committed)
active-settled e = let no : Some Active ≡ Some Committed = e in cc

-- a slot that is neither vacant nor committed is active
is-active : (s : Option Slot) → s ≢ None → s ≢ Some Vacant → s ≢ Some Committed → s ≡ Some Active
is-active None some free settled = absurd (some refl)
is-active (Some Vacant) some free settled = absurd (free refl)
is-active (Some Committed) some free settled = absurd (settled refl)
is-active (Some Active) some free settled = refl

all-active : (c : Chart) (u : ℕ) → IsSound c → c.fields.version ≡ version_of c.shape → u < 64 → slot c.fields u ≢ Some Vacant → slot c.fields u ≢ Some Committed → slot c.fields u ≡ Some Active
all-active c u sound version low = is-active (slot c.fields u) (Slots.decode (Sound.slots sound) u (slot-low c.shape c.fields.version u version low))

begins-refused : (f : BeginFault) (p : Picture) → BeginsBelow (Err f) p p
begins-refused f p = record { unpowered = λ off. refl; works = works-still p.chart; slot = tt; kept = refl; refused = λ e. refl }

ended : {sram : List ℕ} (p : Picture) (new : Chart) → IsTrue p.chart.on → Headed p.chart new → BeginsBelow (Err Off) p (record p { sram = sram; chart = new })
ended {sram} p new on h = record { unpowered = λ off. absurd (unlit p.chart.on off on); works = works-headed p.chart new on h; slot = tt; kept = refl; refused = λ e. absurd (off-free e) }

opened : {sram : List ℕ} (t : ℕ) (p : Picture) (new : Chart) → IsTrue p.chart.on → Headed p.chart new → new ≡ with_fields p.chart (with_slot t (Some Active) p.chart.fields) → BeginsBelow (Ok t) p (record p { sram = sram; chart = new })
opened {sram} t p new on h is = record {
  unpowered = λ off. absurd (unlit p.chart.on off on);
  works = works-headed p.chart new on h;
  slot = ap (λ (c : Chart). c.fields) is;
  kept = refl;
  refused = λ e. absurd (done-free t e);
}

pub returns-in_default-clause-step : goal.returns-in_default-clause-step
returns-in_default-clause-step g c m stood =
    let old = chart (g.B.Board.state c.self.inside.board) in
    let stands : Stands old m = subst (λ (p : Picture). Stands p.chart m) (sym c.self.view_is) stood in
    (m, (none-closed old m stands.holds (c.in_ok-t.ensures.none c.in_default.is), refl), stood)

pub open_slot-requires-clause-slot : goal.open_slot-requires-clause-slot
open_slot-requires-clause-slot g c = (c.in_ok-t.ensures.low c.in-Some.t c.in-Some.is).0

pub returns-in_err-open_slot-clause-step : goal.returns-in_err-open_slot-clause-step
returns-in_err-open_slot-clause-step g c m stood =
    let old = chart (g.B.Board.state c.self.inside.board) in
    let new = chart (g.B.Board.state c.open_slot.new.board) in
    let stands : Stands old m = subst (λ (p : Picture). Stands p.chart m) (sym c.self.view_is) stood in
    let t = c.in-Some.t in
    let low = c.in_ok-t.ensures.low t c.in-Some.is in
    let p = err_from_is_err_and c.from_residual-in_err-open_slot.result c.from_residual-in_err-open_slot.ensures.1 in
    rw (p.1, p.2) (IsLost-begin 0 0 old new m t stands low.0 low.1 (c.in_ok-t.ensures.lowest t c.in-Some.is) c.open_slot.ensures.same c.in_err-open_slot.ensures.power)

pub returns-clause-step : goal.returns-clause-step
returns-clause-step g c m stood =
    let old = chart (g.B.Board.state c.self.inside.board) in
    let new = chart (g.B.Board.state c.open_slot.new.board) in
    let stands : Stands old m = subst (λ (p : Picture). Stands p.chart m) (sym c.self.view_is) stood in
    let t = c.in-Some.t in
    let low = c.in_ok-t.ensures.low t c.in-Some.is in
    Steps-begin 0 0 old new m t stands low.0 low.1 (c.in_ok-t.ensures.lowest t c.in-Some.is) c.open_slot.ensures.same c.in_ok-open_slot.ensures.fields c.in_ok-open_slot.ensures.power

pub returns-in_err-open_slot-clause-cut : goal.returns-in_err-open_slot-clause-cut
returns-in_err-open_slot-clause-cut g c =
    let old = chart (g.B.Board.state c.self.inside.board) in
    let new = chart (g.B.Board.state c.open_slot.new.board) in
    subst (λ (p : Picture). IsCut p.chart new) c.self.view_is (cause 0 0 old new (SameWords.counted c.open_slot.ensures.same))

pub returns-in_err-open_slot-clause-complete : goal.returns-in_err-open_slot-clause-complete
returns-in_err-open_slot-clause-complete g c calm is =
    let old = chart (g.B.Board.state c.self.inside.board) in
    let new = chart (g.B.Board.state c.open_slot.new.board) in
    undisturbed-on old new (cause 0 0 old new (SameWords.counted c.open_slot.ensures.same)) c.in_err-open_slot.ensures.power (subst (λ (p : Picture). Undisturbed p.chart new) (sym c.self.view_is) calm)

pub returns-in_err-open_slot-clause-busy : goal.returns-in_err-open_slot-clause-busy
returns-in_err-open_slot-clause-busy g c =
    let t = c.in-Some.t in
    let low = c.in_ok-t.ensures.low t c.in-Some.is in
    let vacant : slot c.args.self.now.chart.fields t ≡ Some Vacant = subst (λ (p : Picture). slot p.chart.fields t ≡ Some Vacant) c.self.view_is low.1 in
    let p = err_from_is_err_and c.from_residual-in_err-open_slot.result c.from_residual-in_err-open_slot.ensures.1 in
    let is_off = p.1 ∙ ap (λ (e : BeginFault). Err e) p.2 in
    ((λ is. absurd (off-free (sym is_off ∙ is))), (λ all. absurd (vacant-active (sym vacant ∙ all.1 t low.0))))

pub returns-clause-busy : goal.returns-clause-busy
returns-clause-busy g c =
    let t = c.in-Some.t in
    let low = c.in_ok-t.ensures.low t c.in-Some.is in
    let vacant : slot c.args.self.now.chart.fields t ≡ Some Vacant = subst (λ (p : Picture). slot p.chart.fields t ≡ Some Vacant) c.self.view_is low.1 in
    ((λ is. absurd (done-free t is)), (λ all. absurd (vacant-active (sym vacant ∙ all.1 t low.0))))

pub returns-then-not-powered-clause-off : goal.returns-then-not-powered-clause-off
returns-then-not-powered-clause-off g c = dark-off c.args.self.now.chart.on (subst (λ (p : Picture). p.chart.on ≡ false) c.self.view_is (sym c.if-not-powered.ensures))

pub returns-then-not-powered-clause-cut : goal.returns-then-not-powered-clause-cut
returns-then-not-powered-clause-cut g c = still-cut c.args.self.now.chart

pub returns-then-not-powered-clause-busy : goal.returns-then-not-powered-clause-busy
returns-then-not-powered-clause-busy g c = dark-busy c.args.self.now (subst (λ (p : Picture). p.chart.on ≡ false) c.self.view_is (sym c.if-not-powered.ensures))

pub returns-then-not-powered-clause-complete : goal.returns-then-not-powered-clause-complete
returns-then-not-powered-clause-complete g c = dark-complete c.args.self.now.chart _ (subst (λ (p : Picture). p.chart.on ≡ false) c.self.view_is (sym c.if-not-powered.ensures))

pub returns-then-not-powered-clause-below : goal.returns-then-not-powered-clause-below
returns-then-not-powered-clause-below g c = begins-refused Off c.args.self.now

pub first_vacant-requires-clause-sound : goal.first_vacant-requires-clause-sound
first_vacant-requires-clause-sound g c = c.self.invariant.0.sound

pub first_vacant-requires-clause-version : goal.first_vacant-requires-clause-version
first_vacant-requires-clause-version g c = c.self.invariant.0.version

pub returns-in_err-t-clause-step : goal.returns-in_err-t-clause-step
returns-in_err-t-clause-step g c = absurd (false≢true (sym c.in_err-t.ensures.off ∙ sym c.if-not-powered.ensures))

pub returns-in_err-t-clause-off : goal.returns-in_err-t-clause-off
returns-in_err-t-clause-off g c = absurd (false≢true (sym c.in_err-t.ensures.off ∙ sym c.if-not-powered.ensures))

pub returns-in_err-t-clause-cut : goal.returns-in_err-t-clause-cut
returns-in_err-t-clause-cut g c = absurd (false≢true (sym c.in_err-t.ensures.off ∙ sym c.if-not-powered.ensures))

pub returns-in_err-t-clause-busy : goal.returns-in_err-t-clause-busy
returns-in_err-t-clause-busy g c = absurd (false≢true (sym c.in_err-t.ensures.off ∙ sym c.if-not-powered.ensures))

pub returns-in_err-t-clause-complete : goal.returns-in_err-t-clause-complete
returns-in_err-t-clause-complete g c = absurd (false≢true (sym c.in_err-t.ensures.off ∙ sym c.if-not-powered.ensures))

pub returns-in_err-t-clause-below : goal.returns-in_err-t-clause-below
returns-in_err-t-clause-below g c = absurd (false≢true (sym c.in_err-t.ensures.off ∙ sym c.if-not-powered.ensures))

pub returns-in_default-clause-off : goal.returns-in_default-clause-off
returns-in_default-clause-off g c = lit-off (Err Busy) c.args.self.now.chart.on busy-lit (subst (λ (p : Picture). IsTrue p.chart.on) c.self.view_is (sym c.if-not-powered.ensures))

pub returns-in_default-clause-cut : goal.returns-in_default-clause-cut
returns-in_default-clause-cut g c = still-cut c.args.self.now.chart

pub returns-in_default-clause-busy : goal.returns-in_default-clause-busy
returns-in_default-clause-busy g c =
    let old : Picture = record { chart = chart (g.B.Board.state c.self.inside.board); parts = c.self.inside.parts; owned = c.self.inside.owned; limit = c.self.inside.limit; mark = c.self.inside.mark; sram = (g.B.Board.state c.self.inside.board).sram } in
    let is : IsBusy old = (sym c.if-not-powered.ensures, λ u low. all-active old.chart u c.self.invariant.0.sound c.self.invariant.0.version low (c.in_ok-t.ensures.none c.in_default.is u low) (c.self.invariant.0.settled (sym c.if-not-powered.ensures) u)) in
    full-busy c.args.self.now (subst IsBusy c.self.view_is is)

pub returns-in_default-clause-complete : goal.returns-in_default-clause-complete
returns-in_default-clause-complete g c calm = busy-lit

pub returns-in_default-clause-below : goal.returns-in_default-clause-below
returns-in_default-clause-below g c = begins-refused Busy c.args.self.now

pub open_slot-requires-clause-ready : goal.open_slot-requires-clause-ready
open_slot-requires-clause-ready g c = record { on = sym c.if-not-powered.ensures; sound = c.self.invariant.0.sound; fits = c.self.invariant.0.fits; agrees = c.self.invariant.0.agrees (sym c.if-not-powered.ensures) }

pub open_slot-requires-clause-owners : goal.open_slot-requires-clause-owners
open_slot-requires-clause-owners g c = c.self.invariant.0.owned

pub open_slot-requires-clause-version : goal.open_slot-requires-clause-version
open_slot-requires-clause-version g c = c.self.invariant.0.version

pub open_slot-requires-clause-vacant : goal.open_slot-requires-clause-vacant
open_slot-requires-clause-vacant g c = (c.in_ok-t.ensures.low c.in-Some.t c.in-Some.is).1

pub returns-in_err-open_slot-clause-off : goal.returns-in_err-open_slot-clause-off
returns-in_err-open_slot-clause-off g c =
    let p = err_from_is_err_and c.from_residual-in_err-open_slot.result c.from_residual-in_err-open_slot.ensures.1 in
    let is : c.from_residual-in_err-open_slot.result ≡ Err Off = p.1 ∙ ap (λ (f : BeginFault). Err f) p.2 in
    subst (λ (r : Answer). (r ≡ Err Off) ↔ ((g.B.Board.state c.open_slot.new.board).on ≡ false)) (sym is) (dark-off (g.B.Board.state c.open_slot.new.board).on c.in_err-open_slot.ensures.power)

pub returns-in_err-open_slot-clause-below : goal.returns-in_err-open_slot-clause-below
returns-in_err-open_slot-clause-below g c =
    let p = err_from_is_err_and c.from_residual-in_err-open_slot.result c.from_residual-in_err-open_slot.ensures.1 in
    let is : c.from_residual-in_err-open_slot.result ≡ Err Off = p.1 ∙ ap (λ (f : BeginFault). Err f) p.2 in
    let old : Picture = record { chart = chart (g.B.Board.state c.self.inside.board); parts = c.self.inside.parts; owned = c.self.inside.owned; limit = c.self.inside.limit; mark = c.self.inside.mark; sram = (g.B.Board.state c.self.inside.board).sram } in
    let new = chart (g.B.Board.state c.open_slot.new.board) in
    let now : Picture = record { chart = new; parts = c.self.inside.parts; owned = c.self.inside.owned; limit = c.self.inside.limit; mark = c.self.inside.mark; sram = (g.B.Board.state c.open_slot.new.board).sram } in
    subst (λ (r : Answer). BeginsBelow r c.args.self.now now) (sym is)
    (subst (λ (p : Picture). BeginsBelow (Err Off) p now) c.self.view_is (ended old new (sym c.if-not-powered.ensures) (headed-words old.chart new c.open_slot.ensures.same)))

pub invariant_of-self : goal.invariant_of-self
invariant_of-self g c =
    let old : Picture = record { chart = chart (g.B.Board.state c.self.inside.board); parts = c.self.inside.parts; owned = c.self.inside.owned; limit = c.self.inside.limit; mark = c.self.inside.mark; sram = (g.B.Board.state c.self.inside.board).sram } in
    let new = chart (g.B.Board.state c.open_slot.new.board) in
    let e = c.open_slot.ensures in (
      IsMemory-headed c.self.inside.limit c.self.inside.mark old.chart new old.parts old.parts old.owned old.owned c.self.invariant.0 (headed-words old.chart new e.same) e.steady (record { limit = refl; agree = e.owners }) (λ on. absurd (unlit new.on c.in_err-open_slot.ensures.power on)),
      λ on. absurd {A = IsQuiet new.shape new.fields c.self.inside.limit c.self.inside.parts.reloc.since c.self.inside.quiet} (unlit new.on c.in_err-open_slot.ensures.power on),
      λ on. absurd (unlit new.on c.in_err-open_slot.ensures.power on),
    )

pub invariant_of-self-2 : goal.invariant_of-self-2
invariant_of-self-2 g c =
    let old : Picture = record { chart = chart (g.B.Board.state c.self.inside.board); parts = c.self.inside.parts; owned = c.self.inside.owned; limit = c.self.inside.limit; mark = c.self.inside.mark; sram = (g.B.Board.state c.self.inside.board).sram } in
    let new = chart (g.B.Board.state c.open_slot.new.board) in
    let e = c.open_slot.ensures in (
      IsMemory-headed c.self.inside.limit c.self.inside.mark old.chart new old.parts old.parts old.owned old.owned c.self.invariant.0 (headed-words old.chart new e.same) e.steady (record { limit = refl; agree = e.owners }) (λ on u. settled-set c.in-Some.t u Active old.chart new c.self.invariant.0.sound (c.in_ok-t.ensures.low c.in-Some.t c.in-Some.is).0 active-settled (ap (λ (z : Chart). z.fields.slots) c.in_ok-open_slot.ensures.fields) (c.self.invariant.0.settled (sym c.if-not-powered.ensures) u)),
      λ on. IsQuiet-still old.chart new c.self.inside.parts c.self.inside.parts c.self.inside.limit c.self.inside.quiet (SameWords.shape c.open_slot.ensures.same) (ap (λ (z : Chart). z.fields.wears) c.in_ok-open_slot.ensures.fields) refl (c.self.invariant.1 (sym c.if-not-powered.ensures)),
      λ on. opens-shut c.self.inside.shut_from c.max-self-inside.result c.in-Some.t old.chart new c.self.invariant.0.sound (c.in_ok-t.ensures.low c.in-Some.t c.in-Some.is).0 (ap (λ (z : Chart). z.fields.slots) c.in_ok-open_slot.ensures.fields) (omega (arith, c.max-self-inside.ensures)) (omega (arith, c.max-self-inside.ensures)) (c.self.invariant.2 (sym c.if-not-powered.ensures)),
    )

pub returns-clause-off : goal.returns-clause-off
returns-clause-off g c = lit-off (Ok c.in-Some.t) (g.B.Board.state c.open_slot.new.board).on (done-lit c.in-Some.t) c.in_ok-open_slot.ensures.power

pub returns-clause-cut : goal.returns-clause-cut
returns-clause-cut g c on off low = absurd (unlit (g.B.Board.state c.open_slot.new.board).on off c.in_ok-open_slot.ensures.power)

pub returns-clause-complete : goal.returns-clause-complete
returns-clause-complete g c calm = done-lit c.in-Some.t

pub returns-clause-below : goal.returns-clause-below
returns-clause-below g c =
    let old : Picture = record { chart = chart (g.B.Board.state c.self.inside.board); parts = c.self.inside.parts; owned = c.self.inside.owned; limit = c.self.inside.limit; mark = c.self.inside.mark; sram = (g.B.Board.state c.self.inside.board).sram } in
    let new = chart (g.B.Board.state c.open_slot.new.board) in
    let now : Picture = record { chart = new; parts = c.self.inside.parts; owned = c.self.inside.owned; limit = c.self.inside.limit; mark = c.self.inside.mark; sram = (g.B.Board.state c.open_slot.new.board).sram } in
    subst (λ (p : Picture). BeginsBelow (Ok c.in-Some.t) p now) c.self.view_is (opened c.in-Some.t old new (sym c.if-not-powered.ensures) (headed-words old.chart new c.open_slot.ensures.same) c.in_ok-open_slot.ensures.fields)

pub overflow_add-t : goal.overflow_add-t
overflow_add-t g c = let low = (c.in_ok-t.ensures.low c.in-Some.t c.in-Some.is).0 in omega (arith, low)
