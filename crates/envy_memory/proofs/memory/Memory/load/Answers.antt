use Rattle.std.proofs.Common.{Bool, ◌≡◌, ℕ, ◌*◌, ◌/◌, ◌<◌, ◌≤◌, false, length, Some, Ok, Err, refl, sym, subst, ap, ◌∙◌, arith}
use Rattle.std.specs.Prelude.{IsTrue, Result, ◌↔◌}
use Rattle.std.proofs.lemmas.Bool.{false≢true}
use Rattle.envy_base.specs.declared.shape.Shape.{Shape}
use Rattle.envy_base.specs.State.{State, IsBoard}
use Rattle.envy_base.specs.declared.fields.Place.{Place}
use Rattle.envy_base.specs.declared.fields.Place.TheVariants.{Absent, Row, Frame}
use Rattle.envy_map.specs.Fields.{Chart, chart, place}
use Rattle.envy_soundness.specs.Sound.{Sound, Places, IsSound}
use Rattle.envy_engine.specs.Pages.{InRange}
use Rattle.envy_meaning.specs.Stands.{Stands}
use Rattle.envy_table.specs.Agreement.{AreCurrent}
use Rattle.envy_table.specs.Entries.{Translations}
use Rattle.envy_txn.specs.Owners.{Ownership}
use Rattle.envy_engine.specs.Agreement.{Agrees}
use Rattle.envy_engine.specs.declared.parts.Parts.{Parts}
use Rattle.envy_memory.specs.Below.{LoadsBelow, IsPast}
use Rattle.envy_memory.specs.Picture.{Picture, IsMemory}
use Rattle.envy_memory.specs.declared.faults.LoadFault.{LoadFault}
use Rattle.envy_memory.specs.declared.faults.LoadFault.TheVariants.{Off, Range}
use Rattle.envy_memory.proofs.EndAnswers.{unlit}
use Rattle.envy_memory.proofs.PutAnswers.{past-of, inside-of}
use Rattle.envy_memory.proofs.Standing.{beyond, inside, word-stands}
use Rattle.envy_memory.proofs.memory.Memory.load.Goals as goal

abbrev Answer : Type 0
Answer = Result ℕ LoadFault

dark-off : (on : Bool) → on ≡ false → (◌≡◌ {A = Answer} (Err Off) (Err Off)) ↔ (on ≡ false)
dark-off on off = ((λ e. off), (λ x. refl))

past-off : (on : Bool) → IsTrue on → (◌≡◌ {A = Answer} (Err Range) (Err Off)) ↔ (on ≡ false)
past-off on lit = ((λ e. absurd (let no : Err Range ≡ Err Off = e in cc)), (λ x. absurd (unlit on x lit)))

read-off : (w : ℕ) (on : Bool) → IsTrue on → (◌≡◌ {A = Answer} (Ok w) (Err Off)) ↔ (on ≡ false)
read-off w on lit = ((λ e. absurd (let no : Ok w ≡ Err Off = e in cc)), (λ x. absurd (unlit on x lit)))

dark-range : (a : ℕ) (p : Picture) → p.chart.on ≡ false → (◌≡◌ {A = Answer} (Err Off) (Err Range)) ↔ IsPast a p
dark-range a p off = ((λ e. absurd (let no : Err Off ≡ Err Range = e in cc)), (λ x. absurd (unlit p.chart.on off x.0)))

past-range : (a : ℕ) (p : Picture) → IsPast a p → (◌≡◌ {A = Answer} (Err Range) (Err Range)) ↔ IsPast a p
past-range a p is = ((λ e. is), (λ x. refl))

read-range : (a w : ℕ) (p : Picture) → a < 32 * p.chart.shape.pages → (◌≡◌ {A = Answer} (Ok w) (Err Range)) ↔ IsPast a p
read-range a w p lt = ((λ e. absurd (let no : Ok w ≡ Err Range = e in cc)), (λ x. absurd (never a (32 * p.chart.shape.pages) x.1 lt)))
  where
    never : (a n : ℕ) → n ≤ a → a < n → ⊥
    never a n le lt = omega arith

refused : (a : ℕ) (f : LoadFault) (p : Picture) → LoadsBelow a (Err f) p p
refused a f p = record { visits = refl; kept = refl }

-- what a page is read from is on the board
in-range : (s : State) (p : ℕ) (x : Place) → IsBoard s → IsSound (chart s) → place (chart s).fields p ≡ Some x → InRange s x
in-range s p Absent board sound is = tt
in-range s p (Row q) board sound is = rw (IsBoard.rows board) (Places.rows (Sound.places sound) p q is)
in-range s p (Frame k) board sound is = Places.frames (Sound.places sound) p k is

-- a memory whose cache has counted an access
IsMemory-cache : (limit mark : ℕ) (c : Chart) (x : Parts) (o : Ownership) (y : Translations) → IsMemory c x o limit mark → length y.entries ≡ length x.cache.entries
    → (IsTrue c.on → AreCurrent c.shape.pages c.fields.places y.entries) → IsMemory c (record x { cache = y }) o limit mark
IsMemory-cache limit mark c x o y m size current =
    let f = m.fits in
    record {
      magic = m.magic;
      version = m.version;
      sound = m.sound;
      fits = record { pool = f.pool; frames = f.frames; entries = size ∙ f.entries; positions = f.positions; pages = f.pages; stages = f.stages };
      shadows = m.shadows;
      some = m.some;
      some_limit = m.some_limit;
      agrees = λ on. let a = m.agrees on in record { pool = Agrees.pool a; held = Agrees.held a; current = current on; job = Agrees.job a; two = Agrees.two a };
      owned = m.owned;
      settled = m.settled;
    }

pub returns-then-a-shape-clause-step : goal.returns-then-a-shape-clause-step
returns-then-a-shape-clause-step g c m stood =
    let stands : Stands (chart (g.B.Board.state c.self.inside.board)) m = subst (λ (p : Picture). Stands p.chart m) (sym c.self.view_is) stood in
    let pages = ap (λ (sh : Shape). sh.pages) c.shape.ensures in
    (m, (beyond _ m c.args.a stands (omega arith), refl), stood)

pub returns-clause-step : goal.returns-clause-step
returns-clause-step g c m stood =
    let stands : Stands (chart (g.B.Board.state c.self.inside.board)) m = subst (λ (p : Picture). Stands p.chart m) (sym c.self.view_is) stood in
    let pages = ap (λ (sh : Shape). sh.pages) c.shape.ensures in
    (m, (inside _ m c.args.a stands (omega arith), c.in_ok-word.ensures ∙ sym (word-stands _ m c.args.a c.in_ok-from.from stands (omega arith) c.in_ok-from.ensures.place.1), refl), stands)

pub returns-then-not-powered-clause-off : goal.returns-then-not-powered-clause-off
returns-then-not-powered-clause-off g c = dark-off c.args.self.now.chart.on (subst (λ (p : Picture). p.chart.on ≡ false) c.self.view_is (sym c.if-not-powered.ensures))

pub returns-then-not-powered-clause-range : goal.returns-then-not-powered-clause-range
returns-then-not-powered-clause-range g c = dark-range c.args.a c.args.self.now (subst (λ (p : Picture). p.chart.on ≡ false) c.self.view_is (sym c.if-not-powered.ensures))

pub returns-then-not-powered-clause-below : goal.returns-then-not-powered-clause-below
returns-then-not-powered-clause-below g c = refused c.args.a Off c.args.self.now

pub returns-then-a-shape-clause-off : goal.returns-then-a-shape-clause-off
returns-then-a-shape-clause-off g c = past-off c.args.self.now.chart.on (subst (λ (p : Picture). IsTrue p.chart.on) c.self.view_is (sym c.if-not-powered.ensures))

pub returns-then-a-shape-clause-range : goal.returns-then-a-shape-clause-range
returns-then-a-shape-clause-range g c =
    let pages = ap (λ (sh : Shape). sh.pages) c.shape.ensures in
    let old : Picture = record { chart = chart (g.B.Board.state c.self.inside.board); parts = c.self.inside.parts; owned = c.self.inside.owned; limit = c.self.inside.limit; mark = c.self.inside.mark; sram = (g.B.Board.state c.self.inside.board).sram } in
    let is : IsPast c.args.a old = (sym c.if-not-powered.ensures, past-of c.args.a c.shape.result.pages old.chart.shape.pages pages c.if-a-shape.true) in
    past-range c.args.a c.args.self.now (subst (λ (p : Picture). IsPast c.args.a p) c.self.view_is is)

pub returns-then-a-shape-clause-below : goal.returns-then-a-shape-clause-below
returns-then-a-shape-clause-below g c = refused c.args.a Range c.args.self.now

pub translate-requires-clause-page : goal.translate-requires-clause-page
translate-requires-clause-page g c =
    let pages = ap (λ (sh : Shape). sh.pages) c.shape.ensures in
    subst (λ (n : ℕ). c.args.a / 32 < n) pages c.if-a-shape.false

pub translate-requires-clause-sound : goal.translate-requires-clause-sound
translate-requires-clause-sound g c on = c.self.invariant.0.sound

pub translate-requires-clause-agrees : goal.translate-requires-clause-agrees
translate-requires-clause-agrees g c on = Agrees.current (c.self.invariant.0.agrees on)

pub invariant_of-self : goal.invariant_of-self
invariant_of-self g c = absurd (false≢true (sym c.in_err-from.ensures.place ∙ sym c.if-not-powered.ensures))

pub returns-in_err-from-clause-step : goal.returns-in_err-from-clause-step
returns-in_err-from-clause-step g c = absurd (false≢true (sym c.in_err-from.ensures.place ∙ sym c.if-not-powered.ensures))

pub returns-in_err-from-clause-off : goal.returns-in_err-from-clause-off
returns-in_err-from-clause-off g c = absurd (false≢true (sym c.in_err-from.ensures.place ∙ sym c.if-not-powered.ensures))

pub returns-in_err-from-clause-range : goal.returns-in_err-from-clause-range
returns-in_err-from-clause-range g c = absurd (false≢true (sym c.in_err-from.ensures.place ∙ sym c.if-not-powered.ensures))

pub returns-in_err-from-clause-below : goal.returns-in_err-from-clause-below
returns-in_err-from-clause-below g c = absurd (false≢true (sym c.in_err-from.ensures.place ∙ sym c.if-not-powered.ensures))

pub invariant_of-self-in_err-word : goal.invariant_of-self-in_err-word
invariant_of-self-in_err-word g c = absurd (false≢true (sym c.in_err-word.ensures ∙ sym c.if-not-powered.ensures))

pub returns-in_err-word-clause-step : goal.returns-in_err-word-clause-step
returns-in_err-word-clause-step g c = absurd (false≢true (sym c.in_err-word.ensures ∙ sym c.if-not-powered.ensures))

pub returns-in_err-word-clause-off : goal.returns-in_err-word-clause-off
returns-in_err-word-clause-off g c = absurd (false≢true (sym c.in_err-word.ensures ∙ sym c.if-not-powered.ensures))

pub returns-in_err-word-clause-range : goal.returns-in_err-word-clause-range
returns-in_err-word-clause-range g c = absurd (false≢true (sym c.in_err-word.ensures ∙ sym c.if-not-powered.ensures))

pub returns-in_err-word-clause-below : goal.returns-in_err-word-clause-below
returns-in_err-word-clause-below g c = absurd (false≢true (sym c.in_err-word.ensures ∙ sym c.if-not-powered.ensures))

pub invariant_of-self-2 : goal.invariant_of-self-2
invariant_of-self-2 g c =
    let old = chart (g.B.Board.state c.self.inside.board) in (
      IsMemory-cache c.self.inside.limit c.self.inside.mark old c.self.inside.parts c.self.inside.owned c.translate.new.self c.self.invariant.0 c.in_ok-from.ensures.size c.in_ok-from.ensures.agrees,
      c.self.invariant.1,
      c.self.invariant.2,
    )

pub returns-clause-off : goal.returns-clause-off
returns-clause-off g c = read-off c.in_ok-word.field-0 (g.B.Board.state c.self.inside.board).on (sym c.if-not-powered.ensures)

pub returns-clause-range : goal.returns-clause-range
returns-clause-range g c =
    let pages = ap (λ (sh : Shape). sh.pages) c.shape.ensures in
    let old : Picture = record { chart = chart (g.B.Board.state c.self.inside.board); parts = c.self.inside.parts; owned = c.self.inside.owned; limit = c.self.inside.limit; mark = c.self.inside.mark; sram = (g.B.Board.state c.self.inside.board).sram } in
    subst (λ (p : Picture). (◌≡◌ {A = Answer} (Ok c.in_ok-word.field-0) (Err Range)) ↔ IsPast c.args.a p) c.self.view_is
    (read-range c.args.a c.in_ok-word.field-0 old (inside-of c.args.a c.shape.result.pages old.chart.shape.pages pages c.if-a-shape.false))

pub returns-clause-below : goal.returns-clause-below
returns-clause-below g c =
    let now : Picture = record { chart = chart (g.B.Board.state c.self.inside.board); parts = record c.self.inside.parts { cache = c.translate.new.self }; owned = c.self.inside.owned; limit = c.self.inside.limit; mark = c.self.inside.mark; sram = (g.B.Board.state c.self.inside.board).sram } in
    subst (λ (p : Picture). LoadsBelow c.args.a (Ok c.in_ok-word.field-0) p now) c.self.view_is (record { visits = c.in_ok-from.ensures.accesses; kept = refl })

pub returns-then-not-powered-clause-step : goal.returns-then-not-powered-clause-step
returns-then-not-powered-clause-step g c m stood = unlit c.args.self.now.chart.on (subst (λ (p : Picture). p.chart.on ≡ false) c.self.view_is (sym c.if-not-powered.ensures)) (Stands.on stood)

pub word-requires-clause-range : goal.word-requires-clause-range
word-requires-clause-range g c =
    in-range (g.B.Board.state c.self.inside.board) (c.args.a / 32) c.in_ok-from.from (g.met.B.Board.lawful c.self.inside.board) c.self.invariant.0.sound c.in_ok-from.ensures.place.1
