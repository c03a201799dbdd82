use Rattle.std.proofs.Common.{◌≡◌, ℕ, true, refl, sym, ◌∙◌, subst}
use Rattle.envy_map.specs.Fields.{chart}
use Rattle.envy_soundness.specs.Same.{SameDurable}
use Rattle.envy_soundness.specs.Sound.{slots_of}
use Rattle.envy_soundness.proofs.Composition.{SameDurable-refl, SameDurable-trans, SameDurable-words}
use Rattle.envy_txn.specs.Turns.{VacatedTo}
use Rattle.envy_txn.proofs.SettleLemmas.{settled-clear, Settles-all}
use Rattle.envy_txn.proofs.WayLemmas.{none-done, off-of, unlit}
use Rattle.envy_txn.proofs.settlement.settle.Goals as goal

pub returns-clause-settles : goal.returns-clause-settles
returns-clause-settles g c =
    let old = chart (g.B.Board.state c.args.board.now) in
    let lit : old.on ≡ true = sym c.powered.ensures ∙ c.if-not-powered.false in
    let pages = c.in_ok-settle_pages.ensures in
    let slots = c.in_ok-vacate_slots.ensures in
    let vacated : VacatedTo (slots_of old.fields.version) (chart (g.B.Board.state c.settle_pages.new.board)) (chart (g.B.Board.state c.vacate_slots.new.board)) =
    subst (λ (n : ℕ). VacatedTo (slots_of n) (chart (g.B.Board.state c.settle_pages.new.board)) (chart (g.B.Board.state c.vacate_slots.new.board))) (SameDurable.version pages.durable) slots.vacated in
    Settles-all old (chart (g.B.Board.state c.settle_pages.new.board)) (chart (g.B.Board.state c.vacate_slots.new.board)) (c.requires.sound lit) (SameDurable.sound pages.durable) pages.settled vacated slots.same

pub returns-then-not-powered : goal.returns-then-not-powered
returns-then-not-powered g c =
    let old = chart (g.B.Board.state c.args.board.now) in
    record {
      durable = λ sound. SameDurable-refl old sound;
      idle = λ off. refl;
      settles = tt;
      power = sym c.if-not-powered.ensures;
    }

pub settle_pages-requires-clause-on : goal.settle_pages-requires-clause-on
settle_pages-requires-clause-on g c = sym c.powered.ensures ∙ c.if-not-powered.false

pub settle_pages-requires-clause-sound : goal.settle_pages-requires-clause-sound
settle_pages-requires-clause-sound g c = c.requires.sound (sym c.powered.ensures ∙ c.if-not-powered.false)

pub returns-in_err-settle_pages : goal.returns-in_err-settle_pages
returns-in_err-settle_pages g c =
    let old = chart (g.B.Board.state c.args.board.now) in
    let e = c.in_err-settle_pages.ensures in
    let result = c.from_residual.result in
    let left = c.from_residual.ensures.1 in
    record {
      durable = λ sound. e.durable;
      idle = λ off. unlit old.on off (sym c.powered.ensures ∙ c.if-not-powered.false);
      settles = none-done result _ _ left;
      power = off-of result _ (g.B.Board.state c.settle_pages.new.board).on e.power left;
    }

pub vacate_slots-requires-clause-on : goal.vacate_slots-requires-clause-on
vacate_slots-requires-clause-on g c = c.in_ok-settle_pages.ensures.power

pub vacate_slots-requires-clause-sound : goal.vacate_slots-requires-clause-sound
vacate_slots-requires-clause-sound g c = SameDurable.sound c.in_ok-settle_pages.ensures.durable

pub vacate_slots-requires-clause-clear : goal.vacate_slots-requires-clause-clear
vacate_slots-requires-clause-clear g c =
    settled-clear (chart (g.B.Board.state c.args.board.now)) (chart (g.B.Board.state c.settle_pages.new.board)) c.in_ok-settle_pages.ensures.settled

pub returns-in_err-vacate_slots : goal.returns-in_err-vacate_slots
returns-in_err-vacate_slots g c =
    let old = chart (g.B.Board.state c.args.board.now) in
    let mid = chart (g.B.Board.state c.settle_pages.new.board) in
    let new = chart (g.B.Board.state c.vacate_slots.new.board) in
    let e = c.in_err-vacate_slots.ensures in
    let result = c.from_residual-in_err-vacate_slots.result in
    let left = c.from_residual-in_err-vacate_slots.ensures.1 in
    record {
      durable = λ sound. SameDurable-trans 0 0 0 0 old mid new c.in_ok-settle_pages.ensures.durable (SameDurable-words 0 0 mid new e.same);
      idle = λ off. unlit old.on off (sym c.powered.ensures ∙ c.if-not-powered.false);
      settles = none-done result _ _ left;
      power = off-of result _ new.on e.power left;
    }

pub returns-clause-durable : goal.returns-clause-durable
returns-clause-durable g c sound =
    let mid = chart (g.B.Board.state c.settle_pages.new.board) in
    let new = chart (g.B.Board.state c.vacate_slots.new.board) in
    SameDurable-trans 0 0 0 0 (chart (g.B.Board.state c.args.board.now)) mid new c.in_ok-settle_pages.ensures.durable (SameDurable-words 0 0 mid new c.in_ok-vacate_slots.ensures.same)

pub returns-clause-idle : goal.returns-clause-idle
returns-clause-idle g c off = unlit (g.B.Board.state c.args.board.now).on off (sym c.powered.ensures ∙ c.if-not-powered.false)

pub returns-clause-power : goal.returns-clause-power
returns-clause-power g c = c.in_ok-vacate_slots.ensures.power
