use Rattle.std.proofs.Common.{◌∙◌, Some, ℕ, List, get_or, refl, sym, subst, ap}
use Rattle.std.specs.Prelude.{IsTrue}
use Rattle.envy_base.specs.declared.fields.Slot.TheVariants.{Vacant}
use Rattle.envy_map.specs.Fields.{Chart, chart}
use Rattle.envy_soundness.specs.Same.{SameWords, SameDurable}
use Rattle.envy_soundness.proofs.Composition.{SameDurable-trans, SameDurable-words}
use Rattle.envy_txn.specs.Owners.{AreOwned, Ownership}
use Rattle.envy_table.specs.Hits.{Rests}
use Rattle.envy_txn.specs.Ending.{Restores}
use Rattle.envy_engine.proofs.AgreeLemmas.{Fits-moved}
use Rattle.envy_engine.proofs.EndLemmas.{PartsAgree-restored, Closes-restored, Rows-restored, AreOwned-slot}
use Rattle.envy_engine.proofs.FlushLemmas.{on-ok}
use Rattle.envy_engine.proofs.Leaving.{if_powered}
use Rattle.envy_reloc.proofs.Exits.{none-if, none-power}
use Rattle.envy_engine.proofs.EndAnswers.{KeepsOwners-lost, Steady-lost}
use Rattle.envy_engine.proofs.slots.abort_pages.Goals as goal

pub returns-in_err-restore_all-clause-durable : goal.returns-in_err-restore_all-clause-durable
returns-in_err-restore_all-clause-durable g c = c.restore_all.ensures.durable c.requires.ready.sound

pub returns-clause-durable : goal.returns-clause-durable
returns-clause-durable g c =
    let old = chart (g.B.Board.state c.args.board.now) in
    let mid = chart (g.B.Board.state c.restore_all.new.board) in
    let new = chart (g.B.Board.state c.set_unused_slot.new.board) in
    SameDurable-trans 0 0 0 0 old mid new (c.restore_all.ensures.durable c.requires.ready.sound) (SameDurable-words 0 0 mid new c.set_unused_slot.ensures.same)

pub returns-clause-aborts : goal.returns-clause-aborts
returns-clause-aborts g c =
    let old = chart (g.B.Board.state c.args.board.now) in
    let mid = chart (g.B.Board.state c.restore_all.new.board) in
    let new = chart (g.B.Board.state c.set_unused_slot.new.board) in
    let same = c.set_unused_slot.ensures.same in
    let o = c.in_ok-restore_all.ensures in
    let res = o.restores.restores in
    on-ok c.set_unused_slot.result _ _
    (λ fields. record {
      takes = record {
        own = λ a named. ap (λ (ws : List ℕ). get_or ws a 0) (SameWords.live same) ∙ Restores.own_words res a named;
        others = λ a free. ap (λ (ws : List ℕ). get_or ws a 0) (SameWords.live same) ∙ Restores.other_words res a free;
      };
      ends = record { closes = Closes-restored old mid new c.args.t res fields; rows = Rows-restored old mid new c.args.t res fields; pairs = o.restores.pairs };
      held = o.restores.left;
    })
    c.set_unused_slot.ensures.fields

pub returns-clause-owners : goal.returns-clause-owners
returns-clause-owners g c =
    let mid = chart (g.B.Board.state c.restore_all.new.board) in
    let new = chart (g.B.Board.state c.set_unused_slot.new.board) in
    let e = c.set_unused_slot.ensures in
    record {
      limit = ap (λ (o : Ownership). o.limit) c.in_ok-restore_all.ensures.restores.pairs;
      agree = λ on.
          let moved = if_powered c.set_unused_slot.result new.on _ e.fields e.power on in
          let was : IsTrue mid.on = ap (λ (z : Chart). z.on) (sym moved) ∙ on in
          subst (λ (z : Chart). AreOwned z.fields.slots z.fields.undos c.restore_all.new.self.pairs) (sym moved) (AreOwned-slot mid.fields.slots mid.fields.undos c.restore_all.new.self.pairs c.args.t (Some Vacant) c.in_ok-restore_all.ensures.restores.unused (c.restore_all.ensures.agrees was).owners.owned);
    }

pub returns-clause-steady : goal.returns-clause-steady
returns-clause-steady g c =
    let old = chart (g.B.Board.state c.args.board.now) in
    let mid = chart (g.B.Board.state c.restore_all.new.board) in
    let new = chart (g.B.Board.state c.set_unused_slot.new.board) in
    let r = c.requires.ready in
    let e = c.set_unused_slot.ensures in
    let a = c.restore_all.ensures in
    let o = c.in_ok-restore_all.ensures in
    let shape = SameWords.shape e.same ∙ SameDurable.shape (a.durable r.sound) in
    record {
      fits = Fits-moved old.shape new.shape c.args.parts.now _ shape r.fits a.sizes.0 a.sizes.1 (Rests.size a.rests) refl refl;
      agrees = λ on. let moved = if_powered c.set_unused_slot.result new.on _ e.fields e.power on in let was : IsTrue mid.on = ap (λ (z : Chart). z.on) (sym moved) ∙ on in PartsAgree-restored old mid new c.args.parts.now _ c.args.t r.agrees o.restores.restores o.restores.unused (a.agrees was).owners.pool (a.agrees was).held (a.agrees was).current (a.agrees was).owners.parted moved refl;
    }

pub returns-clause-power : goal.returns-clause-power
returns-clause-power g c = c.set_unused_slot.ensures.power

pub restore_all-requires-clause-slot : goal.restore_all-requires-clause-slot
restore_all-requires-clause-slot g c = c.requires.slot

pub restore_all-requires-clause-owned : goal.restore_all-requires-clause-owned
restore_all-requires-clause-owned g c = c.requires.owners

pub restore_all-requires-clause-shape : goal.restore_all-requires-clause-shape
restore_all-requires-clause-shape g c = c.requires.ready.fits.pool

pub returns-in_err-restore_all-clause-aborts : goal.returns-in_err-restore_all-clause-aborts
returns-in_err-restore_all-clause-aborts g c = none-if c.from_residual.result _ _ c.from_residual.ensures.1

pub returns-in_err-restore_all-clause-owners : goal.returns-in_err-restore_all-clause-owners
returns-in_err-restore_all-clause-owners g c = KeepsOwners-lost (chart (g.B.Board.state c.restore_all.new.board)) c.args.owned.now c.restore_all.new.self c.in_err-restore_all.ensures.power c.in_err-restore_all.ensures.unchanged

pub returns-in_err-restore_all-clause-rests : goal.returns-in_err-restore_all-clause-rests
returns-in_err-restore_all-clause-rests g c = c.restore_all.ensures.rests

pub returns-in_err-restore_all-clause-steady : goal.returns-in_err-restore_all-clause-steady
returns-in_err-restore_all-clause-steady g c =
    let old = chart (g.B.Board.state c.args.board.now) in
    let new = chart (g.B.Board.state c.restore_all.new.board) in
    let r = c.requires.ready in
    let e = c.restore_all.ensures in
    Steady-lost old new c.args.parts.now _ (SameDurable.shape (e.durable r.sound)) c.in_err-restore_all.ensures.power r.fits e.sizes.0 e.sizes.1 (Rests.size e.rests) refl refl

pub returns-in_err-restore_all-clause-parts : goal.returns-in_err-restore_all-clause-parts
returns-in_err-restore_all-clause-parts g c = refl

pub returns-in_err-restore_all-clause-power : goal.returns-in_err-restore_all-clause-power
returns-in_err-restore_all-clause-power g c = none-power c.from_residual.result _ (g.B.Board.state c.restore_all.new.board).on c.in_err-restore_all.ensures.power c.from_residual.ensures.1

pub set_unused_slot-requires-clause-sound : goal.set_unused_slot-requires-clause-sound
set_unused_slot-requires-clause-sound g c = SameDurable.sound (c.restore_all.ensures.durable c.requires.ready.sound)

pub set_unused_slot-requires-clause-slot : goal.set_unused_slot-requires-clause-slot
set_unused_slot-requires-clause-slot g c = c.requires.slot

pub set_unused_slot-requires-clause-unused : goal.set_unused_slot-requires-clause-unused
set_unused_slot-requires-clause-unused g c on = c.in_ok-restore_all.ensures.restores.unused

pub returns-clause-rests : goal.returns-clause-rests
returns-clause-rests g c = c.restore_all.ensures.rests

pub returns-clause-parts : goal.returns-clause-parts
returns-clause-parts g c = refl

pub restore_all-requires-clause-restoring : goal.restore_all-requires-clause-restoring
restore_all-requires-clause-restoring g c on =
    let r = c.requires.ready in
    let a = r.agrees in
    record { on = on; sound = r.sound; active = c.requires.active; agrees = a.pool; are_held = a.held; current = a.current; parted = a.two }
