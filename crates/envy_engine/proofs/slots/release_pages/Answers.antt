use Rattle.std.proofs.Common.{◌∙◌, Some, refl, sym, subst, ap}
use Rattle.std.specs.Prelude.{IsTrue}
use Rattle.envy_base.specs.declared.fields.Slot.TheVariants.{Vacant}
use Rattle.envy_map.specs.Fields.{Chart, chart}
use Rattle.envy_soundness.specs.Same.{SameWords}
use Rattle.envy_soundness.proofs.Composition.{SameWords-trans}
use Rattle.envy_txn.specs.Owners.{AreOwned, Ownership}
use Rattle.envy_engine.proofs.AgreeLemmas.{Fits-moved}
use Rattle.envy_engine.proofs.EndLemmas.{PartsAgree-released, Closes-released, Rows-released, AreOwned-slot}
use Rattle.envy_engine.proofs.FlushLemmas.{on-ok}
use Rattle.envy_engine.proofs.Leaving.{if_powered}
use Rattle.envy_reloc.proofs.Exits.{none-if, none-power}
use Rattle.envy_engine.proofs.EndAnswers.{KeepsOwners-lost, Steady-lost}
use Rattle.envy_engine.proofs.slots.release_pages.Goals as goal

pub returns-clause-same : goal.returns-clause-same
returns-clause-same g c =
    let old = chart (g.B.Board.state c.args.board.now) in
    let mid = chart (g.B.Board.state c.release_all.new.board) in
    let new = chart (g.B.Board.state c.set_unused_slot.new.board) in
    SameWords-trans 0 0 0 0 old mid new (c.release_all.ensures.same c.requires.releasing.sound) c.set_unused_slot.ensures.same

pub returns-clause-ends : goal.returns-clause-ends
returns-clause-ends g c =
    let old = chart (g.B.Board.state c.args.board.now) in
    let mid = chart (g.B.Board.state c.release_all.new.board) in
    let new = chart (g.B.Board.state c.set_unused_slot.new.board) in
    on-ok c.set_unused_slot.result _ _ (λ fields. let r = c.in_ok-release_all.ensures in record { closes = Closes-released old mid new c.args.t r.releases.releases fields; rows = Rows-released old mid new c.args.t r.releases.releases fields; pairs = r.releases.pairs }) c.set_unused_slot.ensures.fields

pub returns-clause-steady : goal.returns-clause-steady
returns-clause-steady g c =
    let old = chart (g.B.Board.state c.args.board.now) in
    let mid = chart (g.B.Board.state c.release_all.new.board) in
    let new = chart (g.B.Board.state c.set_unused_slot.new.board) in
    let r = c.requires.releasing in
    let e = c.set_unused_slot.ensures in
    let a = c.release_all.ensures in
    let o = c.in_ok-release_all.ensures in
    let shape = SameWords.shape e.same ∙ SameWords.shape (a.same r.sound) in
    record {
      fits = Fits-moved old.shape new.shape c.args.parts.now _ shape r.fits a.shape refl refl refl refl;
      agrees = λ on. let moved = if_powered c.set_unused_slot.result new.on _ e.fields e.power on in let was : IsTrue mid.on = ap (λ (z : Chart). z.on) (sym moved) ∙ on in PartsAgree-released old mid new c.args.parts.now _ c.args.t r.agrees o.releases.releases o.releases.unused (a.agrees was).pool (a.agrees was).parted moved refl;
    }

pub returns-clause-owners : goal.returns-clause-owners
returns-clause-owners g c =
    let mid = chart (g.B.Board.state c.release_all.new.board) in
    let new = chart (g.B.Board.state c.set_unused_slot.new.board) in
    let e = c.set_unused_slot.ensures in
    record {
      limit = ap (λ (o : Ownership). o.limit) c.in_ok-release_all.ensures.releases.pairs;
      agree = λ on.
          let moved = if_powered c.set_unused_slot.result new.on _ e.fields e.power on in
          let was : IsTrue mid.on = ap (λ (z : Chart). z.on) (sym moved) ∙ on in
          subst (λ (z : Chart). AreOwned z.fields.slots z.fields.undos c.release_all.new.self.pairs) (sym moved) (AreOwned-slot mid.fields.slots mid.fields.undos c.release_all.new.self.pairs c.args.t (Some Vacant) c.in_ok-release_all.ensures.releases.unused (c.release_all.ensures.agrees was).owned);
    }

pub returns-in_err-release_all-clause-same : goal.returns-in_err-release_all-clause-same
returns-in_err-release_all-clause-same g c = c.release_all.ensures.same c.requires.releasing.sound

pub returns-clause-power : goal.returns-clause-power
returns-clause-power g c = c.set_unused_slot.ensures.power

pub release_all-requires-clause-slot : goal.release_all-requires-clause-slot
release_all-requires-clause-slot g c = c.requires.releasing.low

pub release_all-requires-clause-owned : goal.release_all-requires-clause-owned
release_all-requires-clause-owned g c on = c.requires.releasing.owned

pub release_all-requires-clause-shape : goal.release_all-requires-clause-shape
release_all-requires-clause-shape g c = c.requires.releasing.fits.pool

pub returns-in_err-release_all-clause-ends : goal.returns-in_err-release_all-clause-ends
returns-in_err-release_all-clause-ends g c = none-if c.from_residual.result _ _ c.from_residual.ensures.1

pub returns-in_err-release_all-clause-owners : goal.returns-in_err-release_all-clause-owners
returns-in_err-release_all-clause-owners g c = KeepsOwners-lost (chart (g.B.Board.state c.release_all.new.board)) c.args.owned.now c.release_all.new.self c.in_err-release_all.ensures.power c.in_err-release_all.ensures.unchanged

pub returns-in_err-release_all-clause-steady : goal.returns-in_err-release_all-clause-steady
returns-in_err-release_all-clause-steady g c =
    let old = chart (g.B.Board.state c.args.board.now) in
    let new = chart (g.B.Board.state c.release_all.new.board) in
    let r = c.requires.releasing in
    let e = c.release_all.ensures in
    Steady-lost old new c.args.parts.now _ (SameWords.shape (e.same r.sound)) c.in_err-release_all.ensures.power r.fits e.shape refl refl refl refl

pub returns-in_err-release_all-clause-parts : goal.returns-in_err-release_all-clause-parts
returns-in_err-release_all-clause-parts g c = refl

pub returns-in_err-release_all-clause-power : goal.returns-in_err-release_all-clause-power
returns-in_err-release_all-clause-power g c = none-power c.from_residual.result _ (g.B.Board.state c.release_all.new.board).on c.in_err-release_all.ensures.power c.from_residual.ensures.1

pub set_unused_slot-requires-clause-sound : goal.set_unused_slot-requires-clause-sound
set_unused_slot-requires-clause-sound g c = SameWords.sound (c.release_all.ensures.same c.requires.releasing.sound)

pub set_unused_slot-requires-clause-slot : goal.set_unused_slot-requires-clause-slot
set_unused_slot-requires-clause-slot g c = c.requires.releasing.low

pub set_unused_slot-requires-clause-unused : goal.set_unused_slot-requires-clause-unused
set_unused_slot-requires-clause-unused g c on = c.in_ok-release_all.ensures.releases.unused

pub returns-clause-parts : goal.returns-clause-parts
returns-clause-parts g c = refl

pub release_all-requires-clause-releasing : goal.release_all-requires-clause-releasing
release_all-requires-clause-releasing g c on =
    let r = c.requires.releasing in
    let a = r.agrees in
    record { on = on; sound = r.sound; low = r.low; committed = r.committed; agrees = a.pool; parted = a.two }
