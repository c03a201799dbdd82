use Rattle.std.proofs.Common.{Some, sym, subst}
use Rattle.envy_base.specs.declared.fields.Slot.TheVariants.{Active}
use Rattle.envy_map.specs.Fields.{Chart, chart}
use Rattle.envy_soundness.specs.Same.{SameWords}
use Rattle.envy_txn.specs.Owners.{AreOwned}
use Rattle.envy_engine.specs.Agreement.{Fits, PartsAgree}
use Rattle.envy_base.specs.declared.shape.Shape.{Shape}
use Rattle.envy_engine.proofs.EndLemmas.{Agrees-slot, AreOwned-slot, unused-vacant}
use Rattle.envy_engine.proofs.Leaving.{if_powered}
use Rattle.envy_engine.proofs.slots.open_slot.Goals as goal

pub set_unused_slot-requires-clause-unused : goal.set_unused_slot-requires-clause-unused
set_unused_slot-requires-clause-unused g c on = unused-vacant (chart (g.B.Board.state c.args.board.now)) c.args.t c.requires.ready.sound c.requires.vacant

pub returns-clause-steady : goal.returns-clause-steady
returns-clause-steady g c =
    let old = chart (g.B.Board.state c.args.board.now) in
    let new = chart (g.B.Board.state c.set_unused_slot.new.board) in
    let r = c.requires.ready in
    let e = c.set_unused_slot.ensures in
    let unused = unused-vacant old c.args.t r.sound c.requires.vacant in
    record {
      fits = subst (λ (sh : Shape). Fits sh c.args.parts.now) (sym (SameWords.shape e.same)) r.fits;
      agrees = λ on. subst (λ (z : Chart). PartsAgree z c.args.parts.now) (sym (if_powered c.set_unused_slot.result new.on _ e.fields e.power on)) (Agrees-slot old.shape old.fields old.flash c.args.parts.now c.args.t (Some Active) unused r.agrees);
    }

pub returns-clause-owners : goal.returns-clause-owners
returns-clause-owners g c on =
    let old = chart (g.B.Board.state c.args.board.now) in
    let new = chart (g.B.Board.state c.set_unused_slot.new.board) in
    let r = c.requires.ready in
    let e = c.set_unused_slot.ensures in
    let unused = unused-vacant old c.args.t r.sound c.requires.vacant in
    subst (λ (z : Chart). AreOwned z.fields.slots z.fields.undos c.args.owned.now.pairs) (sym (if_powered c.set_unused_slot.result new.on _ e.fields e.power on)) (AreOwned-slot old.fields.slots old.fields.undos c.args.owned.now.pairs c.args.t (Some Active) unused (c.requires.owners r.on))

pub returns-clause-power : goal.returns-clause-power
returns-clause-power g c = c.set_unused_slot.ensures.power
