use Rattle.std.proofs.Common.{ap, sym, ◌∙◌, subst, arith}
use Rattle.std.specs.Prelude.{IsTrue}
use Rattle.envy_map.specs.Fields.{Chart, chart, with_fields}
use Rattle.envy_soundness.specs.Sound.{Sound, Slots}
use Rattle.envy_soundness.proofs.Composition.{SameWords-refl, SameWords-trans}
use Rattle.envy_soundness.proofs.UpgradeLaw.{vacated-none, vacated-next, unused-new}
use Rattle.envy_soundness.proofs.version.vacate_new_slots.Goals as goal

pub loop-t-init : goal.loop-t-init
loop-t-init g c = record {
  same = SameWords-refl (chart (g.B.Board.state c.args.board.now)) c.requires.sound;
  is = ap (with_fields (chart (g.B.Board.state c.args.board.now))) (sym (vacated-none (chart (g.B.Board.state c.args.board.now)).fields));
  powered = λ lt. absurd (omega arith);
}

pub set_unused_slot-requires-clause-unused : goal.set_unused_slot-requires-clause-unused
set_unused_slot-requires-clause-unused g c =
    let inside = c.loop-t.invariant in
    let same = inside.same in
    λ on. unused-new (chart (g.B.Board.state c.loop-t.board)) c.loop-t.t same.sound (same.version ∙ c.requires.version (subst IsTrue (ap (λ (x : Chart). x.on) inside.is) on)) c.loop-t.auto.t

pub loop-t-preserved : goal.loop-t-preserved
loop-t-preserved g c =
    let inside = c.loop-t.invariant in
    record {
      same = SameWords-trans 0 0 0 0 (chart (g.B.Board.state c.args.board.now)) (chart (g.B.Board.state c.loop-t.board)) (chart (g.B.Board.state c.set_unused_slot.new.board)) inside.same c.set_unused_slot.ensures.same;
      is = vacated-next (chart (g.B.Board.state c.args.board.now)) (chart (g.B.Board.state c.loop-t.board)) (chart (g.B.Board.state c.set_unused_slot.new.board)) c.loop-t.t (Slots.long (Sound.slots c.requires.sound)) c.loop-t.auto.t inside.is c.in_ok-set_unused_slot.ensures.fields;
      powered = λ lt. c.in_ok-set_unused_slot.ensures.power;
    }
