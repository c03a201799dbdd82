use Rattle.std.proofs.Common.{◌≡◌, ◌≢◌, Some, sym, ◌∙◌, ap, rules}
use Rattle.envy_base.specs.declared.fields.Slot.TheVariants.{Active}
use Rattle.envy_map.specs.Fields.{chart, slot, undo}
use Rattle.envy_soundness.specs.Sound.{Sound, Places, Slots, slot_named}
use Rattle.envy_soundness.specs.Words.{kept}
use Rattle.envy_txn.proofs.BackLoop.{Returns}
use Rattle.envy_txn.proofs.SettleLemmas.{SettledTo-more, SettlesOne-back, SettlesOne-cleared, slot-decodes, kept-active}
use Rattle.envy_txn.proofs.settlement.settle_page.Goals as goal

pub slot-requires-clause-decodes : goal.slot-requires-clause-decodes
slot-requires-clause-decodes g c =
    slot-decodes (chart (g.B.Board.state c.args.board.now)) c.args.page c.in-Some-Some.t c.requires.sound (ap slot_named c.in_ok-undo.ensures.value.1 ∙ sym c.slot_in.ensures ∙ c.in-Some-Some.is-0)

pub returns-then-eq-clause-settled : goal.returns-then-eq-clause-settled
returns-then-eq-clause-settled g c = λ first s.
    let old = chart (g.B.Board.state c.args.board.now) in
    let new = chart (g.B.Board.state c.put_back.new.board) in
    let named : slot_named (Some c.in_ok-undo.undo) ≡ Some c.in-Some-Some.t = sym c.slot_in.ensures ∙ c.in-Some-Some.is-0 in
    let active : slot old.fields c.in-Some-Some.t ≡ Some Active = search rules in
    let names : kept old.fields c.args.page ≡ Some c.in-Some-Some.back = kept-active old.fields c.args.page c.in-Some-Some.t c.in_ok-undo.undo c.in-Some-Some.back c.in_ok-undo.ensures.value.1 named active (sym c.place_in.ensures.place ∙ c.in-Some-Some.is-1) in
    let turn : Returns c.args.page c.in-Some-Some.back old new = record {
      names = names;
      fields = c.in_ok-put_back.ensures.fields;
      room = rw (Places.long (Sound.places c.requires.sound)) c.requires.page;
      undo_room = rw (Slots.undos_long (Sound.slots c.requires.sound)) c.requires.page;
    } in
    SettledTo-more c.args.page first old new (SettlesOne-back c.args.page c.in-Some-Some.back old new turn) s

pub returns-clause-settled : goal.returns-clause-settled
returns-clause-settled g c = λ first s.
    let old = chart (g.B.Board.state c.args.board.now) in
    let new = chart (g.B.Board.state c.clear_settled_undo.new.board) in
    let named : slot_named (undo old.fields c.args.page) ≡ Some c.in-Some-Some.t = ap slot_named c.in_ok-undo.ensures.value.1 ∙ sym c.slot_in.ensures ∙ c.in-Some-Some.is-0 in
    let idle : slot old.fields c.in-Some-Some.t ≢ Some Active = λ active. search rules in
    SettledTo-more c.args.page first old new (SettlesOne-cleared c.args.page c.in-Some-Some.t old new (rw (Slots.undos_long (Sound.slots c.requires.sound)) c.requires.page) named idle c.in_ok-clear_settled_undo.ensures.fields) s
