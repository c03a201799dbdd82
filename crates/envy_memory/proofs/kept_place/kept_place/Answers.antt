use Rattle.std.proofs.Common.{◌≡◌, ◌∙◌, Some, ap}
use Rattle.envy_base.specs.declared.fields.Undo.{Undo}
use Rattle.envy_base.specs.declared.fields.Undo.TheVariants.{Blank, Shadow}
use Rattle.envy_map.specs.Fields.{chart, undo}
use Rattle.envy_soundness.specs.Sound.{Sound, Slots, slot_named}
use Rattle.envy_memory.proofs.kept_place.kept_place.Goals as goal

pub slot-requires-clause-decodes : goal.slot-requires-clause-decodes
slot-requires-clause-decodes g c =
    let f = (chart (g.B.Board.state c.args.board.now)).fields in
    let t = c.in-Blank.t in
    let is : undo f c.args.page ≡ Some (Blank t) = c.in_ok-undo.ensures.value.1 ∙ ap (λ (u : Undo). Some u) c.in-Blank.is in
    let s = Sound.slots c.requires.sound in
    Slots.decode s t (Slots.named s c.args.page t (ap slot_named is))

pub slot-requires-in-Shadow-clause-decodes : goal.slot-requires-in-Shadow-clause-decodes
slot-requires-in-Shadow-clause-decodes g c =
    let f = (chart (g.B.Board.state c.args.board.now)).fields in
    let t = c.in-Shadow.t in
    let is : undo f c.args.page ≡ Some (Shadow t c.in-Shadow.row) = c.in_ok-undo.ensures.value.1 ∙ ap (λ (u : Undo). Some u) c.in-Shadow.is in
    let s = Sound.slots c.requires.sound in
    Slots.decode s t (Slots.named s c.args.page t (ap slot_named is))
