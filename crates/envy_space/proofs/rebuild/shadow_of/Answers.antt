use Rattle.std.proofs.Common.{◌∙◌, ap, Some}
use Rattle.envy_base.specs.declared.fields.Undo.{Undo}
use Rattle.envy_soundness.specs.Sound.{Sound, Slots, slot_named}
use Rattle.envy_space.proofs.rebuild.shadow_of.Goals as goal

pub slot-requires-clause-decodes : goal.slot-requires-clause-decodes
slot-requires-clause-decodes g c =
    let slots = Sound.slots c.requires.sound in
    Slots.decode slots c.in-Shadow.t (Slots.named slots c.args.page c.in-Shadow.t (ap slot_named (c.in_ok-t.ensures.value.1 ∙ ap (λ (u : Undo). Some u) c.in-Shadow.is)))
