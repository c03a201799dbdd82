use Rattle.std.proofs.Common.{inl, refl}
use Rattle.envy_parted.proofs.Filling.{was_empty}
use Rattle.envy_parted.proofs.attachment.attach_place.Goals as goal

pub returns-in-Ok : goal.returns-in-Ok
returns-in-Ok c = inl (refl, was_empty c.args.slot.now c.is_some.result c.is_some.ensures c.if-is_some.false, c.in-Ok.memory, c.replace.ensures.after, c.in-Ok.ensures)
