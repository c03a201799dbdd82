use Rattle.std.proofs.Common.{inl, inr, refl}
use Rattle.envy_parted.proofs.Boards.{format_answered, format_left}
use Rattle.envy_parted.proofs.Filling.{was_empty}
use Rattle.envy_parted.specs.Opening.{Given}
use Rattle.envy_parted.proofs.attachment.format_place.Goals as goal

pub returns-in-Ok : goal.returns-in-Ok
returns-in-Ok c = inl (refl, was_empty c.args.slot.now c.is_some.result c.is_some.ensures c.if-is_some.false, c.in-Ok.memory, c.replace.ensures.after, c.in-Ok.ensures)

pub returns-in-Err : goal.returns-in-Err
returns-in-Err c =
    let given : Given = record { setup = c.args.given.now; places = c.args.places.now; flash = c.args.flash.now; sram = c.args.sram.now } in
    let empty = was_empty c.args.slot.now c.is_some.result c.is_some.ensures c.if-is_some.false in
    inr (inr (empty, empty, format_answered given c.in-Err.refused.1 c.in-Err.refused.0 c.in-Err.ensures (λ board ends. format_left given c.in-Err.refused.1 _ ends)))
