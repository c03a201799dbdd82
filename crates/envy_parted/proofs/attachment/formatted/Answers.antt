use Rattle.std.proofs.Common.{refl, sym, subst}
use Rattle.envy_part.specs.Part.{part_state}
use Rattle.envy_calls.specs.declared.code.Code.{Code}
use Rattle.envy_parted.specs.Opening.{Given, LeavesPart}
use Rattle.envy_parted.specs.declared.code.PartCode.TheVariants.{Of}
use Rattle.envy_policy.specs.Setup.{IsSetup}
use Rattle.envy_parted.proofs.Boards.{format_refused, formatted_part}
use Rattle.envy_parted.proofs.attachment.formatted.Goals as goal

pub returns-in-Err-format : goal.returns-in-Err-format
returns-in-Err-format c =
    let given : Given = record { setup = c.args.given.now; places = c.args.places.now; flash = c.args.flash.now; sram = c.args.sram.now } in
    let left = c.in-Err-format.refused.0 in
    subst (λ (code : Code). LeavesPart given (part_state left.shape left.flash.now left.sram.now left.erases.items left.begun left.bads) (Of code)) (sym c.format_answer.ensures)
    (format_refused given c.in-Ok.setup c.in-Err-format.refused.1 _ _ c.in-Ok.ensures.0 c.in-Ok.ensures.1 (IsSetup.shape c.in-Ok.ensures.2) c.in-Ok.ensures.3 c.in-Ok-board_over.ensures.1 c.in-Ok-board_over.ensures.0 refl c.in-Err-format.ensures.made c.in-Err-format.ensures.counts)

pub returns-in-Ok-format : goal.returns-in-Ok-format
returns-in-Ok-format c =
    let given : Given = record { setup = c.args.given.now; places = c.args.places.now; flash = c.args.flash.now; sram = c.args.sram.now } in
    formatted_part given c.in-Ok.setup _ c.in-Ok-format.fresh c.in-Ok.ensures.0 c.in-Ok.ensures.3 c.in-Ok-board_over.ensures.1 c.in-Ok-board_over.ensures.0 c.in-Ok-format.ensures.made c.in-Ok-format.ensures.counts
