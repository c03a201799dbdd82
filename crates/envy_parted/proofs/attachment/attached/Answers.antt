use Rattle.std.proofs.Common.{inl, inr, refl}
use Rattle.envy_parted.specs.Opening.{Given}
use Rattle.std.proofs.lemmas.Result.{err_from_is_err_and}
use Rattle.envy_parted.proofs.Declining.{attach_without_board, attach_refused, attached_part}
use Rattle.envy_parted.proofs.attachment.attached.Goals as goal

pub returns-in-Ok : goal.returns-in-Ok
returns-in-Ok c =
    let given : Given = record { setup = c.args.given.now; places = c.args.places.now; flash = c.args.flash.now; sram = c.args.sram.now } in
    attached_part given c.in_ok-setup.setup _ c.in-Ok.memory c.in_ok-setup.ensures.0 c.in_ok-setup.ensures.3 c.in_ok-board.ensures.1 c.in_ok-board.ensures.0 c.in-Ok.ensures

pub returns-in-Err : goal.returns-in-Err
returns-in-Err c =
    let given : Given = record { setup = c.args.given.now; places = c.args.places.now; flash = c.args.flash.now; sram = c.args.sram.now } in
    attach_refused given c.in_ok-setup.setup c.in-Err.refused.1 _ _ c.in_ok-setup.ensures.0 c.in_ok-setup.ensures.1 c.in_ok-setup.ensures.3 c.in_ok-board.ensures.1 c.in_ok-board.ensures.0 refl c.in-Err.ensures

pub returns-in_err-setup : goal.returns-in_err-setup
returns-in_err-setup c =
    let given : Given = record { setup = c.args.given.now; places = c.args.places.now; flash = c.args.flash.now; sram = c.args.sram.now } in
    let p = err_from_is_err_and c.from_residual.result c.from_residual.ensures.1 in
    rw (p.1, p.2) (attach_without_board given c.in_err-setup.field-0.0 (inl c.in_err-setup.ensures))

pub returns-in_err-board : goal.returns-in_err-board
returns-in_err-board c =
    let given : Given = record { setup = c.args.given.now; places = c.args.places.now; flash = c.args.flash.now; sram = c.args.sram.now } in
    let e = c.in_err-board.ensures in
    let p = err_from_is_err_and c.from_residual-in_err-board.result c.from_residual-in_err-board.ensures.1 in
    rw (p.1, p.2) (attach_without_board given c.in_err-board.field-0.0 (inr (e.0, e.1, (c.in_ok-setup.setup, c.in_ok-setup.ensures.0, c.in_ok-setup.ensures.1, (c.in_ok-setup.ensures.3, e.2)))))
