use Rattle.std.proofs.Common.{◌≡◌, ◌∙◌, ◌<◌, ℕ, List, Option, set, Some, refl, sym, subst, ap, arith}
use Rattle.std.specs.Prelude.{count_by, replicate}
use Rattle.envy_base.specs.State.{IsBoard}
use Rattle.envy_base.specs.Shape.{IsShape}
use Rattle.envy_base.specs.declared.fields.Slot.TheVariants.{Active}
use Rattle.envy_base.specs.declared.fields.Undo.{Undo}
use Rattle.envy_base.specs.declared.fields.Undo.TheVariants.{Blank}
use Rattle.envy_base.specs.declared.shape.Shape.{Shape}
use Rattle.envy_map.specs.Fields.{Chart, chart, with_fields}
use Rattle.envy_map.specs.Writes.{with_slot, with_undo}
use Rattle.envy_map.proofs.Sizes.{length-frames}
use Rattle.envy_soundness.specs.Sound.{owned_by}
use Rattle.envy_memory.proofs.AttachVersion.{none-owned, HasChanged-empty}
use Rattle.test_sessions.proofs.formats.put_on_version_1.Goals as goal

pub own_page-requires-clause-few : goal.own_page-requires-clause-few
own_page-requires-clause-few g c on =
    let empty = chart (g.B.Board.state c.format_board_1.new.board) in
    let framed = chart (g.B.Board.state c.write_free_frame.new.board) in
    let opened = chart (g.B.Board.state c.set_unused_slot.new.board) in
    let first = c.in_ok-write_free_frame.ensures.fields in
    let last = c.in_ok-set_unused_slot.ensures.fields in
    let undos : opened.fields.undos ≡ empty.fields.undos = ap (λ (z : Chart). z.fields.undos) last ∙ ap (λ (z : Chart). z.fields.undos) first in
    let shape : opened.shape ≡ (g.B.Board.state c.args.board.now).shape = ap (λ (z : Chart). z.shape) last ∙ ap (λ (z : Chart). z.shape) first ∙ c.in_ok-format_board_1.ensures.shape in
    let zero : count_by (owned_by opened.fields.slots) opened.fields.undos ≡ 0 = ap (λ (us : List (Option Undo)). count_by (owned_by opened.fields.slots) us) undos ∙ none-owned empty opened.fields.slots c.in_ok-format_board_1.ensures.formats.1 in
    let some : 0 < opened.shape.shadows = subst (λ (sh : Shape). 0 < sh.shadows) (sym shape) c.requires.shadows in
    omega arith

pub move_to_frame-requires-clause-copy : goal.move_to_frame-requires-clause-copy
move_to_frame-requires-clause-copy g c on =
    let empty = chart (g.B.Board.state c.format_board_1.new.board) in
    let owned = chart (g.B.Board.state c.own_page.new.board) in
    let page = set {A = ℕ} (replicate 32 0) 5 2 in
    let board = g.met.B.Board.lawful c.format_board_1.new.board in
    let long = length-frames (g.B.Board.state c.format_board_1.new.board) board in
    let shape = IsBoard.shape board in
    let frames = IsShape.frames shape in
    let some = IsShape.pages shape in
    let is = c.in_ok-own_page.ensures.fields ∙ ap (λ (z : Chart). with_fields z (with_undo 0 (Some (Blank 0)) z.fields)) c.in_ok-set_unused_slot.ensures.fields ∙ ap (λ (z : Chart). with_fields z (with_undo 0 (Some (Blank 0)) (with_slot 0 (Some Active) z.fields))) c.in_ok-write_free_frame.ensures.fields in
    HasChanged-empty empty owned page 5 2 c.in_ok-format_board_1.ensures.formats.1 (omega arith) (omega arith) (omega arith) refl is
