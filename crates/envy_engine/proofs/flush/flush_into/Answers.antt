use Rattle.std.proofs.Common.{◌∙◌, Some, ap, arith, get_or, ◌+◌, ◌*◌, sym}
use Rattle.std.specs.List.{filter}
use Rattle.std.proofs.lemmas.Result.{err_from_is_err_and}
use Rattle.envy_base.specs.declared.fields.Place.TheVariants.{Row}
use Rattle.envy_frames.specs.Order.{is_other}
use Rattle.envy_map.specs.Fields.{Fields, Chart, chart, place}
use Rattle.envy_map.specs.Writes.{with_place}
use Rattle.envy_engine.specs.declared.parts.Parts.{Parts}
use Rattle.envy_engine.proofs.FlushLemmas.{err-at}
use Rattle.envy_engine.proofs.Leaving.{leaves_then}
use Rattle.envy_soundness.specs.Same.{Same, Stays, Framed}
use Rattle.envy_soundness.specs.Sound.{Sound, Places}
use Rattle.envy_reloc.proofs.Exits.{off-after, off-if, off-bad, err-after, err-if, ok-bad}
use Rattle.envy_engine.proofs.FlushAnswers.{ready-left, page-left, granted-left, parts-copied, parts-moved}
use Rattle.envy_soundness.proofs.Sames.{same_two as Same-two}
use Rattle.envy_engine.proofs.flush.flush_into.Goals as goal

pub returns-in_err-copy_row-clause-stops : goal.returns-in_err-copy_row-clause-stops
returns-in_err-copy_row-clause-stops g c =
    let e = c.copy_row.ensures in
    let p = err_from_is_err_and c.from_residual.result c.from_residual.ensures.1 in
    rw (p.1, p.2) (λ is. record { fields = e.only.fields; erases = e.only.erases; frames = ap (λ (z : Parts). z.frames) e.parts; bads = c.in_err-copy_row.ensures.bad (err-at _ _ is) })

pub returns-in_err-move_out-clause-same : goal.returns-in_err-move_out-clause-same
returns-in_err-move_out-clause-same g c = Same-two 1 0 0 0 1 0 _ _ _ (omega arith) (omega arith) c.copy_row.ensures.same c.move_out.ensures.same

pub returns-in_err-move_out-clause-leaves : goal.returns-in_err-move_out-clause-leaves
returns-in_err-move_out-clause-leaves g c = leaves_then _ (chart (g.B.Board.state c.copy_row.new.board)) _ _ c.copy_row.new.parts _ c.copy_row.ensures.leaves c.move_out.ensures.leaves

pub returns-clause-same : goal.returns-clause-same
returns-clause-same g c = Same-two 1 0 0 0 1 0 _ _ _ (omega arith) (omega arith) c.copy_row.ensures.same c.move_out.ensures.same

pub returns-clause-leaves : goal.returns-clause-leaves
returns-clause-leaves g c = leaves_then _ (chart (g.B.Board.state c.copy_row.new.board)) _ _ c.copy_row.new.parts _ c.copy_row.ensures.leaves c.move_out.ensures.leaves

pub returns-clause-moves : goal.returns-clause-moves
returns-clause-moves g c =
    let e = c.copy_row.ensures in
    let m = c.in_ok-move_out.ensures in
    record {
      fields = ap (λ (z : Chart). z.fields) m.fields ∙ ap (λ (f : Fields). with_place c.args.page (Some (Row c.args.row)) f) e.only.fields;
      erases = ap (λ (z : Chart). z.erases) m.fields ∙ e.only.erases;
      held = m.frames ∙ ap (λ (z : Parts). filter (is_other c.args.frame) z.frames.held) e.parts;
    }

pub copy_row-requires-clause-ready : goal.copy_row-requires-clause-ready
copy_row-requires-clause-ready g c = c.requires.ready

pub copy_row-requires-clause-frame : goal.copy_row-requires-clause-frame
copy_row-requires-clause-frame g c = Places.frames (Sound.places c.requires.ready.sound) c.args.page c.args.frame c.requires.here

pub copy_row-requires-clause-fresh : goal.copy_row-requires-clause-fresh
copy_row-requires-clause-fresh g c = c.requires.fresh

pub returns-in_err-copy_row-clause-same : goal.returns-in_err-copy_row-clause-same
returns-in_err-copy_row-clause-same g c = c.copy_row.ensures.same

pub returns-in_err-copy_row-clause-leaves : goal.returns-in_err-copy_row-clause-leaves
returns-in_err-copy_row-clause-leaves g c = c.copy_row.ensures.leaves

pub returns-in_err-copy_row-clause-moves : goal.returns-in_err-copy_row-clause-moves
returns-in_err-copy_row-clause-moves g c = err-if c.from_residual.result _ c.in_err-copy_row.field-0.0 c.from_residual.ensures.1

pub returns-in_err-copy_row-clause-parts : goal.returns-in_err-copy_row-clause-parts
returns-in_err-copy_row-clause-parts g c = parts-copied c.args.parts.now c.copy_row.new.parts c.copy_row.ensures.parts

pub returns-in_err-copy_row-clause-power : goal.returns-in_err-copy_row-clause-power
returns-in_err-copy_row-clause-power g c = err-after (Unit {0}) c.from_residual.result (g.B.Board.state c.copy_row.new.board).on c.in_err-copy_row.field-0.0 c.in_err-copy_row.ensures.power c.from_residual.ensures.1

pub move_out-requires-clause-ready : goal.move_out-requires-clause-ready
move_out-requires-clause-ready g c = ready-left 1 0 (chart (g.B.Board.state c.args.board.now)) (chart (g.B.Board.state c.copy_row.new.board)) c.args.parts.now c.copy_row.new.parts c.in_ok-copy_row.ensures.power c.copy_row.ensures.same c.copy_row.ensures.leaves

pub move_out-requires-clause-page : goal.move_out-requires-clause-page
move_out-requires-clause-page g c = page-left 1 0 c.args.page (chart (g.B.Board.state c.args.board.now)) (chart (g.B.Board.state c.copy_row.new.board)) c.copy_row.ensures.same c.requires.page

pub move_out-requires-clause-here : goal.move_out-requires-clause-here
move_out-requires-clause-here g c = ap (λ (f : Fields). place f c.args.page) c.copy_row.ensures.only.fields ∙ c.requires.here

pub move_out-requires-clause-granted : goal.move_out-requires-clause-granted
move_out-requires-clause-granted g c = granted-left (chart (g.B.Board.state c.args.board.now)) (chart (g.B.Board.state c.copy_row.new.board)) c.args.page c.args.row (Framed.shape (Stays.framed (Same.stays c.copy_row.ensures.same))) c.copy_row.ensures.only.fields c.requires.fresh.granted

pub move_out-requires-clause-copy : goal.move_out-requires-clause-copy
move_out-requires-clause-copy g c j low = c.in_ok-copy_row.ensures.copy j low ∙ ap (λ (f : Fields). get_or f.frames (32 * c.args.frame + j) 0) (sym c.copy_row.ensures.only.fields)

pub returns-in_err-move_out-clause-moves : goal.returns-in_err-move_out-clause-moves
returns-in_err-move_out-clause-moves g c = off-if c.from_residual-in_err-move_out.result _ c.from_residual-in_err-move_out.ensures.1

pub returns-in_err-move_out-clause-stops : goal.returns-in_err-move_out-clause-stops
returns-in_err-move_out-clause-stops g c is = off-bad c.from_residual-in_err-move_out.result c.from_residual-in_err-move_out.ensures.1 is

pub returns-in_err-move_out-clause-parts : goal.returns-in_err-move_out-clause-parts
returns-in_err-move_out-clause-parts g c = parts-moved c.args.parts.now c.copy_row.new.parts c.move_out.new.parts c.copy_row.ensures.parts c.move_out.ensures.parts

pub returns-in_err-move_out-clause-power : goal.returns-in_err-move_out-clause-power
returns-in_err-move_out-clause-power g c = off-after c.from_residual-in_err-move_out.result (g.B.Board.state c.move_out.new.board).on c.in_err-move_out.ensures.power c.from_residual-in_err-move_out.ensures.1

pub returns-clause-stops : goal.returns-clause-stops
returns-clause-stops g c is = ok-bad tt is

pub returns-clause-parts : goal.returns-clause-parts
returns-clause-parts g c = parts-moved c.args.parts.now c.copy_row.new.parts c.move_out.new.parts c.copy_row.ensures.parts c.move_out.ensures.parts

pub returns-clause-power : goal.returns-clause-power
returns-clause-power g c = c.in_ok-move_out.ensures.power
