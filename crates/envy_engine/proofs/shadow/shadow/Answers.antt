use Rattle.std.proofs.Common.{◌∙◌, ◌+◌, ◌*◌, Some, get_or, refl, sym, ap, subst}
use Rattle.std.proofs.lemmas.Result.{err_from_is_err_and}
use Rattle.envy_base.specs.declared.fields.Undo.TheVariants.{Shadow}
use Rattle.envy_base.specs.declared.shape.Shape.{Shape}
use Rattle.envy_map.specs.Fields.{Fields, Chart, chart, place}
use Rattle.envy_map.specs.Writes.{with_undo}
use Rattle.envy_soundness.specs.Same.{Same, Stays, Framed}
use Rattle.envy_soundness.proofs.Composition.{SameWords-trans, SameWords-same}
use Rattle.envy_engine.proofs.FlushLemmas.{err-at}
use Rattle.envy_engine.proofs.Leaving.{leaves_then}
use Rattle.envy_meaning.proofs.Putting.{Owns-after}
use Rattle.envy_engine.proofs.PutLemmas.{MayGive-framed}
use Rattle.envy_engine.specs.Flushing.{Granted, IsFresh}
use Rattle.envy_reloc.proofs.Exits.{err-if, err-after, off-if, off-after, off-bad, ok-bad}
use Rattle.envy_engine.proofs.ShadeAnswers.{Shadows-ended, Shadows-lost, KeepsOwners-same, parts-shaded}
use Rattle.envy_engine.proofs.shadow.shadow.Goals as goal

pub shade-requires-clause-may : goal.shade-requires-clause-may
shade-requires-clause-may g c = MayGive-framed c.args.slot c.args.page _ _ c.args.owned.now (Stays.framed (Same.stays c.copy_row.ensures.same)) c.requires.may

pub returns-in_err-copy_row-clause-stops : goal.returns-in_err-copy_row-clause-stops
returns-in_err-copy_row-clause-stops g c =
    let e = c.copy_row.ensures in
    let p = err_from_is_err_and c.from_residual.result c.from_residual.ensures.1 in
    rw (p.1, p.2) (λ is. (record { fields = e.only.fields; erases = e.only.erases; bads = c.in_err-copy_row.ensures.bad (err-at _ _ is) }, refl))

pub returns-in_err-shade-clause-leaves : goal.returns-in_err-shade-clause-leaves
returns-in_err-shade-clause-leaves g c = leaves_then _ (chart (g.B.Board.state c.copy_row.new.board)) _ _ c.copy_row.new.parts _ c.copy_row.ensures.leaves c.shade.ensures.leaves

pub returns-clause-leaves : goal.returns-clause-leaves
returns-clause-leaves g c = leaves_then _ (chart (g.B.Board.state c.copy_row.new.board)) _ _ c.copy_row.new.parts _ c.copy_row.ensures.leaves c.shade.ensures.leaves

pub returns-clause-shadows : goal.returns-clause-shadows
returns-clause-shadows g c =
    let old = chart (g.B.Board.state c.args.board.now) in
    let mid = chart (g.B.Board.state c.copy_row.new.board) in
    let new = chart (g.B.Board.state c.shade.new.board) in
    let e = c.in_ok-shade.ensures in
    (SameWords-trans 1 0 0 0 old mid new (SameWords-same 1 0 old mid c.copy_row.ensures.same) e.same, Owns-after c.args.slot c.args.page old mid new (Stays.framed (Same.stays c.copy_row.ensures.same)) e.shades.owns, e.power)

pub returns-clause-marks : goal.returns-clause-marks
returns-clause-marks g c =
    let o = c.copy_row.ensures.only in
    let e = c.in_ok-shade.ensures.shades in
    record {
      fields = ap (λ (z : Chart). z.fields) e.fields ∙ ap (λ (f : Fields). with_undo c.args.page (Some (Shadow c.args.slot c.args.row)) f) o.fields;
      erases = ap (λ (z : Chart). z.erases) e.fields ∙ o.erases;
      gives = e.gives;
    }

pub copy_row-requires-clause-ready : goal.copy_row-requires-clause-ready
copy_row-requires-clause-ready g c = c.requires.ready

pub copy_row-requires-clause-frame : goal.copy_row-requires-clause-frame
copy_row-requires-clause-frame g c = c.requires.frame

pub copy_row-requires-clause-fresh : goal.copy_row-requires-clause-fresh
copy_row-requires-clause-fresh g c = c.requires.fresh

pub returns-in_err-copy_row-clause-shadows : goal.returns-in_err-copy_row-clause-shadows
returns-in_err-copy_row-clause-shadows g c =
    Shadows-ended (Unit {0}) 1 0 c.args.slot c.args.page (chart (g.B.Board.state c.args.board.now)) (chart (g.B.Board.state c.copy_row.new.board)) c.from_residual.result c.in_err-copy_row.field-0.0 c.copy_row.ensures.same c.in_err-copy_row.ensures.power c.from_residual.ensures.1

pub returns-in_err-copy_row-clause-leaves : goal.returns-in_err-copy_row-clause-leaves
returns-in_err-copy_row-clause-leaves g c = c.copy_row.ensures.leaves

pub returns-in_err-copy_row-clause-marks : goal.returns-in_err-copy_row-clause-marks
returns-in_err-copy_row-clause-marks g c = err-if c.from_residual.result _ c.in_err-copy_row.field-0.0 c.from_residual.ensures.1

pub returns-in_err-copy_row-clause-owners : goal.returns-in_err-copy_row-clause-owners
returns-in_err-copy_row-clause-owners g c =
    KeepsOwners-same 1 0 c.args.slot c.args.page (chart (g.B.Board.state c.args.board.now)) (chart (g.B.Board.state c.copy_row.new.board)) c.args.owned.now c.requires.may c.copy_row.ensures.same

pub returns-in_err-copy_row-clause-parts : goal.returns-in_err-copy_row-clause-parts
returns-in_err-copy_row-clause-parts g c = parts-shaded c.args.parts.now c.copy_row.new.parts c.copy_row.new.parts c.copy_row.ensures.parts refl

pub returns-in_err-copy_row-clause-power : goal.returns-in_err-copy_row-clause-power
returns-in_err-copy_row-clause-power g c = err-after (Unit {0}) c.from_residual.result (g.B.Board.state c.copy_row.new.board).on c.in_err-copy_row.field-0.0 c.in_err-copy_row.ensures.power c.from_residual.ensures.1

pub shade-requires-clause-ready : goal.shade-requires-clause-ready
shade-requires-clause-ready g c =
    let e = c.copy_row.ensures in
    let on = c.in_ok-copy_row.ensures.power in
    record { on = on; sound = Stays.sound (Same.stays e.same); fits = e.leaves.steady.fits; agrees = e.leaves.steady.agrees on }

pub shade-requires-clause-here : goal.shade-requires-clause-here
shade-requires-clause-here g c = ap (λ (f : Fields). place f c.args.page) c.copy_row.ensures.only.fields ∙ c.requires.here

pub shade-requires-clause-granted : goal.shade-requires-clause-granted
shade-requires-clause-granted g c =
    let old = chart (g.B.Board.state c.args.board.now) in
    let new = chart (g.B.Board.state c.copy_row.new.board) in
    let shape = Framed.shape (Stays.framed (Same.stays c.copy_row.ensures.same)) in
    subst (λ (sh : Shape). Granted sh new.fields c.args.page c.args.row) (sym shape) (subst (λ (f : Fields). Granted old.shape f c.args.page c.args.row) (sym c.copy_row.ensures.only.fields) (IsFresh.granted c.requires.fresh))

pub shade-requires-clause-copy : goal.shade-requires-clause-copy
shade-requires-clause-copy g c j low = c.in_ok-copy_row.ensures.copy j low ∙ sym (ap (λ (f : Fields). get_or f.frames (32 * c.args.frame + j) 0) c.copy_row.ensures.only.fields)

pub returns-in_err-shade-clause-shadows : goal.returns-in_err-shade-clause-shadows
returns-in_err-shade-clause-shadows g c =
    let mid = chart (g.B.Board.state c.copy_row.new.board) in
    let new = chart (g.B.Board.state c.shade.new.board) in
    Shadows-lost 1 0 c.args.slot c.args.page (chart (g.B.Board.state c.args.board.now)) mid new c.from_residual-in_err-shade.result c.copy_row.ensures.same c.shade.ensures.same c.in_err-shade.ensures.power c.from_residual-in_err-shade.ensures.1

pub returns-in_err-shade-clause-marks : goal.returns-in_err-shade-clause-marks
returns-in_err-shade-clause-marks g c = off-if c.from_residual-in_err-shade.result _ c.from_residual-in_err-shade.ensures.1

pub returns-in_err-shade-clause-stops : goal.returns-in_err-shade-clause-stops
returns-in_err-shade-clause-stops g c is = off-bad c.from_residual-in_err-shade.result c.from_residual-in_err-shade.ensures.1 is

pub returns-in_err-shade-clause-owners : goal.returns-in_err-shade-clause-owners
returns-in_err-shade-clause-owners g c = c.shade.ensures.owners

pub returns-in_err-shade-clause-parts : goal.returns-in_err-shade-clause-parts
returns-in_err-shade-clause-parts g c = parts-shaded c.args.parts.now c.copy_row.new.parts c.shade.new.parts c.copy_row.ensures.parts c.shade.ensures.parts

pub returns-in_err-shade-clause-power : goal.returns-in_err-shade-clause-power
returns-in_err-shade-clause-power g c = off-after c.from_residual-in_err-shade.result (g.B.Board.state c.shade.new.board).on c.in_err-shade.ensures.power c.from_residual-in_err-shade.ensures.1

pub returns-clause-stops : goal.returns-clause-stops
returns-clause-stops g c is = ok-bad tt is

pub returns-clause-owners : goal.returns-clause-owners
returns-clause-owners g c = c.shade.ensures.owners

pub returns-clause-parts : goal.returns-clause-parts
returns-clause-parts g c = parts-shaded c.args.parts.now c.copy_row.new.parts c.shade.new.parts c.copy_row.ensures.parts c.shade.ensures.parts

pub returns-clause-power : goal.returns-clause-power
returns-clause-power g c = c.in_ok-shade.ensures.power
