use Rattle.std.proofs.Common.{◌≡◌, ◌∙◌, ℕ, ◌+◌, ◌<◌, List, Option, get_or, Some, None, refl, sym, ap, subst, arith}
use Rattle.envy_base.specs.declared.shape.Shape.{Shape}
use Rattle.envy_base.specs.declared.fields.Job.TheVariants.{Switch, Erase}
use Rattle.envy_base.specs.declared.fields.Undo.{Undo}
use Rattle.envy_base.specs.declared.fields.Undo.TheVariants.{Clear}
use Rattle.envy_map.specs.Fields.{Fields, Chart, chart, undo}
use Rattle.envy_map.specs.Writes.{with_job, with_position}
use Rattle.envy_soundness.specs.Jobs.{IsClear}
use Rattle.envy_soundness.specs.Same.{Same, Stays, Framed}
use Rattle.envy_soundness.specs.Sound.{Sound, Slots, Numbers, IsSpare}
use Rattle.envy_soundness.proofs.Composition.{Same-refl}
use Rattle.envy_soundness.proofs.JobLaw.{AreHome-freed}
use Rattle.envy_soundness.proofs.Sames.{then_same}
use Rattle.envy_reloc.specs.Switching.{SwitchesRows}
use Rattle.envy_reloc.proofs.SettleLemmas.{ok-map, KeepsOthers-trans, keeps-written, parted-clear, IsClear-kept, Finishes-made}
use Rattle.envy_reloc.proofs.Exits.{none-if, none-power}
use Rattle.envy_reloc.proofs.SwitchLemmas.{IsCopied-kept, SwitchesRows-none, SwitchesRows-next, undos-switched}
use Rattle.envy_reloc.proofs.settle.finish_switch.Goals as goal
use Rattle.envy_base.specs.Shape.{positions_of}

pub loop-i-preserved : goal.loop-i-preserved
loop-i-preserved g c =
    let old = chart (g.B.Board.state c.args.board.now) in
    let now = chart (g.B.Board.state c.loop-i.board) in
    let new = chart (g.B.Board.state c.switch_row.new.board) in
    let inv = c.loop-i.invariant in
    let going = Framed.shape (Stays.framed (Same.stays inv.same)) in
    let shape = Framed.shape (Stays.framed (Same.stays c.switch_row.ensures.same)) in
    let switches = c.in_ok-switch_row.ensures.switches in
    let e = c.in_ok-spare.spare in
    let less = c.loop-i-test.true in
    let fill = c.in_ok-i-end.ensures.1 in
    let copied = IsCopied-kept old now c.args.segment e c.loop-i.i c.loop-i.i c.requires.sound c.requires.switching (c.args.position, c.requires.position, c.requires.here) c.in_ok-spare.ensures.spare going inv.rows (omega arith) in
    let clear : (p : ℕ) → p < now.shape.pages → undo now.fields p ≡ Some Clear = λ p lt. ap (λ (us : List (Option Undo)). get_or us p None) inv.undos ∙ c.requires.clear p (subst (λ (sh : Shape). p < sh.pages) going lt) in
    let same_undos = undos-switched now.shape now.fields new.fields e c.loop-i.i c.in_ok-switch_row.field-0 clear switches in
    record {
      same = then_same 0 0 old now new inv.same c.switch_row.ensures.same;
      on = c.in_ok-switch_row.ensures.power;
      flash = c.in_ok-switch_row.ensures.flash ∙ inv.flash;
      undos = same_undos ∙ inv.undos;
      parted = parted-clear new.shape new.fields (Slots.undos_long (Sound.slots (Stays.sound (Same.stays c.switch_row.ensures.same)))) (λ p lt. ap (λ (us : List (Option Undo)). get_or us p None) same_undos ∙ clear p (subst (λ (sh : Shape). p < sh.pages) shape lt));
      others = KeepsOthers-trans old.fields now.fields new.fields inv.others (c.switch_row.ensures.others clear);
      rows = subst (λ (sh : Shape). SwitchesRows sh e (c.loop-i.i + 1) old.fields new.fields) (sym shape) (SwitchesRows-next now.shape old.fields now.fields new.fields now.flash e c.loop-i.i c.in_ok-switch_row.field-0 (Stays.sound (Same.stays inv.same)) inv.parted copied inv.rows switches);
    }

pub switch_row-requires-clause-copied : goal.switch_row-requires-clause-copied
switch_row-requires-clause-copied g c =
    let old = chart (g.B.Board.state c.args.board.now) in
    let now = chart (g.B.Board.state c.loop-i.board) in
    let inv = c.loop-i.invariant in
    let less = c.loop-i-test.true in
    let fill = c.in_ok-i-end.ensures.1 in
    IsCopied-kept old now c.args.segment c.in_ok-spare.spare c.loop-i.i c.loop-i.i c.requires.sound c.requires.switching (c.args.position, c.requires.position, c.requires.here) c.in_ok-spare.ensures.spare (Framed.shape (Stays.framed (Same.stays inv.same))) inv.rows (omega arith)

pub returns-in_err-switch_row-clause-others : goal.returns-in_err-switch_row-clause-others
returns-in_err-switch_row-clause-others g c =
    let old = chart (g.B.Board.state c.args.board.now) in
    let now = chart (g.B.Board.state c.loop-i.board) in
    let inv = c.loop-i.invariant in
    let going = Framed.shape (Stays.framed (Same.stays inv.same)) in
    KeepsOthers-trans old.fields now.fields (chart (g.B.Board.state c.switch_row.new.board)).fields inv.others
    (c.switch_row.ensures.others (λ p lt. ap (λ (us : List (Option Undo)). get_or us p None) inv.undos ∙ c.requires.clear p (subst (λ (sh : Shape). p < sh.pages) going lt)))

pub replace_segment-requires-clause-clear : goal.replace_segment-requires-clause-clear
replace_segment-requires-clause-clear g c on =
    let old = chart (g.B.Board.state c.args.board.now) in
    let now = chart (g.B.Board.state c.loop-i.board) in
    let inv = c.loop-i.invariant in
    let e = c.in_ok-spare.spare in
    let end = c.loop-i-test.false in
    let within = c.loop-i.auto.i-end in
    let fill = c.in_ok-i-end.ensures.1 in
    let here : get_or now.fields.positions c.args.position 0 ≡ c.args.segment = ap (λ (x : Fields). get_or x.positions c.args.position 0) (SwitchesRows.fields inv.rows) ∙ c.requires.here in
    subst (λ (s : ℕ). IsClear now.shape now.fields s) (sym here)
    (IsClear-kept old now c.args.segment e c.loop-i.i c.requires.sound c.requires.switching (c.args.position, c.requires.position, c.requires.here) c.in_ok-spare.ensures.spare (Framed.shape (Stays.framed (Same.stays inv.same))) inv.rows (omega arith))

pub returns-in_err-replace_segment-clause-others : goal.returns-in_err-replace_segment-clause-others
returns-in_err-replace_segment-clause-others g c =
    let old = chart (g.B.Board.state c.args.board.now) in
    let now = chart (g.B.Board.state c.loop-i.board) in
    keeps-written old.fields now (chart (g.B.Board.state c.replace_segment.new.board)) (with_position c.args.position c.in_ok-spare.spare) c.replace_segment.result c.loop-i.invariant.others refl c.replace_segment.ensures.writes

pub begin_erase-requires-clause-home : goal.begin_erase-requires-clause-home
begin_erase-requires-clause-home g c on =
    let old = chart (g.B.Board.state c.args.board.now) in
    let now = chart (g.B.Board.state c.loop-i.board) in
    let new = chart (g.B.Board.state c.replace_segment.new.board) in
    let inv = c.loop-i.invariant in
    let here : get_or now.fields.positions c.args.position 0 ≡ c.args.segment = ap (λ (x : Fields). get_or x.positions c.args.position 0) (SwitchesRows.fields inv.rows) ∙ c.requires.here in
    AreHome-freed new.shape new.fields new.flash (get_or now.fields.positions c.args.position 0) (Stays.sound (Same.stays c.replace_segment.ensures.same))
    (ap (λ (x : Chart). x.fields.job) c.in_ok-replace_segment.ensures.fields ∙ ap (λ (x : Fields). x.job) (SwitchesRows.fields inv.rows) ∙ c.requires.switching ∙ ap (λ (s : ℕ). Some (Switch s)) (sym here))
    c.in_ok-replace_segment.ensures.freed

pub returns-clause-others : goal.returns-clause-others
returns-clause-others g c =
    let old = chart (g.B.Board.state c.args.board.now) in
    let now = chart (g.B.Board.state c.loop-i.board) in
    let mid = chart (g.B.Board.state c.replace_segment.new.board) in
    let new = chart (g.B.Board.state c.begin_erase.new.board) in
    keeps-written old.fields mid new (with_job (Some Erase)) c.begin_erase.result
    (keeps-written old.fields now mid (with_position c.args.position c.in_ok-spare.spare) c.replace_segment.result c.loop-i.invariant.others refl c.replace_segment.ensures.writes)
    refl c.begin_erase.ensures.writes

pub returns-clause-finishes : goal.returns-clause-finishes
returns-clause-finishes g c =
    let old = chart (g.B.Board.state c.args.board.now) in
    let now = chart (g.B.Board.state c.loop-i.board) in
    let mid = chart (g.B.Board.state c.replace_segment.new.board) in
    let new = chart (g.B.Board.state c.begin_erase.new.board) in
    let inv = c.loop-i.invariant in
    let end = c.loop-i-test.false in
    let within = c.loop-i.auto.i-end in
    let fill = c.in_ok-i-end.ensures.1 in
    ok-map c.begin_erase.result _ _ c.begin_erase.ensures.fields (λ is.
    Finishes-made old now new c.args.segment c.args.position c.in_ok-spare.spare c.loop-i.i c.requires.position c.requires.here c.in_ok-spare.ensures.spare (Framed.shape (Stays.framed (Same.stays inv.same))) inv.rows inv.undos (omega arith)
    (ap (λ (x : Chart). x.fields) is ∙ ap (λ (x : Chart). with_job (Some Erase) x.fields) c.in_ok-replace_segment.ensures.fields))

pub returns-in_err-spare-clause-finishes : goal.returns-in_err-spare-clause-finishes
returns-in_err-spare-clause-finishes g c = none-if c.from_residual.result _ _ c.from_residual.ensures.1

pub returns-in_err-spare-clause-flash : goal.returns-in_err-spare-clause-flash
returns-in_err-spare-clause-flash g c = none-if c.from_residual.result _ _ c.from_residual.ensures.1

pub returns-in_err-i-end-clause-finishes : goal.returns-in_err-i-end-clause-finishes
returns-in_err-i-end-clause-finishes g c = none-if c.from_residual-in_err-i-end.result _ _ c.from_residual-in_err-i-end.ensures.1

pub returns-in_err-i-end-clause-flash : goal.returns-in_err-i-end-clause-flash
returns-in_err-i-end-clause-flash g c = none-if c.from_residual-in_err-i-end.result _ _ c.from_residual-in_err-i-end.ensures.1

pub returns-in_err-switch_row-clause-finishes : goal.returns-in_err-switch_row-clause-finishes
returns-in_err-switch_row-clause-finishes g c = none-if c.from_residual-in_err-switch_row.result _ _ c.from_residual-in_err-switch_row.ensures.1

pub returns-in_err-switch_row-clause-flash : goal.returns-in_err-switch_row-clause-flash
returns-in_err-switch_row-clause-flash g c = none-if c.from_residual-in_err-switch_row.result _ _ c.from_residual-in_err-switch_row.ensures.1

pub returns-in_err-replace_segment-clause-finishes : goal.returns-in_err-replace_segment-clause-finishes
returns-in_err-replace_segment-clause-finishes g c = none-if c.from_residual-in_err-replace_segment.result _ _ c.from_residual-in_err-replace_segment.ensures.1

pub returns-in_err-replace_segment-clause-flash : goal.returns-in_err-replace_segment-clause-flash
returns-in_err-replace_segment-clause-flash g c = none-if c.from_residual-in_err-replace_segment.result _ _ c.from_residual-in_err-replace_segment.ensures.1

pub returns-in_err-switch_row-clause-power : goal.returns-in_err-switch_row-clause-power
returns-in_err-switch_row-clause-power g c = none-power c.from_residual-in_err-switch_row.result _ (g.B.Board.state c.switch_row.new.board).on c.in_err-switch_row.ensures.power c.from_residual-in_err-switch_row.ensures.1

pub returns-in_err-replace_segment-clause-power : goal.returns-in_err-replace_segment-clause-power
returns-in_err-replace_segment-clause-power g c = none-power c.from_residual-in_err-replace_segment.result _ (g.B.Board.state c.replace_segment.new.board).on c.in_err-replace_segment.ensures.power c.from_residual-in_err-replace_segment.ensures.1

pub fill-requires-clause-range : goal.fill-requires-clause-range
fill-requires-clause-range g c = Numbers.fills_fit (Sound.numbers c.requires.sound) c.in_ok-spare.spare

pub returns-in_err-spare-clause-same : goal.returns-in_err-spare-clause-same
returns-in_err-spare-clause-same g c = Same-refl (chart (g.B.Board.state c.args.board.now)) c.requires.sound

pub returns-in_err-i-end-clause-same : goal.returns-in_err-i-end-clause-same
returns-in_err-i-end-clause-same g c = Same-refl (chart (g.B.Board.state c.args.board.now)) c.requires.sound

pub loop-i-init : goal.loop-i-init
loop-i-init g c =
    let old = chart (g.B.Board.state c.args.board.now) in
    record {
      same = Same-refl old c.requires.sound;
      on = c.requires.on;
      flash = refl;
      undos = refl;
      parted = parted-clear old.shape old.fields (Slots.undos_long (Sound.slots c.requires.sound)) c.requires.clear;
      others = refl;
      rows = SwitchesRows-none old.shape c.in_ok-spare.spare old.fields;
    }

pub switch_row-requires-clause-sound : goal.switch_row-requires-clause-sound
switch_row-requires-clause-sound g c = Stays.sound (Same.stays c.loop-i.invariant.same)

pub switch_row-requires-clause-row : goal.switch_row-requires-clause-row
switch_row-requires-clause-row g c =
    let old = chart (g.B.Board.state c.args.board.now) in
    let now = chart (g.B.Board.state c.loop-i.board) in
    let going = Framed.shape (Stays.framed (Same.stays c.loop-i.invariant.same)) in
    let rows : now.shape.rows ≡ old.shape.rows = ap (λ (sh : Shape). sh.rows) going in
    let fits = Numbers.fills_fit (Sound.numbers c.requires.sound) c.in_ok-spare.spare in
    let fill = c.in_ok-i-end.ensures.1 in
    let less = c.loop-i-test.true in
    omega arith

pub switch_row-requires-clause-spare : goal.switch_row-requires-clause-spare
switch_row-requires-clause-spare g c =
    let going = Framed.shape (Stays.framed (Same.stays c.loop-i.invariant.same)) in
    subst (λ (sh : Shape). c.in_ok-spare.spare < sh.segments) (sym going) c.in_ok-spare.ensures.spare.segment

pub returns-in_err-switch_row-clause-same : goal.returns-in_err-switch_row-clause-same
returns-in_err-switch_row-clause-same g c =
    let old = chart (g.B.Board.state c.args.board.now) in
    let now = chart (g.B.Board.state c.loop-i.board) in
    then_same 0 0 old now (chart (g.B.Board.state c.switch_row.new.board)) c.loop-i.invariant.same c.switch_row.ensures.same

pub replace_segment-requires-clause-sound : goal.replace_segment-requires-clause-sound
replace_segment-requires-clause-sound g c = Stays.sound (Same.stays c.loop-i.invariant.same)

pub replace_segment-requires-clause-position : goal.replace_segment-requires-clause-position
replace_segment-requires-clause-position g c =
    let going = Framed.shape (Stays.framed (Same.stays c.loop-i.invariant.same)) in
    subst (λ (sh : Shape). c.args.position < positions_of sh) (sym going) c.requires.position

pub replace_segment-requires-clause-segment : goal.replace_segment-requires-clause-segment
replace_segment-requires-clause-segment g c =
    let going = Framed.shape (Stays.framed (Same.stays c.loop-i.invariant.same)) in
    subst (λ (sh : Shape). c.in_ok-spare.spare < sh.segments) (sym going) c.in_ok-spare.ensures.spare.segment

pub replace_segment-requires-clause-spare : goal.replace_segment-requires-clause-spare
replace_segment-requires-clause-spare g c on =
    let old = chart (g.B.Board.state c.args.board.now) in
    let now = chart (g.B.Board.state c.loop-i.board) in
    let going = Framed.shape (Stays.framed (Same.stays c.loop-i.invariant.same)) in
    subst (λ (sh : Shape). IsSpare sh now.fields.positions c.in_ok-spare.spare) (sym going)
    (subst (λ (x : Fields). IsSpare old.shape x.positions c.in_ok-spare.spare) (sym (SwitchesRows.fields c.loop-i.invariant.rows)) c.in_ok-spare.ensures.spare)

pub replace_segment-requires-clause-switching : goal.replace_segment-requires-clause-switching
replace_segment-requires-clause-switching g c on =
    let old = chart (g.B.Board.state c.args.board.now) in
    let now = chart (g.B.Board.state c.loop-i.board) in
    let kept = SwitchesRows.fields c.loop-i.invariant.rows in
    let here : get_or now.fields.positions c.args.position 0 ≡ c.args.segment = ap (λ (x : Fields). get_or x.positions c.args.position 0) kept ∙ c.requires.here in
    ap (λ (x : Fields). x.job) kept ∙ c.requires.switching ∙ ap (λ (s : ℕ). Some (Switch s)) (sym here)

pub returns-in_err-replace_segment-clause-same : goal.returns-in_err-replace_segment-clause-same
returns-in_err-replace_segment-clause-same g c =
    let old = chart (g.B.Board.state c.args.board.now) in
    let now = chart (g.B.Board.state c.loop-i.board) in
    then_same 0 0 old now (chart (g.B.Board.state c.replace_segment.new.board)) c.loop-i.invariant.same c.replace_segment.ensures.same

pub begin_erase-requires-clause-sound : goal.begin_erase-requires-clause-sound
begin_erase-requires-clause-sound g c = Stays.sound (Same.stays c.replace_segment.ensures.same)

pub returns-clause-same : goal.returns-clause-same
returns-clause-same g c =
    let old = chart (g.B.Board.state c.args.board.now) in
    let now = chart (g.B.Board.state c.loop-i.board) in
    let mid = chart (g.B.Board.state c.replace_segment.new.board) in
    let new = chart (g.B.Board.state c.begin_erase.new.board) in
    then_same 0 0 old mid new (then_same 0 0 old now mid c.loop-i.invariant.same c.replace_segment.ensures.same) c.begin_erase.ensures.same

pub returns-clause-flash : goal.returns-clause-flash
returns-clause-flash g c =
    ok-map c.begin_erase.result _ _ c.begin_erase.ensures.fields (λ is. ap (λ (x : Chart). x.flash) is ∙ ap (λ (x : Chart). x.flash) c.in_ok-replace_segment.ensures.fields ∙ c.loop-i.invariant.flash)
