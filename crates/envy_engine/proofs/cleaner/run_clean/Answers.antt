use Rattle.std.proofs.Common.{◌≡◌, ◌∙◌, ◌+◌, ℕ, sym, ap, subst, arith, ◌≤◌}
use Rattle.envy_base.specs.State.{IsBoard}
use Rattle.envy_base.specs.declared.shape.Shape.{Shape}
use Rattle.envy_map.specs.Fields.{Chart, chart}
use Rattle.envy_soundness.specs.Same.{Same, Stays, Framed, Counted}
use Rattle.envy_reloc.specs.Cleaning.{Cleans}
use Rattle.envy_engine.specs.declared.parts.Parts.{Parts}
use Rattle.envy_engine.proofs.BudgetLemmas.{Budget-begun}
use Rattle.envy_engine.proofs.FlushLemmas.{on-ok}
use Rattle.envy_engine.proofs.Leaving.{leaves_then, counts_bad_then}
use Rattle.envy_base.specs.Shape.{IsShape}
use Rattle.envy_soundness.proofs.Sames.{same_within, same_two as Same-two}
use Rattle.envy_reloc.proofs.Exits.{unpowered, off-after, off-if, off-bad}
use Rattle.envy_engine.proofs.FlushAnswers.{ready-left}
use Rattle.envy_engine.proofs.CleanLemmas.{parts-begun, parts-cleaned}
use Rattle.envy_reloc.proofs.CleanLemmas.{cleans-begun}
use Rattle.envy_engine.proofs.cleaner.run_clean.Goals as goal

pub finish_clean-requires-clause-budget : goal.finish_clean-requires-clause-budget
finish_clean-requires-clause-budget g c =
    let mid = chart (g.B.Board.state c.begin_clean.new.board) in
    let e = c.in_ok-begin_clean.ensures in
    let is = c.left-few.ensures.is in
    let few = c.left-few.ensures.few in
    let shape : mid.shape ≡ (chart (g.B.Board.state c.args.board.now)).shape = Framed.shape (Stays.framed (Same.stays e.same)) in
    rw (c.shape-rows.ensures, sym shape)
    (Budget-begun mid c.begin_clean.new.parts _ (Stays.sound (Same.stays e.same)) (IsBoard.shape (g.met.B.Board.lawful c.begin_clean.new.board)) (ap (λ (z : Chart). z.fields.job) e.cleans.fields) (ap (λ (z : Parts). z.stages) e.parts ∙ c.requires.rest.1) (omega arith))

pub returns-clause-same : goal.returns-clause-same
returns-clause-same g c =
    let old = chart (g.B.Board.state c.args.board.now) in
    let p = old.shape.rows in
    Same-two 0 0 (p + 5) 2 (p + 5) 2 _ _ _ (omega arith) (omega arith) c.begin_clean.ensures.same
    (subst (λ (r : ℕ). Same (r + 5) 2 (chart (g.B.Board.state c.begin_clean.new.board)) (chart (g.B.Board.state c.finish_clean.new.board))) (ap (λ (sh : Shape). sh.rows) c.shape-rows.ensures) c.finish_clean.ensures.same)

pub returns-clause-here : goal.returns-clause-here
returns-clause-here g c on =
    let places : (chart (g.B.Board.state c.begin_clean.new.board)).fields.places ≡ (chart (g.B.Board.state c.args.board.now)).fields.places = ap (λ (z : Chart). z.fields.places) c.in_ok-begin_clean.ensures.cleans.fields in
    rw (← places) (c.finish_clean.ensures.here on)

pub returns-clause-leaves : goal.returns-clause-leaves
returns-clause-leaves g c = leaves_then _ (chart (g.B.Board.state c.begin_clean.new.board)) _ _ c.begin_clean.new.parts _ c.begin_clean.ensures.leaves c.finish_clean.ensures.leaves

pub returns-clause-cleans : goal.returns-clause-cleans
returns-clause-cleans g c =
    let old = chart (g.B.Board.state c.args.board.now) in
    let mid = chart (g.B.Board.state c.begin_clean.new.board) in
    let new = chart (g.B.Board.state c.finish_clean.new.board) in
    let x = c.args.parts.now in
    let y = c.begin_clean.new.parts in
    let z = c.finish_clean.new.parts in
    let e = c.in_ok-begin_clean.ensures in
    let k = c.args.position in
    let shape : mid.shape ≡ old.shape = Framed.shape (Stays.framed (Same.stays e.same)) in
    let counted : y.reloc.erased ≡ x.reloc.erased = e.none.erased in
    let start = cleans-begun old mid k x.reloc.erased c.requires.ready.sound (IsBoard.shape (g.met.B.Board.lawful c.args.board.now)) c.requires.rest.0 c.requires.position c.requires.dead e.cleans.fields in
    on-ok c.finish_clean.result _ _
    (λ f. record {
      whole = record { begun = mid; plan = y; begins = e.cleans; finishes = f.finishes };
      chooser = ap (λ (w : Parts). w.chooser) c.finish_clean.ensures.parts ∙ e.cleans.chooser;
      cleans = subst (λ (sh : Shape). Cleans sh old.fields.positions k x.reloc.erased new.fields z.reloc.erased) shape (f.cleans old.fields.positions k x.reloc.erased (subst (λ (sh : Shape). Cleans sh old.fields.positions k x.reloc.erased mid.fields y.reloc.erased) (sym shape) (rw counted start)));
    })
    c.finish_clean.ensures.finishes

pub returns-clause-stops : goal.returns-clause-stops
returns-clause-stops g c is =
    let e = c.in_ok-begin_clean.ensures in
    let f = c.finish_clean.ensures in
    record {
      chooser = ap (λ (w : Parts). w.chooser) f.parts ∙ e.cleans.chooser;
      stops = record { begun = chart (g.B.Board.state c.begin_clean.new.board); plan = c.begin_clean.new.parts; begins = e.cleans; stops = f.stops is };
      bads = counts_bad_then (Counted.bads (Stays.counted (Same.stays e.same))) (Counted.bads (Stays.counted (Same.stays f.same))) (f.bad is);
    }

pub begin_clean-requires-clause-ready : goal.begin_clean-requires-clause-ready
begin_clean-requires-clause-ready g c = c.requires.ready

pub begin_clean-requires-clause-idle : goal.begin_clean-requires-clause-idle
begin_clean-requires-clause-idle g c = c.requires.rest.0

pub begin_clean-requires-clause-position : goal.begin_clean-requires-clause-position
begin_clean-requires-clause-position g c = c.requires.position

pub begin_clean-requires-clause-aside : goal.begin_clean-requires-clause-aside
begin_clean-requires-clause-aside g c = c.requires.aside

pub returns-in_err-begin_clean-clause-same : goal.returns-in_err-begin_clean-clause-same
returns-in_err-begin_clean-clause-same g c = let p = (g.B.Board.state c.args.board.now).shape.rows in same_within (p + 5) 2 (chart (g.B.Board.state c.args.board.now)) (chart (g.B.Board.state c.begin_clean.new.board)) c.begin_clean.ensures.same

pub returns-in_err-begin_clean-clause-leaves : goal.returns-in_err-begin_clean-clause-leaves
returns-in_err-begin_clean-clause-leaves g c = c.begin_clean.ensures.leaves

pub returns-in_err-begin_clean-clause-here : goal.returns-in_err-begin_clean-clause-here
returns-in_err-begin_clean-clause-here g c on = unpowered (g.B.Board.state c.begin_clean.new.board).on c.in_err-begin_clean.ensures.power on

pub returns-in_err-begin_clean-clause-parts : goal.returns-in_err-begin_clean-clause-parts
returns-in_err-begin_clean-clause-parts g c = parts-begun c.args.parts.now c.begin_clean.new.parts c.begin_clean.ensures.parts

pub returns-in_err-begin_clean-clause-cleans : goal.returns-in_err-begin_clean-clause-cleans
returns-in_err-begin_clean-clause-cleans g c = off-if c.from_residual.result _ c.from_residual.ensures.1

pub returns-in_err-begin_clean-clause-stops : goal.returns-in_err-begin_clean-clause-stops
returns-in_err-begin_clean-clause-stops g c is = off-bad c.from_residual.result c.from_residual.ensures.1 is

pub returns-in_err-begin_clean-clause-power : goal.returns-in_err-begin_clean-clause-power
returns-in_err-begin_clean-clause-power g c = off-after c.from_residual.result (g.B.Board.state c.begin_clean.new.board).on c.in_err-begin_clean.ensures.power c.from_residual.ensures.1

pub finish_clean-requires-clause-ready : goal.finish_clean-requires-clause-ready
finish_clean-requires-clause-ready g c = ready-left 0 0 (chart (g.B.Board.state c.args.board.now)) (chart (g.B.Board.state c.begin_clean.new.board)) c.args.parts.now c.begin_clean.new.parts c.in_ok-begin_clean.ensures.power c.begin_clean.ensures.same c.begin_clean.ensures.leaves

pub finish_clean-requires-clause-none : goal.finish_clean-requires-clause-none
finish_clean-requires-clause-none g c = ap (λ (z : Parts). z.stages) c.begin_clean.ensures.parts ∙ c.requires.rest.1

pub finish_clean-requires-clause-few : goal.finish_clean-requires-clause-few
finish_clean-requires-clause-few g c = subst (λ (n : ℕ). n ≤ 65536) (sym (ap (λ (sh : Shape). sh.rows) c.shape-rows.ensures)) (IsShape.few_rows (IsBoard.shape (g.met.B.Board.lawful c.args.board.now)))

pub returns-clause-parts : goal.returns-clause-parts
returns-clause-parts g c = parts-cleaned c.args.parts.now c.begin_clean.new.parts c.finish_clean.new.parts c.begin_clean.ensures.parts c.finish_clean.ensures.parts

pub returns-clause-power : goal.returns-clause-power
returns-clause-power g c = c.finish_clean.ensures.power
