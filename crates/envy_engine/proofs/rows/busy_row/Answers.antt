use Rattle.std.proofs.Common.{◌≡◌, ◌*◌, ◌+◌, ℕ, Option, inl, inr, ap, subst, arith, ◌<◌, ◌-◌, get_or}
use Rattle.envy_base.specs.declared.shape.Shape.{Shape}
use Rattle.std.specs.Prelude.{MatchOption, IfSome}
use Rattle.std.proofs.lemmas.Result.{err_from_is_err_and}
use Rattle.envy_map.specs.Fields.{Chart, chart}
use Rattle.envy_soundness.specs.Same.{Same, Stays, Framed, Counted}
use Rattle.envy_engine.specs.declared.parts.Parts.{Parts}
use Rattle.envy_engine.specs.Agreement.{Steady}
use Rattle.envy_engine.specs.Flushing.{GetsRow, FinishesFirst, IsNoneAvailable, IsLowestAvailable}
use Rattle.envy_engine.proofs.Leaving.{leaves_then, keeps_then, counts_bad_then}
use Rattle.envy_engine.proofs.FlushLemmas.{err-at, if-done, never-idle, none-of, stops-after, none-left, no-stage-left}
use Rattle.envy_reloc.specs.Plan.{IsFreeOf}
use Rattle.envy_soundness.proofs.Composition.{Same-more}
use Rattle.envy_soundness.proofs.Sames.{same_within, same_two as Same-two}
use Rattle.envy_reloc.proofs.Exits.{unpowered, off-after, off-if, off-bad, err-after, err-if, ok-bad}
use Rattle.envy_engine.proofs.FlushAnswers.{ready-left, page-left, position-left, keeps-off, keeps-places}
use Rattle.envy_engine.proofs.rows.busy_row.Goals as goal
use Rattle.envy_base.specs.Shape.{positions_of}

pub returns-clause-same : goal.returns-clause-same
returns-clause-same g c =
    let old = chart (g.B.Board.state c.args.board.now) in
    let mid = chart (g.B.Board.state c.finish.new.board) in
    let new = chart (g.B.Board.state c.idle_row.new.board) in
    let p = old.shape.rows in
    let shape : mid.shape ≡ old.shape = Framed.shape (Stays.framed (Same.stays c.finish.ensures.same)) in
    Same-two (3 * p + 5) 4 (p + 5) 2 (4 * p + 12) 6 old mid new (omega arith) (omega arith) c.finish.ensures.same
    (subst (λ (sh : Shape). Same (sh.rows + 5) 2 mid new) shape c.idle_row.ensures.same)

pub returns-clause-leaves : goal.returns-clause-leaves
returns-clause-leaves g c = leaves_then _ (chart (g.B.Board.state c.finish.new.board)) _ _ c.finish.new.parts _ c.finish.ensures.leaves c.idle_row.ensures.leaves

pub returns-clause-keeps : goal.returns-clause-keeps
returns-clause-keeps g c = keeps_then _ (chart (g.B.Board.state c.finish.new.board)) _ _ c.finish.new.parts _ c.in_ok-finish.ensures.power c.finish.ensures.keeps c.idle_row.ensures.keeps

pub returns-in-Some-clause-gets : goal.returns-in-Some-clause-gets
returns-in-Some-clause-gets g c =
    let e = c.in_ok-claim_at.ensures.takes in
    let f = c.claim_at.ensures in
    let old = chart (g.B.Board.state c.args.board.now) in
    let job = ap (λ (w : Chart). w.fields.job) e.changes.fields in
    let stages = ap (λ (z : Parts). z.stages) f.parts in
    record {
      fresh = e.fresh;
      gets = record {
        chooses = λ idle none. absurd (never-idle _ _ c.requires.busy idle none);
        busy = λ some. inl (record {
          position = c.in-Some.position;
          lowest = subst (λ (o : Option ℕ). MatchOption o (IsNoneAvailable c.args.parts.now c.args.home c.args.page old) (λ k. IsLowestAvailable c.args.parts.now c.args.home c.args.page old k)) c.in-Some.is c.in_ok-position.ensures.lowest;
          claims = e.claims;
          job = job;
          stages = stages;
          reloc = ap (λ (z : Parts). z.reloc) f.parts;
        });
        ends = (inl job, inl stages);
      };
    }

pub returns-clause-gets : goal.returns-clause-gets
returns-clause-gets g c =
    let old = chart (g.B.Board.state c.args.board.now) in
    let mid = chart (g.B.Board.state c.finish.new.board) in
    let new = chart (g.B.Board.state c.idle_row.new.board) in
    let e = c.in_ok-finish.ensures in
    let first : FinishesFirst c.args.home c.args.page old c.args.parts.now mid c.finish.new.parts = record { none = none-of c.in_ok-position.field-0 _ _ c.in_default.not-Some c.in_ok-position.ensures.lowest; finishes = e.finishes; chooser = e.chooser; pool = (Steady.agrees e.leaves.steady e.power).pool } in
    if-done c.idle_row.result _ _ c.idle_row.ensures.gets
    (λ row got. let gets = got.gets in record {
      fresh = got.fresh;
      gets = record {
        chooses = λ idle none. absurd (never-idle _ _ c.requires.busy idle none);
        busy = λ some. let c2 = GetsRow.chooses gets e.finishes.job e.finishes.stages in inr (record { mid = mid; between = c.finish.new.parts; first = first; choice = c2.0; chosen = c2.1; follows = c2.2 });
        ends = (inr (none-left mid.fields.job new.fields.job e.finishes.job (GetsRow.ends gets).0), inr (no-stage-left c.finish.new.parts.stages c.idle_row.new.parts.stages e.finishes.stages (GetsRow.ends gets).1));
      };
    })

pub returns-in_err-finish-clause-stops : goal.returns-in_err-finish-clause-stops
returns-in_err-finish-clause-stops g c =
    let p = err_from_is_err_and c.from_residual-in_err-finish.result c.from_residual-in_err-finish.ensures.1 in
    let e = c.in_err-finish.ensures in
    rw (p.1, p.2) (λ is. record {
      noted = λ idle none. absurd (never-idle _ _ c.requires.busy idle none);
      halted = inl (c.requires.busy, none-of c.in_ok-position.field-0 _ _ c.in_default.not-Some c.in_ok-position.ensures.lowest, e.stops (err-at _ _ is));
      bads = e.bad (err-at _ _ is);
    })

pub returns-clause-stops : goal.returns-clause-stops
returns-clause-stops g c is =
    let old = chart (g.B.Board.state c.args.board.now) in
    let mid = chart (g.B.Board.state c.finish.new.board) in
    let e = c.in_ok-finish.ensures in
    let s = c.idle_row.ensures.stops is in
    let rise = Counted.bads (Stays.counted (Same.stays c.finish.ensures.same)) in
    let first : FinishesFirst c.args.home c.args.page old c.args.parts.now mid c.finish.new.parts = record { none = none-of c.in_ok-position.field-0 _ _ c.in_default.not-Some c.in_ok-position.ensures.lowest; finishes = e.finishes; chooser = e.chooser; pool = (Steady.agrees e.leaves.steady e.power).pool } in
    record {
      noted = λ idle none. absurd (never-idle _ _ c.requires.busy idle none);
      halted = stops-after c.args.home c.args.page old c.args.parts.now mid c.finish.new.parts (chart (g.B.Board.state c.idle_row.new.board)) c.idle_row.new.parts c.requires.busy e.finishes.job e.finishes.stages first s.halted;
      bads = counts_bad_then rise (Counted.bads (Stays.counted (Same.stays c.idle_row.ensures.same))) s.bads;
    }

pub usable-requires-clause-ready : goal.usable-requires-clause-ready
usable-requires-clause-ready g c = c.requires.ready

pub usable-requires-clause-home : goal.usable-requires-clause-home
usable-requires-clause-home g c = c.requires.home

pub usable-requires-clause-page : goal.usable-requires-clause-page
usable-requires-clause-page g c = c.requires.page

pub returns-in_err-position : goal.returns-in_err-position
returns-in_err-position g c = unpowered (g.B.Board.state c.args.board.now).on c.in_err-position.ensures.off c.requires.ready.on

pub claim_at-requires-clause-ready : goal.claim_at-requires-clause-ready
claim_at-requires-clause-ready g c = c.requires.ready

pub claim_at-requires-clause-position : goal.claim_at-requires-clause-position
claim_at-requires-clause-position g c = subst (λ (o : Option ℕ). IfSome o (λ k. k < positions_of (g.B.Board.state c.args.board.now).shape)) c.in-Some.is c.in_ok-position.ensures.within

pub claim_at-requires-clause-page : goal.claim_at-requires-clause-page
claim_at-requires-clause-page g c = c.requires.page

pub claim_at-requires-clause-room : goal.claim_at-requires-clause-room
claim_at-requires-clause-room g c =
    let pool = c.args.parts.now.space in
    subst (λ (o : Option ℕ). IfSome o (λ k. get_or pool.fills (get_or pool.positions k 0) 0 < (g.B.Board.state c.args.board.now).shape.rows)) c.in-Some.is c.in_ok-position.ensures.room

pub claim_at-requires-clause-free : goal.claim_at-requires-clause-free
claim_at-requires-clause-free g c = subst (λ (o : Option ℕ). IfSome o (λ k. IsFreeOf (chart (g.B.Board.state c.args.board.now)).fields.job (get_or c.args.parts.now.space.positions k 0))) c.in-Some.is c.in_ok-position.ensures.free

pub returns-in_err-claim_at-clause-same : goal.returns-in_err-claim_at-clause-same
returns-in_err-claim_at-clause-same g c = let p = (g.B.Board.state c.args.board.now).shape.rows in same_within (4 * p + 12) 6 (chart (g.B.Board.state c.args.board.now)) (chart (g.B.Board.state c.claim_at.new.board)) c.claim_at.ensures.same

pub returns-in_err-claim_at-clause-leaves : goal.returns-in_err-claim_at-clause-leaves
returns-in_err-claim_at-clause-leaves g c = c.claim_at.ensures.leaves

pub returns-in_err-claim_at-clause-keeps : goal.returns-in_err-claim_at-clause-keeps
returns-in_err-claim_at-clause-keeps g c = keeps-off (chart (g.B.Board.state c.args.board.now)) (chart (g.B.Board.state c.claim_at.new.board)) c.args.parts.now c.claim_at.new.parts c.in_err-claim_at.ensures.power (ap (λ (z : Parts). z.frames) c.claim_at.ensures.parts) (ap (λ (z : Parts). z.flushes) c.claim_at.ensures.parts)

pub returns-in_err-claim_at-clause-gets : goal.returns-in_err-claim_at-clause-gets
returns-in_err-claim_at-clause-gets g c = off-if c.from_residual-in_err-claim_at.result _ c.from_residual-in_err-claim_at.ensures.1

pub returns-in_err-claim_at-clause-stops : goal.returns-in_err-claim_at-clause-stops
returns-in_err-claim_at-clause-stops g c is = off-bad c.from_residual-in_err-claim_at.result c.from_residual-in_err-claim_at.ensures.1 is

pub returns-in_err-claim_at-clause-power : goal.returns-in_err-claim_at-clause-power
returns-in_err-claim_at-clause-power g c = off-after c.from_residual-in_err-claim_at.result (g.B.Board.state c.claim_at.new.board).on c.in_err-claim_at.ensures.power c.from_residual-in_err-claim_at.ensures.1

pub returns-in-Some-clause-same : goal.returns-in-Some-clause-same
returns-in-Some-clause-same g c = let p = (g.B.Board.state c.args.board.now).shape.rows in same_within (4 * p + 12) 6 (chart (g.B.Board.state c.args.board.now)) (chart (g.B.Board.state c.claim_at.new.board)) c.claim_at.ensures.same

pub returns-in-Some-clause-leaves : goal.returns-in-Some-clause-leaves
returns-in-Some-clause-leaves g c = c.claim_at.ensures.leaves

pub returns-in-Some-clause-keeps : goal.returns-in-Some-clause-keeps
returns-in-Some-clause-keeps g c = keeps-places (chart (g.B.Board.state c.args.board.now)) (chart (g.B.Board.state c.claim_at.new.board)) c.args.parts.now c.claim_at.new.parts (ap (λ (w : Chart). w.fields.places) c.in_ok-claim_at.ensures.takes.changes.fields) (ap (λ (z : Parts). z.frames) c.claim_at.ensures.parts) (ap (λ (z : Parts). z.flushes) c.claim_at.ensures.parts)

pub returns-in-Some-clause-stops : goal.returns-in-Some-clause-stops
returns-in-Some-clause-stops g c is = ok-bad c.in_ok-claim_at.field-0 is

pub returns-in-Some-clause-power : goal.returns-in-Some-clause-power
returns-in-Some-clause-power g c = c.in_ok-claim_at.ensures.power

pub finish-requires : goal.finish-requires
finish-requires g c = record { ready = c.requires.ready }

pub returns-in_err-finish-clause-same : goal.returns-in_err-finish-clause-same
returns-in_err-finish-clause-same g c = let p = (g.B.Board.state c.args.board.now).shape.rows in Same-more (3 * p + 5) 4 (4 * p + 12) 6 (chart (g.B.Board.state c.args.board.now)) (chart (g.B.Board.state c.finish.new.board)) (omega arith) (omega arith) c.finish.ensures.same

pub returns-in_err-finish-clause-leaves : goal.returns-in_err-finish-clause-leaves
returns-in_err-finish-clause-leaves g c = c.finish.ensures.leaves

pub returns-in_err-finish-clause-keeps : goal.returns-in_err-finish-clause-keeps
returns-in_err-finish-clause-keeps g c = c.finish.ensures.keeps

pub returns-in_err-finish-clause-gets : goal.returns-in_err-finish-clause-gets
returns-in_err-finish-clause-gets g c = err-if c.from_residual-in_err-finish.result _ c.in_err-finish.field-0.0 c.from_residual-in_err-finish.ensures.1

pub returns-in_err-finish-clause-power : goal.returns-in_err-finish-clause-power
returns-in_err-finish-clause-power g c = err-after (Unit {0}) c.from_residual-in_err-finish.result (g.B.Board.state c.finish.new.board).on c.in_err-finish.field-0.0 c.in_err-finish.ensures.power c.from_residual-in_err-finish.ensures.1

pub idle_row-requires-clause-ready : goal.idle_row-requires-clause-ready
idle_row-requires-clause-ready g c = ready-left _ 4 (chart (g.B.Board.state c.args.board.now)) (chart (g.B.Board.state c.finish.new.board)) c.args.parts.now c.finish.new.parts c.in_ok-finish.ensures.power c.finish.ensures.same c.finish.ensures.leaves

pub idle_row-requires-clause-rest : goal.idle_row-requires-clause-rest
idle_row-requires-clause-rest g c = (c.in_ok-finish.ensures.finishes.job, c.in_ok-finish.ensures.finishes.stages)

pub idle_row-requires-clause-page : goal.idle_row-requires-clause-page
idle_row-requires-clause-page g c = page-left _ 4 c.args.page (chart (g.B.Board.state c.args.board.now)) (chart (g.B.Board.state c.finish.new.board)) c.finish.ensures.same c.requires.page

pub idle_row-requires-clause-home : goal.idle_row-requires-clause-home
idle_row-requires-clause-home g c = position-left _ 4 c.args.home (chart (g.B.Board.state c.args.board.now)) (chart (g.B.Board.state c.finish.new.board)) c.finish.ensures.same c.requires.home

pub returns-clause-power : goal.returns-clause-power
returns-clause-power g c = c.idle_row.ensures.power
