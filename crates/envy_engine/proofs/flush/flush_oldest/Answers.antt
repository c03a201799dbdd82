use Rattle.std.proofs.Common.{◌≡◌, ◌∙◌, ◌<◌, ◌*◌, ◌+◌, inl, length, None, Some, sym, ap, arith, ℕ}
use Rattle.std.specs.List.{filter}
use Rattle.envy_frames.specs.Order.{Order, is_other}
use Rattle.std.proofs.lemmas.List.{get_or-set_same}
use Rattle.envy_base.specs.declared.fields.Place.TheVariants.{Row}
use Rattle.std.proofs.lemmas.Result.{err_from_is_err_and}
use Rattle.envy_map.specs.Fields.{place, Fields, chart}
use Rattle.envy_soundness.specs.Sound.{Sound, Places}
use Rattle.envy_frames.specs.Agreement.{AreHeld, IsHeld}
use Rattle.envy_frames.proofs.Agreeing.{oldest-held}
use Rattle.envy_frames.proofs.Rotation.{filter-oldest}
use Rattle.envy_soundness.specs.Same.{Same, Stays, Framed, Counted}
use Rattle.envy_base.specs.Counting.{up}
use Rattle.envy_engine.specs.declared.parts.Parts.{Parts}
use Rattle.envy_engine.proofs.Leaving.{leaves_then}
use Rattle.envy_engine.proofs.FlushLemmas.{err-at, on-ok, GetsRow-after, StopsFor-gets, bad-rises}
use Rattle.envy_soundness.proofs.Composition.{Same-more}
use Rattle.envy_reloc.proofs.Exits.{err-after, err-if}
use Rattle.envy_engine.proofs.FlushAnswers.{ready-left, page-left}
use Rattle.envy_soundness.proofs.Sames.{same_two as Same-two}
use Rattle.envy_engine.proofs.flush.flush_oldest.Goals as goal

pub returns-clause-same : goal.returns-clause-same
returns-clause-same g c = let p = (g.B.Board.state c.args.board.now).shape.rows in Same-two (4 * p + 12) 6 1 0 (4 * p + 13) 6 _ _ _ (omega arith) (omega arith) c.get_row.ensures.same c.flush_into.ensures.same

pub returns-clause-flushes : goal.returns-clause-flushes
returns-clause-flushes g c =
    let old = chart (g.B.Board.state c.args.board.now) in
    let mid = chart (g.B.Board.state c.get_row.new.board) in
    let new = chart (g.B.Board.state c.flush_into.new.board) in
    let x = c.args.parts.now in
    let y = c.get_row.new.parts in
    let z = c.flush_into.new.parts in
    let e = c.flush_into.ensures in
    let held = c.in-Some.held in
    let row = c.in_ok-row.row in
    let r = c.requires.ready in
    let shape : new.shape ≡ mid.shape = Framed.shape (Stays.framed (Same.stays e.same)) in
    let before : mid.shape ≡ old.shape = Framed.shape (Stays.framed (Same.stays c.get_row.ensures.same)) in
    let own = (oldest-held old.shape old.fields.places x.frames.held held r.agrees.held (sym c.in-Some.ensures.first)).0 in
    let page : held.page < mid.shape.pages = rw before (IsHeld.page own) in
    let long : length mid.fields.places ≡ mid.shape.pages = Places.long (Sound.places (Stays.sound (Same.stays c.get_row.ensures.same))) in
    on-ok c.flush_into.result _ _
    (λ m. record {
      oldest = held;
      first = sym c.in-Some.ensures.first;
      row = row;
      gets = GetsRow-after held.home held.page row old x mid y new z shape (ap (λ (f : Fields). f.job) m.fields) (ap (λ (f : Fields). f.fills) m.fields) (ap (λ (f : Fields). f.positions) m.fields) m.erases (ap (λ (p : Parts). p.chooser) e.parts) (ap (λ (p : Parts). p.reloc) e.parts) (ap (λ (p : Parts). p.stages) e.parts) c.in_ok-row.ensures.gets.gets;
      here = ap (λ (f : Fields). place f held.page) m.fields ∙ get_or-set_same mid.fields.places held.page (Some (Row row)) None (rw long page);
      held = m.held ∙ ap (λ (o : Order). filter (is_other held.frame) o.held) c.get_row.ensures.keeps.frames ∙ filter-oldest x.frames.held held (sym c.in-Some.ensures.first) (AreHeld.apart r.agrees.held);
      flushes = ap (λ (p : Parts). p.flushes) e.parts ∙ ap up c.get_row.ensures.keeps.flushes;
    })
    e.moves

pub returns-clause-leaves : goal.returns-clause-leaves
returns-clause-leaves g c = leaves_then _ (chart (g.B.Board.state c.get_row.new.board)) _ _ c.get_row.new.parts _ c.get_row.ensures.leaves c.flush_into.ensures.leaves

pub returns-clause-stops : goal.returns-clause-stops
returns-clause-stops g c is =
    let e = c.flush_into.ensures in
    let s = e.stops is in
    let rise = Counted.bads (Stays.counted (Same.stays c.get_row.ensures.same)) in
    record {
      frames = s.frames ∙ c.get_row.ensures.keeps.frames;
      oldest = c.in-Some.held;
      first = sym c.in-Some.ensures.first;
      stops = StopsFor-gets c.in-Some.held.home c.in-Some.held.page c.in_ok-row.row (chart (g.B.Board.state c.args.board.now)) c.args.parts.now (chart (g.B.Board.state c.get_row.new.board)) c.get_row.new.parts (chart (g.B.Board.state c.flush_into.new.board)) c.flush_into.new.parts
          (Framed.shape (Stays.framed (Same.stays e.same))) s.fields s.erases (ap (λ (p : Parts). p.chooser) e.parts) (ap (λ (p : Parts). p.reloc) e.parts) (ap (λ (p : Parts). p.stages) e.parts) (ap (λ (p : Parts). p.flushes) e.parts ∙ ap up c.get_row.ensures.keeps.flushes) c.in_ok-row.ensures.gets.gets;
      bads = λ low. rw s.bads (bad-rises _ _ rise low);
    }

pub returns-in_err-row-clause-stops : goal.returns-in_err-row-clause-stops
returns-in_err-row-clause-stops g c =
    let p = err_from_is_err_and c.from_residual.result c.from_residual.ensures.1 in
    rw (p.1, p.2) (λ is. let s = c.in_err-row.ensures.stops (err-at _ _ is) in record { frames = c.get_row.ensures.keeps.frames; oldest = c.in-Some.held; first = sym c.in-Some.ensures.first; stops = record { noted = s.noted; halted = inl s.halted }; bads = s.bads })

pub get_row-requires-clause-ready : goal.get_row-requires-clause-ready
get_row-requires-clause-ready g c = c.requires.ready

pub get_row-requires-clause-page : goal.get_row-requires-clause-page
get_row-requires-clause-page g c = IsHeld.page (oldest-held _ _ c.args.parts.now.frames.held c.in-Some.held c.requires.ready.agrees.held (sym c.in-Some.ensures.first)).0

pub get_row-requires-clause-home : goal.get_row-requires-clause-home
get_row-requires-clause-home g c = IsHeld.home (oldest-held _ _ c.args.parts.now.frames.held c.in-Some.held c.requires.ready.agrees.held (sym c.in-Some.ensures.first)).0

pub flush_into-requires-clause-ready : goal.flush_into-requires-clause-ready
flush_into-requires-clause-ready g c = ready-left _ _ (chart (g.B.Board.state c.args.board.now)) (chart (g.B.Board.state c.get_row.new.board)) c.args.parts.now c.get_row.new.parts c.in_ok-row.ensures.power c.get_row.ensures.same c.get_row.ensures.leaves

pub flush_into-requires-clause-page : goal.flush_into-requires-clause-page
flush_into-requires-clause-page g c =
    let held = (oldest-held _ _ c.args.parts.now.frames.held c.in-Some.held c.requires.ready.agrees.held (sym c.in-Some.ensures.first)).0 in
    page-left _ _ c.in-Some.held.page (chart (g.B.Board.state c.args.board.now)) (chart (g.B.Board.state c.get_row.new.board)) c.get_row.ensures.same (IsHeld.page held)

pub flush_into-requires-clause-here : goal.flush_into-requires-clause-here
flush_into-requires-clause-here g c =
    let held = (oldest-held _ _ c.args.parts.now.frames.held c.in-Some.held c.requires.ready.agrees.held (sym c.in-Some.ensures.first)).0 in
    (c.get_row.ensures.keeps.here c.in_ok-row.ensures.power c.in-Some.held.page c.in-Some.held.frame).1 (IsHeld.here held)

pub flush_into-requires-clause-fresh : goal.flush_into-requires-clause-fresh
flush_into-requires-clause-fresh g c = c.in_ok-row.ensures.gets.fresh

pub returns-in_err-row-clause-same : goal.returns-in_err-row-clause-same
returns-in_err-row-clause-same g c = let p = (g.B.Board.state c.args.board.now).shape.rows in Same-more (4 * p + 12) 6 (4 * p + 13) 6 _ _ (omega arith) (omega arith) c.get_row.ensures.same

pub returns-in_err-row-clause-leaves : goal.returns-in_err-row-clause-leaves
returns-in_err-row-clause-leaves g c = c.get_row.ensures.leaves

pub returns-in_err-row-clause-flushes : goal.returns-in_err-row-clause-flushes
returns-in_err-row-clause-flushes g c = err-if c.from_residual.result _ c.in_err-row.field-0.0 c.from_residual.ensures.1

pub returns-in_err-row-clause-power : goal.returns-in_err-row-clause-power
returns-in_err-row-clause-power g c = err-after ℕ c.from_residual.result (g.B.Board.state c.get_row.new.board).on c.in_err-row.field-0.0 c.in_err-row.ensures.power c.from_residual.ensures.1

pub returns-clause-power : goal.returns-clause-power
returns-clause-power g c = c.flush_into.ensures.power
