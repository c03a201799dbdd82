use Rattle.std.proofs.Common.{◌≡◌, ◌∙◌, ℕ, true, false, List, get_or, Some, refl, sym, ap, subst, ◌<◌, ◌-◌, ◌/◌}
use Rattle.envy_base.specs.declared.fields.Job.TheVariants.{Copy}
use Rattle.envy_map.specs.Fields.{Chart, chart, with_fields}
use Rattle.envy_map.specs.Writes.{with_job}
use Rattle.envy_soundness.specs.Same.{Same, Stays, Framed}
use Rattle.envy_space.specs.Pool.{IsPoolOf}
use Rattle.envy_table.proofs.HitLemmas.{Rests-refl}
use Rattle.envy_reloc.specs.Plan.{Plan}
use Rattle.envy_engine.specs.Cleaning.{AreMoves}
use Rattle.envy_engine.proofs.CountLemmas.{Counting-quiet}
use Rattle.envy_engine.proofs.AgreeLemmas.{Agrees-begun, Fits-moved, sizes_of}
use Rattle.std.specs.Prelude.{All}
use Rattle.envy_base.specs.declared.shape.Shape.{Shape}
use Rattle.envy_reloc.proofs.Exits.{unpowered, none-if, none-power}
use Rattle.envy_engine.proofs.cleaner.begin_clean.Goals as goal
use Rattle.envy_base.specs.Shape.{positions_of}

pub returns-clause-cleans : goal.returns-clause-cleans
returns-clause-cleans g c =
    let old = chart (g.B.Board.state c.args.board.now) in
    let new = chart (g.B.Board.state c.begin.new.board) in
    let k = c.args.position in
    let plan = c.begin.ensures.plan c.requires.ready.on in
    let order : get_or c.args.parts.now.space.positions k 0 ≡ get_or old.fields.positions k 0 = ap (λ (xs : List ℕ). get_or xs k 0) (IsPoolOf.positions c.requires.ready.agrees.pool) in
    record {
      fields = subst (λ (s : ℕ). new ≡ with_fields old (with_job (Some (Copy s)) old.fields)) order c.in_ok-begin.ensures.begins.fields;
      moves = subst (λ (xs : List ℕ). AreMoves old.shape old.fields k c.args.aside xs) (sym (ap (λ (p : Plan). p.moves) plan)) c.in_ok-plan.ensures.moves;
      takes = ap (λ (p : Plan). p.aside) plan ∙ c.in_ok-plan.ensures.takers;
      chooser = c.note_clean.ensures;
      parts = refl;
    }

pub returns-in_err-begin-clause-leaves : goal.returns-in_err-begin-clause-leaves
returns-in_err-begin-clause-leaves g c =
    let old = chart (g.B.Board.state c.args.board.now) in
    let new = chart (g.B.Board.state c.begin.new.board) in
    let r = c.requires.ready in
    let s = Same.stays (c.begin.ensures.same r.sound) in
    let plan = c.begin.ensures.plan r.on in
    record {
      steady = record {
        fits = Fits-moved old.shape new.shape c.args.parts.now _ (Framed.shape (Stays.framed s)) r.fits refl refl refl refl refl;
        agrees = λ on. absurd (let no : false ≡ true = sym c.in_err-begin.ensures.power ∙ on in cc);
      };
      counting = Counting-quiet old new c.args.parts.now _ (Stays.counted s) refl refl (record { copied = ap (λ (p : Plan). p.copied) plan; moved = ap (λ (p : Plan). p.moved) plan; erased = ap (λ (p : Plan). p.erased) plan }) (ap (λ (p : Plan). p.since) plan) (λ on. absurd (let no : false ≡ true = sym c.in_err-begin.ensures.power ∙ on in cc));
      rests = Rests-refl c.args.parts.now.cache;
    }

pub returns-clause-leaves : goal.returns-clause-leaves
returns-clause-leaves g c =
    let old = chart (g.B.Board.state c.args.board.now) in
    let new = chart (g.B.Board.state c.begin.new.board) in
    let r = c.requires.ready in
    let s = Same.stays (c.begin.ensures.same r.sound) in
    let plan = c.begin.ensures.plan r.on in
    let fields = c.in_ok-begin.ensures.begins.fields in
    record {
      steady = record {
        fits = Fits-moved old.shape new.shape c.args.parts.now _ (Framed.shape (Stays.framed s)) r.fits refl refl refl (ap sizes_of c.note_clean.ensures) refl;
        agrees = λ on. Agrees-begun old new c.args.parts.now _ _ r.agrees fields (c.begin.ensures.agrees on) refl refl refl;
      };
      counting = Counting-quiet old new c.args.parts.now _ (Stays.counted s) refl refl (record { copied = ap (λ (p : Plan). p.copied) plan; moved = ap (λ (p : Plan). p.moved) plan; erased = ap (λ (p : Plan). p.erased) plan }) (ap (λ (p : Plan). p.since) plan) (λ on. ap (λ (z : Chart). z.fields.wears) fields);
      rests = Rests-refl c.args.parts.now.cache;
    }

pub planned-requires-clause-ready : goal.planned-requires-clause-ready
planned-requires-clause-ready g c = c.requires.ready

pub planned-requires-clause-position : goal.planned-requires-clause-position
planned-requires-clause-position g c = c.requires.position

pub planned-requires-clause-aside : goal.planned-requires-clause-aside
planned-requires-clause-aside g c = c.requires.aside

pub returns-in_err-plan : goal.returns-in_err-plan
returns-in_err-plan g c = unpowered (g.B.Board.state c.args.board.now).on c.in_err-plan.ensures.off c.requires.ready.on

pub begin-requires-clause-ready : goal.begin-requires-clause-ready
begin-requires-clause-ready g c on = record { sound = c.requires.ready.sound; agrees = c.requires.ready.agrees.pool; idle = c.requires.idle }

pub begin-requires-clause-shape : goal.begin-requires-clause-shape
begin-requires-clause-shape g c = c.requires.ready.fits.pool

pub begin-requires-clause-position : goal.begin-requires-clause-position
begin-requires-clause-position g c = subst (λ (sh : Shape). c.args.position < positions_of sh) (sym c.requires.ready.fits.pool) c.requires.position

pub begin-requires-clause-moves : goal.begin-requires-clause-moves
begin-requires-clause-moves g c = subst (λ (sh : Shape). All (λ q. q / sh.rows ≡ get_or c.args.parts.now.space.positions c.args.position 0) c.in_ok-plan.plan.moves.items) (sym c.requires.ready.fits.pool) c.in_ok-plan.ensures.rows

pub begin-requires-clause-aside : goal.begin-requires-clause-aside
begin-requires-clause-aside g c first last is =
    let within = c.in_ok-plan.ensures.neighbour first last is in
    (within.0, subst (λ (sh : Shape). last < positions_of sh) (sym c.requires.ready.fits.pool) within.1)

pub returns-in_err-begin-clause-same : goal.returns-in_err-begin-clause-same
returns-in_err-begin-clause-same g c = c.begin.ensures.same c.requires.ready.sound

pub returns-in_err-begin-clause-begins : goal.returns-in_err-begin-clause-begins
returns-in_err-begin-clause-begins g c = none-if c.from_residual-in_err-begin.result _ _ c.from_residual-in_err-begin.ensures.1

pub returns-in_err-begin-clause-cleans : goal.returns-in_err-begin-clause-cleans
returns-in_err-begin-clause-cleans g c = none-if c.from_residual-in_err-begin.result _ _ c.from_residual-in_err-begin.ensures.1

pub returns-in_err-begin-clause-none : goal.returns-in_err-begin-clause-none
returns-in_err-begin-clause-none g c =
    let plan = c.begin.ensures.plan c.requires.ready.on in
    record { copied = ap (λ (p : Plan). p.copied) plan; moved = ap (λ (p : Plan). p.moved) plan; erased = ap (λ (p : Plan). p.erased) plan }

pub returns-in_err-begin-clause-since : goal.returns-in_err-begin-clause-since
returns-in_err-begin-clause-since g c = ap (λ (p : Plan). p.since) (c.begin.ensures.plan c.requires.ready.on)

pub returns-in_err-begin-clause-parts : goal.returns-in_err-begin-clause-parts
returns-in_err-begin-clause-parts g c = refl

pub returns-in_err-begin-clause-power : goal.returns-in_err-begin-clause-power
returns-in_err-begin-clause-power g c = none-power c.from_residual-in_err-begin.result _ (g.B.Board.state c.begin.new.board).on c.in_err-begin.ensures.power c.from_residual-in_err-begin.ensures.1

pub note_clean-requires : goal.note_clean-requires
note_clean-requires g c = subst (λ (n : ℕ). c.args.position < n) (sym c.requires.ready.fits.positions) c.requires.position

pub returns-clause-same : goal.returns-clause-same
returns-clause-same g c = c.begin.ensures.same c.requires.ready.sound

pub returns-clause-begins : goal.returns-clause-begins
returns-clause-begins g c =
    let new = (chart (g.B.Board.state c.begin.new.board)) in
    let order : get_or c.args.parts.now.space.positions c.args.position 0 ≡ get_or (chart (g.B.Board.state c.args.board.now)).fields.positions c.args.position 0 = ap (λ (xs : List ℕ). get_or xs c.args.position 0) (IsPoolOf.positions c.requires.ready.agrees.pool) in
    subst (λ (s : ℕ). new.fields.job ≡ Some (Copy s)) order (ap (λ (z : Chart). z.fields.job) c.in_ok-begin.ensures.begins.fields)

pub returns-clause-none : goal.returns-clause-none
returns-clause-none g c =
    let plan = c.begin.ensures.plan c.requires.ready.on in
    record { copied = ap (λ (p : Plan). p.copied) plan; moved = ap (λ (p : Plan). p.moved) plan; erased = ap (λ (p : Plan). p.erased) plan }

pub returns-clause-since : goal.returns-clause-since
returns-clause-since g c = ap (λ (p : Plan). p.since) (c.begin.ensures.plan c.requires.ready.on)

pub returns-clause-parts : goal.returns-clause-parts
returns-clause-parts g c = refl

pub returns-clause-power : goal.returns-clause-power
returns-clause-power g c = c.in_ok-begin.ensures.power
