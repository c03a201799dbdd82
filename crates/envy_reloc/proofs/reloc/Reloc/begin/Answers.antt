use Rattle.std.proofs.Common.{◌≡◌, ◌∙◌, ℕ, ◌+◌, ◌/◌, ◌<◌, ◌≤◌, List, length, get_or, Some, refl, sym, ap, subst}
use Rattle.std.specs.Prelude.{All, IsTrue, false}
use Rattle.envy_base.specs.State.{IsBoard}
use Rattle.envy_base.specs.declared.shape.Shape.{Shape}
use Rattle.envy_base.specs.declared.fields.Job.TheVariants.{Copy}
use Rattle.envy_map.specs.Fields.{Chart, chart, with_fields}
use Rattle.envy_map.specs.Writes.{with_job}
use Rattle.envy_space.specs.Pool.{IsPoolOf, PoolAgrees}
use Rattle.envy_reloc.specs.Plan.{Plan, IsPlanOf}
use Rattle.envy_reloc.proofs.Exits.{unpowered, none-if, none-power}
use Rattle.envy_reloc.proofs.CleanLemmas.{cleans-begun-at}
use Rattle.envy_reloc.proofs.PlanLemmas.{Plan-begun}
use Rattle.envy_reloc.proofs.EffortLemmas.{Leaves-begun}
use Rattle.envy_reloc.proofs.reloc.Reloc.begin.Goals as goal
use Rattle.envy_base.specs.Shape.{positions_of}

pub returns-clause-begins : goal.returns-clause-begins
returns-clause-begins g c =
    let old = chart (g.B.Board.state c.args.board.now) in
    let new = chart (g.B.Board.state c.begin_copy.new.board) in
    let on : IsTrue (g.B.Board.state c.args.board.now).on = sym c.powered.ensures ∙ c.if-not-powered.false in
    let ready = c.requires.ready on in
    let fields = c.in_ok-begin_copy.ensures.fields in
    let formed = IsBoard.shape (g.met.B.Board.lawful c.args.board.now) in
    let segment : get_or c.args.space.now.positions c.args.position 0 ≡ get_or old.fields.positions c.args.position 0 = ap (λ (xs : List ℕ). get_or xs c.args.position 0) (IsPoolOf.positions ready.agrees) in
    record {
      fields = fields ∙ ap (λ (s : ℕ). with_fields old (with_job (Some (Copy s)) old.fields)) c.segment_at.ensures.segment;
      leaves = Leaves-begun old new c.args.moves.items c.segment_at.result (length c.args.moves.items + old.shape.rows) ready.sound formed ready.idle fields refl;
      cleans = λ d row dead. cleans-begun-at old new c.args.position c.args.self.now.erased _ d c.segment_at.result ready.sound formed ready.idle c.args.space.now.shape c.requires.shape c.requires.position
          (c.segment_at.ensures.segment ∙ segment) (row ∙ segment) dead fields (ap (λ (p : Plan). p.erased) c.self.view_is);
    }

pub returns-then-not-powered-clause-agrees : goal.returns-then-not-powered-clause-agrees
returns-then-not-powered-clause-agrees g c =
    let lit = (g.B.Board.state c.args.board.now).on in
    let off : lit ≡ false = sym c.powered.ensures ∙ c.if-not-powered.true in
    λ on. unpowered lit off on

pub returns-then-not-powered-clause-pool : goal.returns-then-not-powered-clause-pool
returns-then-not-powered-clause-pool g c =
    let lit = (g.B.Board.state c.args.board.now).on in
    let off : lit ≡ false = sym c.powered.ensures ∙ c.if-not-powered.true in
    λ on. unpowered lit off on

pub returns-then-not-powered-clause-plan : goal.returns-then-not-powered-clause-plan
returns-then-not-powered-clause-plan g c =
    let lit = (g.B.Board.state c.args.board.now).on in
    let off : lit ≡ false = sym c.powered.ensures ∙ c.if-not-powered.true in
    λ on. unpowered lit off on

pub returns-in_err-begin_copy-clause-agrees : goal.returns-in_err-begin_copy-clause-agrees
returns-in_err-begin_copy-clause-agrees g c = λ on. unpowered (g.B.Board.state c.begin_copy.new.board).on c.in_err-begin_copy.ensures.power on

pub returns-in_err-begin_copy-clause-pool : goal.returns-in_err-begin_copy-clause-pool
returns-in_err-begin_copy-clause-pool g c = λ on. unpowered (g.B.Board.state c.begin_copy.new.board).on c.in_err-begin_copy.ensures.power on

pub returns-in_err-begin_copy-clause-plan : goal.returns-in_err-begin_copy-clause-plan
returns-in_err-begin_copy-clause-plan g c = λ on. ap (λ (p : Plan). record p { moves = c.args.moves.items; aside = c.args.aside; mark = 0 }) c.self.view_is

pub returns-in_err-begin_copy-clause-same : goal.returns-in_err-begin_copy-clause-same
returns-in_err-begin_copy-clause-same g c = λ sound. c.begin_copy.ensures.same

pub returns-in_err-begin_copy-clause-idle : goal.returns-in_err-begin_copy-clause-idle
returns-in_err-begin_copy-clause-idle g c =
    let on : IsTrue (g.B.Board.state c.args.board.now).on = sym c.powered.ensures ∙ c.if-not-powered.false in
    λ off. unpowered (g.B.Board.state c.args.board.now).on off on

pub returns-clause-plan : goal.returns-clause-plan
returns-clause-plan g c = λ on. ap (λ (p : Plan). record p { moves = c.args.moves.items; aside = c.args.aside; mark = 0 }) c.self.view_is

pub returns-clause-same : goal.returns-clause-same
returns-clause-same g c = λ sound. c.begin_copy.ensures.same

pub returns-clause-idle : goal.returns-clause-idle
returns-clause-idle g c =
    let on : IsTrue (g.B.Board.state c.args.board.now).on = sym c.powered.ensures ∙ c.if-not-powered.false in
    λ off. unpowered (g.B.Board.state c.args.board.now).on off on

pub returns-in_err-begin_copy-clause-begins : goal.returns-in_err-begin_copy-clause-begins
returns-in_err-begin_copy-clause-begins g c = none-if c.from_residual.result _ _ c.from_residual.ensures.1

pub returns-in_err-begin_copy-clause-power : goal.returns-in_err-begin_copy-clause-power
returns-in_err-begin_copy-clause-power g c = none-power c.from_residual.result _ (g.B.Board.state c.begin_copy.new.board).on c.in_err-begin_copy.ensures.power c.from_residual.ensures.1

pub returns-clause-pool : goal.returns-clause-pool
returns-clause-pool g c =
    let on : IsTrue (g.B.Board.state c.args.board.now).on = sym c.powered.ensures ∙ c.if-not-powered.false in
    let ready = c.requires.ready on in
    λ lit. subst (λ (x : Chart). PoolAgrees x.shape x.fields c.args.space.now) (sym c.in_ok-begin_copy.ensures.fields) ready.agrees

pub begin_copy-requires-clause-placed : goal.begin_copy-requires-clause-placed
begin_copy-requires-clause-placed g c = λ on.
    let ready = c.requires.ready on in
    (c.args.position, subst (λ (sh : Shape). c.args.position < positions_of sh) c.requires.shape c.requires.position, ap (λ (xs : List ℕ). get_or xs c.args.position 0) (sym (IsPoolOf.positions ready.agrees)) ∙ sym c.segment_at.ensures.segment)

pub returns-clause-agrees : goal.returns-clause-agrees
returns-clause-agrees g c = λ lit.
    let old = chart (g.B.Board.state c.args.board.now) in
    let on : IsTrue (g.B.Board.state c.args.board.now).on = sym c.powered.ensures ∙ c.if-not-powered.false in
    let ready = c.requires.ready on in
    let here = c.segment_at.ensures.segment in
    let inside = c.self.inside in
    let plan : Plan = record { moves = c.args.moves.items; aside = c.args.aside; mark = 0; copied = inside.copied; moved = inside.moved; erased = inside.erased; since = inside.since } in
    let moves = subst (λ (s : ℕ). All (λ (q : ℕ). q / old.shape.rows ≡ s) c.args.moves.items) (sym here)
    (subst (λ (sh : Shape). All (λ (q : ℕ). q / sh.rows ≡ get_or c.args.space.now.positions c.args.position 0) c.args.moves.items) c.requires.shape c.requires.moves) in
    let aside = subst (λ (sh : Shape). (first last : ℕ) → c.args.aside ≡ Some (first, last) → (first ≤ last) × (last < positions_of sh)) c.requires.shape c.requires.aside in
    subst (λ (x : Chart). IsPlanOf x.shape x.fields x.flash plan) (sym c.in_ok-begin_copy.ensures.fields) (Plan-begun old.shape old.fields old.flash c.segment_at.result plan ready.sound ready.idle moves aside refl)
