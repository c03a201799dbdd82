use Rattle.std.proofs.Common.{◌≡◌, ◌≢◌, ◌/◌, ◌∙◌, ℕ, List, Some, sym, ap, subst, ◌<◌, ◌-◌, inl, inr, get_or}
use Rattle.std.specs.Prelude.{Option}
use Rattle.envy_base.specs.declared.shape.Shape.{Shape}
use Rattle.envy_base.specs.declared.fields.Job.{Job}
use Rattle.envy_base.specs.declared.fields.Job.TheVariants.{Switch}
use Rattle.envy_base.specs.declared.fields.Place.{Place}
use Rattle.envy_base.specs.declared.fields.Place.TheVariants.{Row}
use Rattle.envy_map.specs.Fields.{chart, place}
use Rattle.envy_soundness.specs.Sound.{IsPlaced, IsSpare, Sound, Jobs}
use Rattle.envy_engine.proofs.RowLemmas.{placed-row, placed-pool, switched-row}
use Rattle.envy_base.specs.Shape.{IsShape, positions_of}
use Rattle.envy_base.specs.State.{IsBoard}
use Rattle.envy_frames.specs.Agreement.{default_home}
use Rattle.envy_engine.specs.Storing.{IsHome}
use Rattle.envy_engine.proofs.AvailLemmas.{relocated-placed}
use Rattle.envy_reloc.proofs.Exits.{unpowered}
use Rattle.envy_engine.proofs.homes.home_of.Goals as goal

pub position_of-requires : goal.position_of-requires
position_of-requires g c =
    let now = chart (g.B.Board.state c.args.board.now) in
    let r = c.requires.ready in
    let pool = c.args.parts.now.space in
    let here : place now.fields c.args.page ≡ Some (Row c.in-Row.row) = c.requires.here ∙ ap (λ (x : Place). Some x) c.in-Row.is in
    let spare : IsSpare now.shape now.fields.positions c.spare.result = subst (λ (sh : Shape). IsSpare sh now.fields.positions c.spare.result) r.agrees.pool.shape (subst (λ (xs : List ℕ). IsSpare pool.shape xs c.spare.result) r.agrees.pool.positions c.spare.ensures.spare) in
    let rows = ap (λ (sh : Shape). sh.rows) c.shape-shape.ensures in
    let other : c.in-Row.row / now.shape.rows ≢ c.spare.result = subst (λ (n : ℕ). c.in-Row.row / n ≢ c.spare.result) rows c.if-segment-spare.true in
    subst (λ (n : ℕ). IsPlaced pool.shape pool.positions (c.in-Row.row / n)) (sym rows)
    (placed-pool now.shape pool.shape now.fields.positions pool.positions (c.in-Row.row / now.shape.rows) r.agrees.pool.shape r.agrees.pool.positions (placed-row now.shape now.fields now.flash c.args.page c.in-Row.row c.spare.result r.sound here spare other))

pub unreachable-requires : goal.unreachable-requires
unreachable-requires g c =
    let now = chart (g.B.Board.state c.args.board.now) in
    let r = c.requires.ready in
    let pool = c.args.parts.now.space in
    let here : place now.fields c.args.page ≡ Some (Row c.in-Row.row) = c.requires.here ∙ ap (λ (x : Place). Some x) c.in-Row.is in
    let rows = ap (λ (sh : Shape). sh.rows) c.shape-shape.ensures in
    let same : c.in-Row.row / now.shape.rows ≡ c.spare.result = subst (λ (n : ℕ). c.in-Row.row / n ≡ c.spare.result) rows c.if-segment-spare.false in
    let spare : IsSpare now.shape now.fields.positions (c.in-Row.row / now.shape.rows) = rw same (subst (λ (sh : Shape). IsSpare sh now.fields.positions c.spare.result) r.agrees.pool.shape (subst (λ (xs : List ℕ). IsSpare pool.shape xs c.spare.result) r.agrees.pool.positions c.spare.ensures.spare)) in
    let switch = switched-row now.shape now.fields now.flash c.args.page c.in-Row.row r.sound here spare in
    let job = c.in_ok-v-in-Row.ensures.value.1 in
    c.in_default.not-Switch switch.0 (let both : ◌≡◌ {A = Option Job} (Some c.in_ok-v-in-Row.field-0) (Some (Switch switch.0)) = sym job ∙ switch.1 in cc)

pub default_home-requires-clause-shape : goal.default_home-requires-clause-shape
default_home-requires-clause-shape g c = subst (λ (sh : Shape). IsShape sh) (sym c.shape-shape.ensures) (IsBoard.shape (g.met.B.Board.lawful c.args.board.now))

pub default_home-requires-clause-page : goal.default_home-requires-clause-page
default_home-requires-clause-page g c = subst (λ (sh : Shape). c.args.page < sh.pages) (sym c.shape-shape.ensures) c.requires.page

pub returns-then-segment-spare-clause-home : goal.returns-then-segment-spare-clause-home
returns-then-segment-spare-clause-home g c =
    let now = (chart (g.B.Board.state c.args.board.now)) in
    let order : get_or now.fields.positions c.position_of.result 0 ≡ get_or c.args.parts.now.space.positions c.position_of.result 0 = ap (λ (xs : List ℕ). get_or xs c.position_of.result 0) (sym c.requires.ready.agrees.pool.positions) in
    subst (λ (x : Place). IsHome now.shape now.fields c.args.page x c.position_of.result) (sym c.in-Row.is) (inl (order ∙ c.position_of.ensures.stands ∙ ap (λ (sh : Shape). c.in-Row.row / sh.rows) c.shape-shape.ensures))

pub returns-then-segment-spare-clause-within : goal.returns-then-segment-spare-clause-within
returns-then-segment-spare-clause-within g c = subst (λ (sh : Shape). c.position_of.result < positions_of sh) c.requires.ready.fits.pool c.position_of.ensures.within

pub returns-then-segment-spare-clause-off : goal.returns-then-segment-spare-clause-off
returns-then-segment-spare-clause-off g c = tt

pub job-requires : goal.job-requires
job-requires g c = record { decodes = Jobs.decodes (Sound.job c.requires.ready.sound) }

pub returns-in_err-v-in-Row : goal.returns-in_err-v-in-Row
returns-in_err-v-in-Row g c = unpowered (g.B.Board.state c.args.board.now).on c.in_err-v-in-Row.ensures.value c.requires.ready.on

pub position_of-requires-in-Switch : goal.position_of-requires-in-Switch
position_of-requires-in-Switch g c = relocated-placed (chart (g.B.Board.state c.args.board.now)) c.args.parts.now c.in-Switch.v c.requires.ready.sound c.requires.ready.agrees (inr (c.in_ok-v-in-Row.ensures.value.1 ∙ ap (λ (j : Job). Some j) c.in-Switch.is))

pub unreachable-requires-in-Frame : goal.unreachable-requires-in-Frame
unreachable-requires-in-Frame g c = c.requires.elsewhere c.in-Frame.field-0 (ap (λ (x : Place). Some x) c.in-Frame.is)

pub returns-in-Absent-clause-home : goal.returns-in-Absent-clause-home
returns-in-Absent-clause-home g c =
    let now = (chart (g.B.Board.state c.args.board.now)) in
    subst (λ (x : Place). IsHome now.shape now.fields c.args.page x c.default_home.result) (sym c.in-Absent.is) (c.default_home.ensures.value ∙ ap (λ (sh : Shape). default_home sh c.args.page) c.shape-shape.ensures)

pub returns-in-Absent-clause-within : goal.returns-in-Absent-clause-within
returns-in-Absent-clause-within g c = subst (λ (sh : Shape). c.default_home.result < positions_of sh) c.shape-shape.ensures c.default_home.ensures.position

pub returns-in-Absent-clause-off : goal.returns-in-Absent-clause-off
returns-in-Absent-clause-off g c = tt

pub returns-in-Switch-clause-off : goal.returns-in-Switch-clause-off
returns-in-Switch-clause-off g c = tt
