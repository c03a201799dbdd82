use Rattle.std.proofs.Common.{◌<◌, ◌-◌, Err, get_or, refl, sym, ap, subst}
use Rattle.envy_base.specs.declared.shape.Shape.{Shape}
use Rattle.envy_base.specs.State.{IsBoard}
use Rattle.envy_frames.specs.Agreement.{IsHeld}
use Rattle.envy_frames.proofs.Agreeing.{oldest-held}
use Rattle.envy_map.specs.Fields.{chart}
use Rattle.envy_policy.specs.declared.choice.Choice.{Choice}
use Rattle.envy_victims.specs.Choosing.{ChoiceFor}
use Rattle.envy_base.specs.declared.board.Trouble.{Trouble}
use Rattle.envy_policy.specs.declared.choice.Choice.TheVariants.{Free, Clean}
use Rattle.envy_soundness.proofs.Sames.{same_within}
use Rattle.envy_engine.specs.declared.parts.Parts.{Parts}
use Rattle.envy_reloc.proofs.Exits.{err-if, err-after, err-bad, off-if, off-after, off-bad, ok-bad}
use Rattle.envy_engine.proofs.RowLemmas.{some-rows, free-room, clean-room, aside-in}
use Rattle.envy_engine.proofs.tick.tick_flush.Goals as goal
use Rattle.envy_base.specs.Shape.{positions_of}

pub choose_row-requires-clause-some : goal.choose_row-requires-clause-some
choose_row-requires-clause-some g c =
    let old = chart (g.B.Board.state c.args.board.now) in
    let r = c.requires.ready in
    some-rows old.shape old.fields old.flash c.args.parts.now.space (IsBoard.shape (g.met.B.Board.lawful c.args.board.now)) r.sound r.agrees.pool

pub choose_row-requires-clause-page : goal.choose_row-requires-clause-page
choose_row-requires-clause-page g c =
    let old = chart (g.B.Board.state c.args.board.now) in
    let r = c.requires.ready in
    let own = (oldest-held old.shape old.fields.places c.args.parts.now.frames.held c.in-Some.held r.agrees.held (sym c.in-Some.ensures.first)).0 in
    rw r.fits.pages (IsHeld.page own)

pub begin_clean-requires-clause-aside : goal.begin_clean-requires-clause-aside
begin_clean-requires-clause-aside g c =
    let x = c.args.parts.now in
    aside-in x.chooser x.space c.in-Some.held.home c.in-Some.held.page c.in-Clean.position c.in-Clean.aside (subst (λ (y : Choice). ChoiceFor x.chooser x.space c.in-Some.held.home c.in-Some.held.page y) c.in-Clean.is c.choose_row.ensures)

pub flush_at-requires-clause-position : goal.flush_at-requires-clause-position
flush_at-requires-clause-position g c =
    let r = c.requires.ready in
    let x = c.args.parts.now in
    let choice = subst (λ (y : Choice). ChoiceFor x.chooser x.space c.in-Some.held.home c.in-Some.held.page y) c.in-Free.is c.choose_row.ensures in
    subst (λ (sh : Shape). c.in-Free.position < positions_of sh) r.fits.pool (free-room x.chooser x.space c.in-Some.held.home c.in-Some.held.page c.in-Free.position choice).0

pub flush_at-requires-clause-room : goal.flush_at-requires-clause-room
flush_at-requires-clause-room g c =
    let r = c.requires.ready in
    let x = c.args.parts.now in
    let choice = subst (λ (y : Choice). ChoiceFor x.chooser x.space c.in-Some.held.home c.in-Some.held.page y) c.in-Free.is c.choose_row.ensures in
    subst (λ (sh : Shape). get_or x.space.fills (get_or x.space.positions c.in-Free.position 0) 0 < sh.rows) r.fits.pool (free-room x.chooser x.space c.in-Some.held.home c.in-Some.held.page c.in-Free.position choice).1

pub begin_clean-requires-clause-position : goal.begin_clean-requires-clause-position
begin_clean-requires-clause-position g c =
    let r = c.requires.ready in
    let x = c.args.parts.now in
    let choice = subst (λ (y : Choice). ChoiceFor x.chooser x.space c.in-Some.held.home c.in-Some.held.page y) c.in-Clean.is c.choose_row.ensures in
    subst (λ (sh : Shape). c.in-Clean.position < positions_of sh) r.fits.pool (clean-room x.chooser x.space c.in-Some.held.home c.in-Some.held.page c.in-Clean.position c.in-Clean.aside choice)

pub flush_at-requires-clause-chosen : goal.flush_at-requires-clause-chosen
flush_at-requires-clause-chosen g c =
    let x = c.args.parts.now in
    subst (λ (y : Choice). ChoiceFor x.chooser x.space c.in-Some.held.home c.in-Some.held.page y) c.in-Free.is c.choose_row.ensures

pub choose_row-requires-clause-positions : goal.choose_row-requires-clause-positions
choose_row-requires-clause-positions g c = rw c.requires.ready.fits.pool c.requires.ready.fits.positions

pub choose_row-requires-clause-home : goal.choose_row-requires-clause-home
choose_row-requires-clause-home g c =
    let old = chart (g.B.Board.state c.args.board.now) in
    let r = c.requires.ready in
    let own = (oldest-held old.shape old.fields.places c.args.parts.now.frames.held c.in-Some.held r.agrees.held (sym c.in-Some.ensures.first)).0 in
    rw r.fits.pool (IsHeld.home own)

pub flush_at-requires-clause-ready : goal.flush_at-requires-clause-ready
flush_at-requires-clause-ready g c = c.requires.ready

pub flush_at-requires-clause-rest : goal.flush_at-requires-clause-rest
flush_at-requires-clause-rest g c = c.requires.rest

pub flush_at-requires-clause-oldest : goal.flush_at-requires-clause-oldest
flush_at-requires-clause-oldest g c = sym c.in-Some.ensures.first

pub begin_clean-requires-clause-ready : goal.begin_clean-requires-clause-ready
begin_clean-requires-clause-ready g c = c.requires.ready

pub begin_clean-requires-clause-idle : goal.begin_clean-requires-clause-idle
begin_clean-requires-clause-idle g c = c.requires.rest.0

pub returns-in_err-flush_at-in-Free-clause-same : goal.returns-in_err-flush_at-in-Free-clause-same
returns-in_err-flush_at-in-Free-clause-same g c = c.flush_at.ensures.same

pub returns-in_err-flush_at-in-Free-clause-leaves : goal.returns-in_err-flush_at-in-Free-clause-leaves
returns-in_err-flush_at-in-Free-clause-leaves g c = c.flush_at.ensures.leaves

pub returns-in_err-flush_at-in-Free-clause-does : goal.returns-in_err-flush_at-in-Free-clause-does
returns-in_err-flush_at-in-Free-clause-does g c = err-if c.from_residual.result _ c.in_err-flush_at-in-Free.field-0.0 c.from_residual.ensures.1

pub returns-in_err-flush_at-in-Free-clause-stops : goal.returns-in_err-flush_at-in-Free-clause-stops
returns-in_err-flush_at-in-Free-clause-stops g c is = c.in_err-flush_at-in-Free.ensures.stops (ap (λ (e : Trouble). Err e) (err-bad c.from_residual.result c.in_err-flush_at-in-Free.field-0.0 c.from_residual.ensures.1 is))

pub returns-in_err-flush_at-in-Free-clause-power : goal.returns-in_err-flush_at-in-Free-clause-power
returns-in_err-flush_at-in-Free-clause-power g c = err-after (Unit {0}) c.from_residual.result (g.B.Board.state c.flush_at.new.board).on c.in_err-flush_at-in-Free.field-0.0 c.in_err-flush_at-in-Free.ensures.power c.from_residual.ensures.1

pub returns-in_ok-flush_at-in-Free-clause-same : goal.returns-in_ok-flush_at-in-Free-clause-same
returns-in_ok-flush_at-in-Free-clause-same g c = c.flush_at.ensures.same

pub returns-in_ok-flush_at-in-Free-clause-leaves : goal.returns-in_ok-flush_at-in-Free-clause-leaves
returns-in_ok-flush_at-in-Free-clause-leaves g c = c.flush_at.ensures.leaves

pub returns-in_ok-flush_at-in-Free-clause-does : goal.returns-in_ok-flush_at-in-Free-clause-does
returns-in_ok-flush_at-in-Free-clause-does g c =
    let x = c.args.parts.now in
    record {
      oldest = c.in-Some.held;
      first = sym c.in-Some.ensures.first;
      choice = Free c.in-Free.position;
      chosen = subst (λ (y : Choice). ChoiceFor x.chooser x.space c.in-Some.held.home c.in-Some.held.page y) c.in-Free.is c.choose_row.ensures;
      does = c.in_ok-flush_at-in-Free.ensures.does;
      stages = c.flush_at.ensures.stages;
    }

pub returns-in_ok-flush_at-in-Free-clause-stops : goal.returns-in_ok-flush_at-in-Free-clause-stops
returns-in_ok-flush_at-in-Free-clause-stops g c is = ok-bad _ is

pub returns-in_ok-flush_at-in-Free-clause-power : goal.returns-in_ok-flush_at-in-Free-clause-power
returns-in_ok-flush_at-in-Free-clause-power g c = c.in_ok-flush_at-in-Free.ensures.power

pub returns-in_err-begin_clean-in-Clean-clause-same : goal.returns-in_err-begin_clean-in-Clean-clause-same
returns-in_err-begin_clean-in-Clean-clause-same g c = same_within 1 0 (chart (g.B.Board.state c.args.board.now)) (chart (g.B.Board.state c.begin_clean.new.board)) c.begin_clean.ensures.same

pub returns-in_err-begin_clean-in-Clean-clause-leaves : goal.returns-in_err-begin_clean-in-Clean-clause-leaves
returns-in_err-begin_clean-in-Clean-clause-leaves g c = c.begin_clean.ensures.leaves

pub returns-in_err-begin_clean-in-Clean-clause-does : goal.returns-in_err-begin_clean-in-Clean-clause-does
returns-in_err-begin_clean-in-Clean-clause-does g c = off-if c.from_residual-in_err-begin_clean-in-Clean.result _ c.from_residual-in_err-begin_clean-in-Clean.ensures.1

pub returns-in_err-begin_clean-in-Clean-clause-stops : goal.returns-in_err-begin_clean-in-Clean-clause-stops
returns-in_err-begin_clean-in-Clean-clause-stops g c is = off-bad c.from_residual-in_err-begin_clean-in-Clean.result c.from_residual-in_err-begin_clean-in-Clean.ensures.1 is

pub returns-in_err-begin_clean-in-Clean-clause-power : goal.returns-in_err-begin_clean-in-Clean-clause-power
returns-in_err-begin_clean-in-Clean-clause-power g c = off-after c.from_residual-in_err-begin_clean-in-Clean.result (g.B.Board.state c.begin_clean.new.board).on c.in_err-begin_clean-in-Clean.ensures.power c.from_residual-in_err-begin_clean-in-Clean.ensures.1

pub returns-in_ok-begin_clean-in-Clean-clause-same : goal.returns-in_ok-begin_clean-in-Clean-clause-same
returns-in_ok-begin_clean-in-Clean-clause-same g c = same_within 1 0 (chart (g.B.Board.state c.args.board.now)) (chart (g.B.Board.state c.begin_clean.new.board)) c.begin_clean.ensures.same

pub returns-in_ok-begin_clean-in-Clean-clause-leaves : goal.returns-in_ok-begin_clean-in-Clean-clause-leaves
returns-in_ok-begin_clean-in-Clean-clause-leaves g c = c.begin_clean.ensures.leaves

pub returns-in_ok-begin_clean-in-Clean-clause-does : goal.returns-in_ok-begin_clean-in-Clean-clause-does
returns-in_ok-begin_clean-in-Clean-clause-does g c =
    let x = c.args.parts.now in
    let e = c.begin_clean.ensures in
    let o = c.in_ok-begin_clean-in-Clean.ensures in
    record {
      oldest = c.in-Some.held;
      first = sym c.in-Some.ensures.first;
      choice = Clean c.in-Clean.position c.in-Clean.aside;
      chosen = subst (λ (y : Choice). ChoiceFor x.chooser x.space c.in-Some.held.home c.in-Some.held.page y) c.in-Clean.is c.choose_row.ensures;
      does = (refl, o.begins, o.cleans.chooser, ap (λ (z : Parts). z.flushes) e.parts, ap (λ (z : Parts). z.frames) e.parts, e.none, ap (λ (z : Parts). z.swaps) e.parts, o.cleans);
      stages = ap (λ (z : Parts). z.stages) e.parts;
    }

pub returns-in_ok-begin_clean-in-Clean-clause-stops : goal.returns-in_ok-begin_clean-in-Clean-clause-stops
returns-in_ok-begin_clean-in-Clean-clause-stops g c is = ok-bad _ is

pub returns-in_ok-begin_clean-in-Clean-clause-power : goal.returns-in_ok-begin_clean-in-Clean-clause-power
returns-in_ok-begin_clean-in-Clean-clause-power g c = c.in_ok-begin_clean-in-Clean.ensures.power
