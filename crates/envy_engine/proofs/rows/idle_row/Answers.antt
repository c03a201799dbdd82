use Rattle.std.proofs.Common.{◌<◌, ◌-◌, inl, inr, get_or, refl, ap, subst, ◌+◌, ◌∙◌, sym, ℕ}
use Rattle.envy_base.specs.declared.shape.Shape.{Shape}
use Rattle.envy_base.specs.State.{IsBoard}
use Rattle.envy_map.specs.Fields.{Chart, chart}
use Rattle.envy_policy.specs.declared.choice.Choice.{Choice}
use Rattle.envy_policy.specs.declared.choice.Choice.TheVariants.{Free, Clean}
use Rattle.envy_victims.specs.Choosing.{ChoiceFor}
use Rattle.envy_engine.proofs.FlushLemmas.{if-done, never-idle}
use Rattle.envy_engine.proofs.RowLemmas.{some-rows, free-room, clean-room, dead-cleaned, aside-in}
use Rattle.envy_engine.specs.declared.parts.Parts.{Parts}
use Rattle.envy_soundness.proofs.Sames.{same_within}
use Rattle.envy_reloc.proofs.Exits.{off-after, off-if, off-bad, ok-bad}
use Rattle.envy_engine.proofs.FlushAnswers.{keeps-off, keeps-places, free-idle}
use Rattle.envy_engine.proofs.rows.idle_row.Goals as goal
use Rattle.envy_base.specs.Shape.{positions_of}

pub choose_row-requires-clause-some : goal.choose_row-requires-clause-some
choose_row-requires-clause-some g c =
    let old = chart (g.B.Board.state c.args.board.now) in
    let r = c.requires.ready in
    some-rows old.shape old.fields old.flash c.args.parts.now.space (IsBoard.shape (g.met.B.Board.lawful c.args.board.now)) r.sound r.agrees.pool

pub claim_at-requires-clause-position : goal.claim_at-requires-clause-position
claim_at-requires-clause-position g c =
    let r = c.requires.ready in
    let x = c.args.parts.now in
    let choice = subst (λ (y : Choice). ChoiceFor x.chooser x.space c.args.home c.args.page y) c.in-Free.is c.choose_row.ensures in
    subst (λ (sh : Shape). c.in-Free.position < positions_of sh) r.fits.pool (free-room x.chooser x.space c.args.home c.args.page c.in-Free.position choice).0

pub claim_at-requires-clause-room : goal.claim_at-requires-clause-room
claim_at-requires-clause-room g c =
    let r = c.requires.ready in
    let x = c.args.parts.now in
    let choice = subst (λ (y : Choice). ChoiceFor x.chooser x.space c.args.home c.args.page y) c.in-Free.is c.choose_row.ensures in
    subst (λ (sh : Shape). get_or x.space.fills (get_or x.space.positions c.in-Free.position 0) 0 < sh.rows) r.fits.pool (free-room x.chooser x.space c.args.home c.args.page c.in-Free.position choice).1

pub clean-requires-clause-position : goal.clean-requires-clause-position
clean-requires-clause-position g c =
    let r = c.requires.ready in
    let x = c.args.parts.now in
    let choice = subst (λ (y : Choice). ChoiceFor x.chooser x.space c.args.home c.args.page y) c.in-Clean.is c.choose_row.ensures in
    subst (λ (sh : Shape). c.in-Clean.position < positions_of sh) r.fits.pool (clean-room x.chooser x.space c.args.home c.args.page c.in-Clean.position c.in-Clean.aside choice)

pub clean-requires-clause-aside : goal.clean-requires-clause-aside
clean-requires-clause-aside g c =
    let x = c.args.parts.now in
    aside-in x.chooser x.space c.args.home c.args.page c.in-Clean.position c.in-Clean.aside (subst (λ (y : Choice). ChoiceFor x.chooser x.space c.args.home c.args.page y) c.in-Clean.is c.choose_row.ensures)

pub clean-requires-clause-dead : goal.clean-requires-clause-dead
clean-requires-clause-dead g c =
    let old = chart (g.B.Board.state c.args.board.now) in
    let r = c.requires.ready in
    let x = c.args.parts.now in
    let choice = subst (λ (y : Choice). ChoiceFor x.chooser x.space c.args.home c.args.page y) c.in-Clean.is c.choose_row.ensures in
    dead-cleaned old.shape old.fields old.flash x.chooser x.space c.args.home c.args.page c.in-Clean.position c.in-Clean.aside r.sound r.agrees.pool choice

pub returns-in-Clean-clause-gets : goal.returns-in-Clean-clause-gets
returns-in-Clean-clause-gets g c =
    let x = c.args.parts.now in
    let chosen = subst (λ (y : Choice). ChoiceFor x.chooser x.space c.args.home c.args.page y) c.in-Clean.is c.choose_row.ensures in
    if-done c.clean.result _ _ c.clean.ensures.gets
    (λ row e. record {
      fresh = e.fresh;
      gets = record { chooses = λ idle none. (Clean c.in-Clean.position c.in-Clean.aside, chosen, e.follows); busy = λ some. absurd (never-idle _ _ some c.requires.rest.0 c.requires.rest.1); ends = e.ends };
    })

pub returns-in-Clean-clause-stops : goal.returns-in-Clean-clause-stops
returns-in-Clean-clause-stops g c is =
    let x = c.args.parts.now in
    let chosen = subst (λ (y : Choice). ChoiceFor x.chooser x.space c.args.home c.args.page y) c.in-Clean.is c.choose_row.ensures in
    let s = c.clean.ensures.stops is in
    record {
      noted = λ idle none. (Clean c.in-Clean.position c.in-Clean.aside, chosen, inl s.chooser);
      halted = inr (record {
        mid = chart (g.B.Board.state c.args.board.now);
        between = x;
        settles = inl (c.requires.rest.0, c.requires.rest.1, refl, refl);
        position = c.in-Clean.position;
        aside = c.in-Clean.aside;
        chosen = chosen;
        stops = s.stops;
      });
      bads = s.bads;
    }

pub returns-in_ok-claim_at-in-Free-clause-gets : goal.returns-in_ok-claim_at-in-Free-clause-gets
returns-in_ok-claim_at-in-Free-clause-gets g c =
    let x = c.args.parts.now in
    let e = c.in_ok-claim_at-in-Free.ensures.takes in
    let chosen = subst (λ (y : Choice). ChoiceFor x.chooser x.space c.args.home c.args.page y) c.in-Free.is c.choose_row.ensures in
    record {
      fresh = e.fresh;
      gets = record {
        chooses = λ idle none. (Free c.in-Free.position, chosen, e.claims);
        busy = λ some. absurd (never-idle _ _ some c.requires.rest.0 c.requires.rest.1);
        ends = (inl (ap (λ (w : Chart). w.fields.job) e.changes.fields), inl (ap (λ (z : Parts). z.stages) c.claim_at.ensures.parts));
      };
    }

pub choose_row-requires-clause-positions : goal.choose_row-requires-clause-positions
choose_row-requires-clause-positions g c = c.requires.ready.fits.positions ∙ ap (λ (sh : Shape). positions_of sh) (sym c.requires.ready.fits.pool)

pub choose_row-requires-clause-home : goal.choose_row-requires-clause-home
choose_row-requires-clause-home g c = subst (λ (sh : Shape). c.args.home < positions_of sh) (sym c.requires.ready.fits.pool) c.requires.home

pub choose_row-requires-clause-page : goal.choose_row-requires-clause-page
choose_row-requires-clause-page g c = subst (λ (n : ℕ). c.args.page < n) (sym c.requires.ready.fits.pages) c.requires.page

pub claim_at-requires-clause-ready : goal.claim_at-requires-clause-ready
claim_at-requires-clause-ready g c = c.requires.ready

pub claim_at-requires-clause-page : goal.claim_at-requires-clause-page
claim_at-requires-clause-page g c = c.requires.page

pub claim_at-requires-clause-free : goal.claim_at-requires-clause-free
claim_at-requires-clause-free g c = free-idle _ _ c.requires.rest.0

pub returns-in_err-claim_at-in-Free-clause-same : goal.returns-in_err-claim_at-in-Free-clause-same
returns-in_err-claim_at-in-Free-clause-same g c = let p = (g.B.Board.state c.args.board.now).shape.rows in same_within (p + 5) 2 (chart (g.B.Board.state c.args.board.now)) (chart (g.B.Board.state c.claim_at.new.board)) c.claim_at.ensures.same

pub returns-in_err-claim_at-in-Free-clause-leaves : goal.returns-in_err-claim_at-in-Free-clause-leaves
returns-in_err-claim_at-in-Free-clause-leaves g c = c.claim_at.ensures.leaves

pub returns-in_err-claim_at-in-Free-clause-keeps : goal.returns-in_err-claim_at-in-Free-clause-keeps
returns-in_err-claim_at-in-Free-clause-keeps g c = keeps-off (chart (g.B.Board.state c.args.board.now)) (chart (g.B.Board.state c.claim_at.new.board)) c.args.parts.now c.claim_at.new.parts c.in_err-claim_at-in-Free.ensures.power (ap (λ (z : Parts). z.frames) c.claim_at.ensures.parts) (ap (λ (z : Parts). z.flushes) c.claim_at.ensures.parts)

pub returns-in_err-claim_at-in-Free-clause-gets : goal.returns-in_err-claim_at-in-Free-clause-gets
returns-in_err-claim_at-in-Free-clause-gets g c = off-if c.from_residual.result _ c.from_residual.ensures.1

pub returns-in_err-claim_at-in-Free-clause-stops : goal.returns-in_err-claim_at-in-Free-clause-stops
returns-in_err-claim_at-in-Free-clause-stops g c is = off-bad c.from_residual.result c.from_residual.ensures.1 is

pub returns-in_err-claim_at-in-Free-clause-power : goal.returns-in_err-claim_at-in-Free-clause-power
returns-in_err-claim_at-in-Free-clause-power g c = off-after c.from_residual.result (g.B.Board.state c.claim_at.new.board).on c.in_err-claim_at-in-Free.ensures.power c.from_residual.ensures.1

pub returns-in_ok-claim_at-in-Free-clause-same : goal.returns-in_ok-claim_at-in-Free-clause-same
returns-in_ok-claim_at-in-Free-clause-same g c = let p = (g.B.Board.state c.args.board.now).shape.rows in same_within (p + 5) 2 (chart (g.B.Board.state c.args.board.now)) (chart (g.B.Board.state c.claim_at.new.board)) c.claim_at.ensures.same

pub returns-in_ok-claim_at-in-Free-clause-leaves : goal.returns-in_ok-claim_at-in-Free-clause-leaves
returns-in_ok-claim_at-in-Free-clause-leaves g c = c.claim_at.ensures.leaves

pub returns-in_ok-claim_at-in-Free-clause-keeps : goal.returns-in_ok-claim_at-in-Free-clause-keeps
returns-in_ok-claim_at-in-Free-clause-keeps g c = keeps-places (chart (g.B.Board.state c.args.board.now)) (chart (g.B.Board.state c.claim_at.new.board)) c.args.parts.now c.claim_at.new.parts (ap (λ (w : Chart). w.fields.places) c.in_ok-claim_at-in-Free.ensures.takes.changes.fields) (ap (λ (z : Parts). z.frames) c.claim_at.ensures.parts) (ap (λ (z : Parts). z.flushes) c.claim_at.ensures.parts)

pub returns-in_ok-claim_at-in-Free-clause-stops : goal.returns-in_ok-claim_at-in-Free-clause-stops
returns-in_ok-claim_at-in-Free-clause-stops g c is = ok-bad c.in_ok-claim_at-in-Free.field-0 is

pub returns-in_ok-claim_at-in-Free-clause-power : goal.returns-in_ok-claim_at-in-Free-clause-power
returns-in_ok-claim_at-in-Free-clause-power g c = c.in_ok-claim_at-in-Free.ensures.power

pub clean-requires-clause-ready : goal.clean-requires-clause-ready
clean-requires-clause-ready g c = c.requires.ready

pub clean-requires-clause-rest : goal.clean-requires-clause-rest
clean-requires-clause-rest g c = c.requires.rest

pub clean-requires-clause-page : goal.clean-requires-clause-page
clean-requires-clause-page g c = c.requires.page

pub returns-in-Clean-clause-same : goal.returns-in-Clean-clause-same
returns-in-Clean-clause-same g c = c.clean.ensures.same

pub returns-in-Clean-clause-leaves : goal.returns-in-Clean-clause-leaves
returns-in-Clean-clause-leaves g c = c.clean.ensures.leaves

pub returns-in-Clean-clause-keeps : goal.returns-in-Clean-clause-keeps
returns-in-Clean-clause-keeps g c = c.clean.ensures.keeps

pub returns-in-Clean-clause-power : goal.returns-in-Clean-clause-power
returns-in-Clean-clause-power g c = c.clean.ensures.power
