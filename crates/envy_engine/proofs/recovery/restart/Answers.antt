use Rattle.std.proofs.Common.{◌∙◌, refl, sym, subst}
use Rattle.envy_map.specs.Fields.{chart}
use Rattle.envy_soundness.specs.Same.{SameDurable}
use Rattle.envy_engine.proofs.Leaving.{power_by}
use Rattle.envy_engine.proofs.FlushLemmas.{ok-any}
use Rattle.envy_engine.proofs.RestartLemmas.{live-settled}
use Rattle.envy_base.specs.declared.shape.Shape.{Shape}
use Rattle.envy_engine.specs.Agreement.{Fits}
use Rattle.envy_reloc.proofs.Exits.{none-if, none-err, none-power}
use Rattle.envy_engine.proofs.recovery.restart.Goals as goal

pub returns-clause-restarts : goal.returns-clause-restarts
returns-clause-restarts g c =
    let new = chart (g.B.Board.state c.settle_all.new.board) in
    let o = c.in_ok-settle_all.ensures in
    ok-any c.rebuild.result _ (record { live = live-settled new o.settled ∙ SameDurable.durable o.durable; settled = o.settled; restarted = o.restarted })

pub returns-clause-power : goal.returns-clause-power
returns-clause-power g c = power_by c.rebuild.result _ (ok-any c.rebuild.result _ c.in_ok-settle_all.ensures.power) c.rebuild.ensures.off

pub settle_all-requires-clause-sound : goal.settle_all-requires-clause-sound
settle_all-requires-clause-sound g c = c.requires.sound

pub settle_all-requires-clause-version : goal.settle_all-requires-clause-version
settle_all-requires-clause-version g c = c.requires.version

pub rebuild-requires-clause-sound : goal.rebuild-requires-clause-sound
rebuild-requires-clause-sound g c = SameDurable.sound c.settle_all.ensures.durable

pub rebuild-requires-clause-fits : goal.rebuild-requires-clause-fits
rebuild-requires-clause-fits g c = subst (λ (sh : Shape). Fits sh c.args.parts.now) (sym (SameDurable.shape c.settle_all.ensures.durable)) c.requires.fits

pub rebuild-requires-clause-settled : goal.rebuild-requires-clause-settled
rebuild-requires-clause-settled g c on = c.in_ok-settle_all.ensures.settled

pub returns-in_err-settle_all-clause-durable : goal.returns-in_err-settle_all-clause-durable
returns-in_err-settle_all-clause-durable g c = c.settle_all.ensures.durable

pub returns-in_err-settle_all-clause-restarts : goal.returns-in_err-settle_all-clause-restarts
returns-in_err-settle_all-clause-restarts g c = none-if c.from_residual.result _ _ c.from_residual.ensures.1

pub returns-in_err-settle_all-clause-ready : goal.returns-in_err-settle_all-clause-ready
returns-in_err-settle_all-clause-ready g c = none-if c.from_residual.result _ _ c.from_residual.ensures.1

pub returns-in_err-settle_all-clause-rebuilt : goal.returns-in_err-settle_all-clause-rebuilt
returns-in_err-settle_all-clause-rebuilt g c = none-if c.from_residual.result _ _ c.from_residual.ensures.1

pub returns-in_err-settle_all-clause-fits : goal.returns-in_err-settle_all-clause-fits
returns-in_err-settle_all-clause-fits g c = subst (λ (sh : Shape). Fits sh c.args.parts.now) (sym (SameDurable.shape c.settle_all.ensures.durable)) c.requires.fits

pub returns-in_err-settle_all-clause-counts : goal.returns-in_err-settle_all-clause-counts
returns-in_err-settle_all-clause-counts g c = record { hits = refl; misses = refl; flushes = refl; copied = refl; moved = refl; erased = refl; swaps = refl }

pub returns-in_err-settle_all-clause-kept : goal.returns-in_err-settle_all-clause-kept
returns-in_err-settle_all-clause-kept g c = refl

pub returns-in_err-settle_all-clause-halted : goal.returns-in_err-settle_all-clause-halted
returns-in_err-settle_all-clause-halted g c = none-err c.from_residual.result _ _ refl c.from_residual.ensures.1

pub returns-in_err-settle_all-clause-power : goal.returns-in_err-settle_all-clause-power
returns-in_err-settle_all-clause-power g c = none-power c.from_residual.result _ (g.B.Board.state c.settle_all.new.board).on c.in_err-settle_all.ensures.power c.from_residual.ensures.1

pub returns-clause-durable : goal.returns-clause-durable
returns-clause-durable g c = c.settle_all.ensures.durable

pub returns-clause-ready : goal.returns-clause-ready
returns-clause-ready g c = c.rebuild.ensures.ready

pub returns-clause-rebuilt : goal.returns-clause-rebuilt
returns-clause-rebuilt g c = c.rebuild.ensures.rebuilt

pub returns-clause-fits : goal.returns-clause-fits
returns-clause-fits g c = c.rebuild.ensures.fits

pub returns-clause-counts : goal.returns-clause-counts
returns-clause-counts g c = c.rebuild.ensures.counts

pub returns-clause-kept : goal.returns-clause-kept
returns-clause-kept g c = c.rebuild.ensures.kept

pub returns-clause-halted : goal.returns-clause-halted
returns-clause-halted g c = c.rebuild.ensures.halted
