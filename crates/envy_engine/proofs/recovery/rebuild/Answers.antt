use Rattle.std.proofs.Common.{◌∙◌, refl, ap}
use Rattle.envy_reloc.specs.Plan.{Plan}
use Rattle.envy_engine.proofs.SettleAnswers.{counts-anew}
use Rattle.envy_map.specs.Fields.{chart}
use Rattle.envy_engine.proofs.AgreeLemmas.{Fits-staged, no-stages, sizes_of}
use Rattle.envy_engine.proofs.RestartLemmas.{IsPlanOf-settled, AreParted-settled}
use Rattle.envy_reloc.proofs.Exits.{none-if, none-err}
use Rattle.envy_engine.proofs.recovery.rebuild.Goals as goal

pub returns-clause-ready : goal.returns-clause-ready
returns-clause-ready g c =
    let now = chart (g.B.Board.state c.args.board.now) in
    let on = c.in_ok-rebuild-2.ensures.power in
    let settled = c.requires.settled on in
    record {
      on = on;
      sound = c.requires.sound;
      fits = Fits-staged now.shape c.args.parts.now _ c.requires.fits (no-stages now.shape _ c.clear.ensures) c.rebuild-2.ensures.shape c.rebuild.ensures.count c.empty.ensures.size (ap sizes_of c.reset.ensures);
      agrees = record {
        pool = c.in_ok-rebuild-2.ensures.agrees;
        held = c.in_ok-rebuild.ensures.agrees;
        current = c.empty.ensures.agrees now.shape.pages now.fields.places;
        job = IsPlanOf-settled now _ settled;
        two = AreParted-settled now c.requires.sound settled;
      };
    }

pub returns-in_err-rebuild-clause-ready : goal.returns-in_err-rebuild-clause-ready
returns-in_err-rebuild-clause-ready g c = none-if c.from_residual.result _ _ c.from_residual.ensures.1

pub returns-in_err-rebuild-clause-rebuilt : goal.returns-in_err-rebuild-clause-rebuilt
returns-in_err-rebuild-clause-rebuilt g c = none-if c.from_residual.result _ _ c.from_residual.ensures.1

pub returns-in_err-rebuild-clause-kept : goal.returns-in_err-rebuild-clause-kept
returns-in_err-rebuild-clause-kept g c = refl

pub returns-in_err-rebuild-clause-halted : goal.returns-in_err-rebuild-clause-halted
returns-in_err-rebuild-clause-halted g c = none-err c.from_residual.result _ _ refl c.from_residual.ensures.1

pub returns-in_err-rebuild-2-clause-ready : goal.returns-in_err-rebuild-2-clause-ready
returns-in_err-rebuild-2-clause-ready g c = none-if c.from_residual-in_err-rebuild-2.result _ _ c.from_residual-in_err-rebuild-2.ensures.1

pub returns-in_err-rebuild-2-clause-rebuilt : goal.returns-in_err-rebuild-2-clause-rebuilt
returns-in_err-rebuild-2-clause-rebuilt g c = none-if c.from_residual-in_err-rebuild-2.result _ _ c.from_residual-in_err-rebuild-2.ensures.1

pub returns-in_err-rebuild-2-clause-kept : goal.returns-in_err-rebuild-2-clause-kept
returns-in_err-rebuild-2-clause-kept g c = refl

pub returns-in_err-rebuild-2-clause-halted : goal.returns-in_err-rebuild-2-clause-halted
returns-in_err-rebuild-2-clause-halted g c = none-err c.from_residual-in_err-rebuild-2.result _ _ refl c.from_residual-in_err-rebuild-2.ensures.1

pub returns-in_err-rebuild-2-clause-off : goal.returns-in_err-rebuild-2-clause-off
returns-in_err-rebuild-2-clause-off g c = none-err c.from_residual-in_err-rebuild-2.result _ _ c.in_err-rebuild-2.ensures.power c.from_residual-in_err-rebuild-2.ensures.1

pub returns-clause-fits : goal.returns-clause-fits
returns-clause-fits g c =
    let now = chart (g.B.Board.state c.args.board.now) in
    Fits-staged now.shape c.args.parts.now _ c.requires.fits (no-stages now.shape _ c.clear.ensures) c.rebuild-2.ensures.shape c.rebuild.ensures.count c.empty.ensures.size (ap sizes_of c.reset.ensures)

pub returns-clause-kept : goal.returns-clause-kept
returns-clause-kept g c = refl

pub returns-clause-rebuilt : goal.returns-clause-rebuilt
returns-clause-rebuilt g c = record {
  held = c.in_ok-rebuild.ensures.held;
  heats = c.reset.ensures;
  stages = c.clear.ensures;
  empties = c.empty.ensures.empties;
  since = c.count_anew.ensures ∙ ap (λ (t : Plan). record t { since = 0 }) c.clear-2.ensures;
}

pub returns-clause-counts : goal.returns-clause-counts
returns-clause-counts g c = counts-anew c.args.parts.now _ c.clear-2.new.self c.empty.ensures.empties c.clear-2.ensures c.count_anew.ensures refl refl

pub returns-in_err-rebuild-clause-fits : goal.returns-in_err-rebuild-clause-fits
returns-in_err-rebuild-clause-fits g c =
    let now = chart (g.B.Board.state c.args.board.now) in
    Fits-staged now.shape c.args.parts.now _ c.requires.fits c.requires.fits.stages refl c.rebuild.ensures.count refl refl

pub returns-in_err-rebuild-clause-counts : goal.returns-in_err-rebuild-clause-counts
returns-in_err-rebuild-clause-counts g c = record { hits = refl; misses = refl; flushes = refl; copied = refl; moved = refl; erased = refl; swaps = refl }

pub returns-in_err-rebuild-clause-off : goal.returns-in_err-rebuild-clause-off
returns-in_err-rebuild-clause-off g c = none-err c.from_residual.result _ _ (c.in_err-rebuild.ensures.off.0 refl) c.from_residual.ensures.1

pub returns-in_err-rebuild-2-clause-fits : goal.returns-in_err-rebuild-2-clause-fits
returns-in_err-rebuild-2-clause-fits g c =
    let now = chart (g.B.Board.state c.args.board.now) in
    Fits-staged now.shape c.args.parts.now _ c.requires.fits c.requires.fits.stages c.rebuild-2.ensures.shape c.rebuild.ensures.count refl refl

pub returns-in_err-rebuild-2-clause-counts : goal.returns-in_err-rebuild-2-clause-counts
returns-in_err-rebuild-2-clause-counts g c = record { hits = refl; misses = refl; flushes = refl; copied = refl; moved = refl; erased = refl; swaps = refl }
