use Rattle.std.proofs.Common.{refl}
use Rattle.envy_map.specs.Fields.{chart}
use Rattle.envy_table.specs.Hits.{Rests}
use Rattle.envy_engine.proofs.AgreeLemmas.{Agrees-stepped, Fits-moved}
use Rattle.envy_engine.proofs.CountLemmas.{Counting-begun}
use Rattle.envy_engine.proofs.WearLemmas.{Wearing-begun}
use Rattle.envy_engine.proofs.StoreLemmas.{shape-step, begun-step}
use Rattle.envy_engine.proofs.FlushLemmas.{if-done, on-if}
use Rattle.envy_engine.proofs.Leaving.{powers_both}
use Rattle.envy_engine.proofs.jobs.step_job.Goals as goal

pub returns-clause-leaves : goal.returns-clause-leaves
returns-clause-leaves g c =
    let old = chart (g.B.Board.state c.args.board.now) in
    let new = chart (g.B.Board.state c.step.new.board) in
    let r = c.requires.ready in
    let e = c.step.ensures in
    let shape = shape-step old new (e.same r.sound) in
    record {
      steady = record {
        fits = Fits-moved old.shape new.shape c.args.parts.now _ shape r.fits e.follow.shape refl (Rests.size e.follow.rests) refl refl;
        agrees = λ on. Agrees-stepped old new c.args.parts.now _ r.agrees shape (e.follow.pool on) (e.follow.cache on) (e.follow.plan on) (e.follow.parted on) (e.follow.frames on) refl;
      };
      counting = Counting-begun old new c.args.parts.now _ (begun-step old new (e.same r.sound)) e.counts refl refl (Wearing-begun old new c.args.parts.now _ c.step.result r.sound r.on (if-done c.step.result _ _ e.steps (λ phase s. s.does)) (λ is. (e.fails is).spoils) (powers_both c.step.result _ e.power).0);
      rests = e.follow.rests;
    }

pub returns-clause-does : goal.returns-clause-does
returns-clause-does g c = if-done c.step.result _ _ c.step.ensures.steps (λ phase s. s.does)

pub returns-clause-cleans : goal.returns-clause-cleans
returns-clause-cleans g c = on-if c.step.result _ _ c.step.ensures.steps (λ phase s. s.cleans)

pub returns-clause-left : goal.returns-clause-left
returns-clause-left g c = on-if c.step.result _ _ c.step.ensures.steps (λ phase s. s.left)
