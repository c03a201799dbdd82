use Rattle.std.proofs.Common.{◌≡◌, ◌∙◌, inl, inr, ◌<◌, ℕ, Some, Err, refl, sym, ap, subst, arith}
use Rattle.std.specs.Prelude.{IsTrue, sum}
use Rattle.envy_base.specs.Counting.{Tally}
use Rattle.envy_base.specs.Shape.{IsShape}
use Rattle.envy_base.specs.State.{IsBoard}
use Rattle.envy_base.specs.declared.board.Trouble.{Trouble}
use Rattle.envy_base.specs.declared.fields.Job.{Job}
use Rattle.envy_base.specs.declared.fields.Job.TheVariants.{Switch, Erase}
use Rattle.envy_map.specs.Fields.{Fields, Chart, chart}
use Rattle.envy_soundness.specs.Power.{power_after}
use Rattle.envy_soundness.specs.Same.{Same, Stays, Framed}
use Rattle.envy_soundness.proofs.Composition.{Same-refl}
use Rattle.envy_soundness.proofs.Sames.{same_within}
use Rattle.envy_reloc.specs.Plan.{Plan}
use Rattle.envy_reloc.specs.declared.step.Phase.TheVariants.{Placed, Erased}
use Rattle.envy_reloc.proofs.Counts.{counts_by_erase, counts_by_none, counts_by_nothing, apart_by_none}
use Rattle.envy_reloc.proofs.EffortLemmas.{if-ok}
use Rattle.envy_reloc.proofs.Exits.{unpowered, off-after, off-if, off-bad, err-after, err-if, err-bad, ok-bad}
use Rattle.envy_reloc.proofs.KeepLemmas.{bad-of, counted-erase}
use Rattle.envy_reloc.proofs.StepsLemma.{Steps-made}
use Rattle.envy_reloc.proofs.StepWays.{IsEnded, IsEnded-erased, AllFollow-off, AllFollow-ended, within-erased}
use Rattle.envy_reloc.proofs.reloc.Reloc.step.Goals as goal

pub go_on-requires-clause-ready : goal.go_on-requires-clause-ready
go_on-requires-clause-ready g c =
    let here = c.in_ok-job.ensures.value.0 in
    let ready = c.requires.ready here in
    record { on = here; sound = ready.sound; pool = ready.pool; plan = ready.plan; parted = ready.parted }

pub returns-then-not-powered : goal.returns-then-not-powered
returns-then-not-powered g c =
    let old = chart (g.B.Board.state c.args.board.now) in
    let plan = c.args.self.now in
    let off = sym c.if-not-powered.ensures in
    record {
      same = λ sound. inl (same_within 1 0 old old (Same-refl old sound));
      idle = λ _. (refl, refl, refl, refl);
      follow = AllFollow-off old old c.args.space.now c.args.space.now plan c.args.cache.now off refl;
      power = off;
      steps = tt;
      fails = λ bad. off-bad _ refl bad;
      within = λ sound n e s _. same_within n e old old (Same-refl old sound);
      counts = counts_by_nothing old old plan plan refl refl;
      apart = apart_by_none old plan plan refl refl;
    }

pub returns-in_err-job : goal.returns-in_err-job
returns-in_err-job g c =
    let old = chart (g.B.Board.state c.args.board.now) in
    let plan = c.args.self.now in
    let off = c.in_err-job.ensures.value in
    let result = c.from_residual.result in
    let left = c.from_residual.ensures.1 in
    record {
      same = λ sound. inl (same_within 1 0 old old (Same-refl old sound));
      idle = λ _. (refl, refl, refl, refl);
      follow = AllFollow-off old old c.args.space.now c.args.space.now plan c.args.cache.now off refl;
      power = off-after result _ off left;
      steps = off-if result _ left;
      fails = λ bad. off-bad result left bad;
      within = λ sound n e s _. same_within n e old old (Same-refl old sound);
      counts = counts_by_nothing old old plan plan refl refl;
      apart = apart_by_none old plan plan refl refl;
    }

pub returns-in-Copy : goal.returns-in-Copy
returns-in-Copy g c =
    let old = chart (g.B.Board.state c.args.board.now) in
    let new = chart (g.B.Board.state c.go_on.new.board) in
    let here = c.in_ok-job.ensures.value.0 in
    let ready = c.requires.ready here in
    let some : 0 < old.shape.rows = (let two = IsShape.rows (IsBoard.shape (g.met.B.Board.lawful c.args.board.now)) in omega arith) in
    let e = c.go_on.ensures in
    record {
      same = λ _. inl e.same;
      idle = λ off. unpowered old.on off here;
      follow = e.follow;
      power = e.power;
      steps = if-ok c.go_on.result _ _ _ e.does e.works (λ phase does works. Steps-made old c.args.self.now phase new c.go_on.new.self ready.sound some ready.plan does works);
      fails = e.fails;
      within = λ _. e.within;
      counts = e.counts;
      apart = e.apart;
    }

pub returns-in_err-place_spare-in-Switch : goal.returns-in_err-place_spare-in-Switch
returns-in_err-place_spare-in-Switch g c =
    let old = chart (g.B.Board.state c.args.board.now) in
    let new = chart (g.B.Board.state c.place_spare.new.board) in
    let plan = c.args.self.now in
    let here = c.in_ok-job.ensures.value.0 in
    let e = c.in_err-place_spare-in-Switch.ensures in
    let result = c.from_residual-in_err-place_spare-in-Switch.result in
    let left = c.from_residual-in_err-place_spare-in-Switch.ensures.1 in
    record {
      same = λ _. inl (same_within 1 0 old new e.same);
      idle = λ off. unpowered old.on off here;
      follow = AllFollow-off old new c.args.space.now c.place_spare.new.space plan c.args.cache.now e.power e.shape;
      power = off-after result _ e.power left;
      steps = off-if result _ left;
      fails = λ bad. off-bad result left bad;
      within = λ _ n m s _. same_within n m old new e.same;
      counts = counts_by_none old new plan plan e.same refl refl refl refl;
      apart = apart_by_none old plan plan refl refl;
    }

pub returns-in_ok-place_spare-in-Switch : goal.returns-in_ok-place_spare-in-Switch
returns-in_ok-place_spare-in-Switch g c =
    let old = chart (g.B.Board.state c.args.board.now) in
    let new = chart (g.B.Board.state c.place_spare.new.board) in
    let plan = c.args.self.now in
    let here = c.in_ok-job.ensures.value.0 in
    let ready = c.requires.ready here in
    let some : 0 < old.shape.rows = (let two = IsShape.rows (IsBoard.shape (g.met.B.Board.lawful c.args.board.now)) in omega arith) in
    let job : old.fields.job ≡ Some (Switch c.in-Switch.segment) = c.in_ok-job.ensures.value.1 ∙ ap (λ (j : Job). Some j) c.in-Switch.is in
    let e = c.in_ok-place_spare-in-Switch.ensures in
    let p = e.places in
    record {
      same = λ _. inl (same_within 1 0 old new e.same);
      idle = λ off. unpowered old.on off here;
      follow = AllFollow-ended old new c.args.space.now c.place_spare.new.space plan c.args.cache.now (Framed.shape (Stays.framed (Same.stays e.same))) (λ _. subst (λ (f : Fields). IsEnded old.fields f) (sym (ap (λ (x : Chart). x.fields) p.5)) (record { places = refl; slots = refl; undos = refl; job = inr refl })) e.pool e.shape ready.parted ready.cache;
      power = e.power;
      steps = Steps-made old plan Placed new _ ready.sound some ready.plan (record { v = c.in-Switch.segment; switching = job; k = p.0; position = p.2; here = p.3; e = p.1; spare = p.4; is = p.5; plan_is = refl }) e.same;
      fails = λ bad. ok-bad _ bad;
      within = λ _ n m s _. same_within n m old new e.same;
      counts = counts_by_none old new plan plan e.same refl refl refl refl;
      apart = apart_by_none old plan plan refl refl;
    }

pub returns-in_ok-erase-in-Erase : goal.returns-in_ok-erase-in-Erase
returns-in_ok-erase-in-Erase g c =
    let old = chart (g.B.Board.state c.args.board.now) in
    let new = chart (g.B.Board.state c.erase.new.board) in
    let plan = c.args.self.now in
    let here = c.in_ok-job.ensures.value.0 in
    let ready = c.requires.ready here in
    let some : 0 < old.shape.rows = (let two = IsShape.rows (IsBoard.shape (g.met.B.Board.lawful c.args.board.now)) in omega arith) in
    let job : old.fields.job ≡ Some Erase = c.in_ok-job.ensures.value.1 ∙ ap (λ (j : Job). Some j) c.in-Erase.is in
    let e = c.in_ok-erase-in-Erase.ensures in
    let p = e.ends in
    let counted = e.counted e.power in
    let copied = ap (λ (w : Plan). w.copied) c.self.view_is in
    let moved = ap (λ (w : Plan). w.moved) c.self.view_is in
    record {
      same = λ _. inr e.same;
      idle = λ off. unpowered old.on off here;
      follow = AllFollow-ended old new c.args.space.now c.erase.new.space _ c.args.cache.now (Framed.shape (Stays.framed (Same.stays e.same))) (λ _. IsEnded-erased old new p.0 p.2) e.follow.pool e.follow.shape ready.parted ready.cache;
      power = e.power;
      steps = Steps-made old plan Erased new _ ready.sound some ready.plan (record { erasing = job; e = p.0; spare = p.1; ends = p.2; plan_is = counted-erase _ plan c.erase.new.erased c.erase.new.since c.self.view_is counted.0 counted.1 }) e.same;
      fails = λ bad. ok-bad _ bad;
      within = λ _ n m s. within-erased old new plan n m s job e.same;
      counts = counts_by_erase old new plan _ e.same
          (subst (λ (n : ℕ). Tally (sum old.erases) n (sum new.erases) c.erase.new.erased) (ap (λ (w : Plan). w.erased) c.self.view_is) e.counts.0)
          (subst (λ (n : ℕ). Tally (sum old.erases) n (sum new.erases) c.erase.new.since) (ap (λ (w : Plan). w.since) c.self.view_is) e.counts.1)
          copied moved;
      apart = apart_by_none old plan _ copied moved;
    }

pub returns-in_err-erase-in-Erase : goal.returns-in_err-erase-in-Erase
returns-in_err-erase-in-Erase g c =
    let old = chart (g.B.Board.state c.args.board.now) in
    let new = chart (g.B.Board.state c.erase.new.board) in
    let plan = c.args.self.now in
    let here = c.in_ok-job.ensures.value.0 in
    let ready = c.requires.ready here in
    let job : old.fields.job ≡ Some Erase = c.in_ok-job.ensures.value.1 ∙ ap (λ (j : Job). Some j) c.in-Erase.is in
    let e = c.erase.ensures in
    let result = c.from_residual-in_err-erase-in-Erase.result in
    let left = c.from_residual-in_err-erase-in-Erase.ensures.1 in
    let trouble = c.in_err-erase-in-Erase.field-0.0 in
    let spoilt = λ (on : IsTrue new.on). e.spoilt (bad-of c.erase.result _ new.on e.power on c.in_err-erase-in-Erase.was) in
    let copied = ap (λ (w : Plan). w.copied) c.self.view_is in
    let moved = ap (λ (w : Plan). w.moved) c.self.view_is in
    record {
      same = λ _. inr e.same;
      idle = λ off. unpowered old.on off here;
      follow = AllFollow-ended old new c.args.space.now c.erase.new.space _ c.args.cache.now (Framed.shape (Stays.framed (Same.stays e.same))) (λ on. subst (λ (f : Fields). IsEnded old.fields f) (sym (spoilt on).3) (record { places = refl; slots = refl; undos = refl; job = inr job })) e.follow.pool e.follow.shape ready.parted ready.cache;
      power = err-after (Unit {0}) result new.on trouble c.in_err-erase-in-Erase.ensures.power left;
      steps = err-if result _ trouble left;
      fails = λ bad.
          let is = c.in_err-erase-in-Erase.was ∙ ap (λ (x : Trouble). Err x) (err-bad result trouble left bad) in
          let s = e.spoilt is in
          let counted = e.counted (e.power ∙ ap power_after is) in
          record {
            spoils = inr (inr (record { erasing = job; e = s.0; spare = s.1; none = s.2; fields = s.3; others = s.4; plan_is = counted-erase _ plan c.erase.new.erased c.erase.new.since c.self.view_is counted.0 counted.1 }));
            job = ap (λ (f : Fields). f.job) s.3 ∙ job;
            dropped = λ other. absurd (other job);
            bad = e.bad is;
          };
      within = λ _ n m s. within-erased old new plan n m s job e.same;
      counts = counts_by_erase old new plan _ e.same
          (subst (λ (n : ℕ). Tally (sum old.erases) n (sum new.erases) c.erase.new.erased) (ap (λ (w : Plan). w.erased) c.self.view_is) e.counts.0)
          (subst (λ (n : ℕ). Tally (sum old.erases) n (sum new.erases) c.erase.new.since) (ap (λ (w : Plan). w.since) c.self.view_is) e.counts.1)
          copied moved;
      apart = apart_by_none old plan _ copied moved;
    }

pub go_on-requires-clause-cache : goal.go_on-requires-clause-cache
go_on-requires-clause-cache g c = (c.requires.ready c.in_ok-job.ensures.value.0).cache

pub go_on-requires-clause-copying : goal.go_on-requires-clause-copying
go_on-requires-clause-copying g c = c.in_ok-job.ensures.value.1 ∙ ap (λ (j : Job). Some j) c.in-Copy.is

pub place_spare-requires-clause-sound : goal.place_spare-requires-clause-sound
place_spare-requires-clause-sound g c = (c.requires.ready c.in_ok-job.ensures.value.0).sound

pub place_spare-requires-clause-on : goal.place_spare-requires-clause-on
place_spare-requires-clause-on g c = c.in_ok-job.ensures.value.0

pub place_spare-requires-clause-pool : goal.place_spare-requires-clause-pool
place_spare-requires-clause-pool g c = (c.requires.ready c.in_ok-job.ensures.value.0).pool

pub place_spare-requires-clause-switching : goal.place_spare-requires-clause-switching
place_spare-requires-clause-switching g c = c.in_ok-job.ensures.value.1 ∙ ap (λ (j : Job). Some j) c.in-Switch.is

pub erase-requires-clause-sound : goal.erase-requires-clause-sound
erase-requires-clause-sound g c = (c.requires.ready c.in_ok-job.ensures.value.0).sound

pub erase-requires-clause-on : goal.erase-requires-clause-on
erase-requires-clause-on g c = c.in_ok-job.ensures.value.0

pub erase-requires-clause-pool : goal.erase-requires-clause-pool
erase-requires-clause-pool g c = (c.requires.ready c.in_ok-job.ensures.value.0).pool

pub erase-requires-clause-erasing : goal.erase-requires-clause-erasing
erase-requires-clause-erasing g c = c.in_ok-job.ensures.value.1 ∙ ap (λ (j : Job). Some j) c.in-Erase.is
