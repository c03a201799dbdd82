use Rattle.std.proofs.Common.{◌≡◌, ◌∙◌, inl, inr, ℕ, Option, Some, refl, sym, ap, subst}
use Rattle.envy_base.specs.declared.fields.Job.{Job}
use Rattle.envy_base.specs.declared.fields.Job.TheVariants.{Copy, Switch, Erase}
use Rattle.envy_map.specs.Fields.{Fields, Chart, chart}
use Rattle.envy_map.specs.Writes.{with_job}
use Rattle.envy_soundness.proofs.Composition.{Same-refl}
use Rattle.envy_soundness.proofs.JobLaw.{AreHome-freed}
use Rattle.envy_reloc.specs.Settling.{Finds, Settles, Finishes}
use Rattle.envy_soundness.proofs.Claimed.{AreHome-copying}
use Rattle.envy_reloc.proofs.Exits.{unpowered, none-off, none-power}
use Rattle.envy_reloc.proofs.SettleLemmas.{freed-spare, keeps-written, ok-map}
use Rattle.envy_reloc.proofs.reloc.Reloc.settle.Goals as goal

pub begin_erase-requires-clause-home : goal.begin_erase-requires-clause-home
begin_erase-requires-clause-home g c on =
    let old = chart (g.B.Board.state c.args.board.now) in
    AreHome-copying old.shape old.fields old.flash c.in-Copy.field-0 (c.requires.sound on) (c.in_ok-job.ensures.value.1 ∙ ap (λ (j : Job). Some j) c.in-Copy.is)

pub begin_erase-requires-in-None-clause-home : goal.begin_erase-requires-in-None-clause-home
begin_erase-requires-in-None-clause-home g c on =
    let old = chart (g.B.Board.state c.args.board.now) in
    AreHome-freed old.shape old.fields old.flash c.in-Switch.segment (c.requires.sound on) (c.in_ok-job.ensures.value.1 ∙ ap (λ (j : Job). Some j) c.in-Switch.is)
    (freed-spare old c.in-Switch.segment (c.requires.sound on) (c.in_ok-job.ensures.value.1 ∙ ap (λ (j : Job). Some j) c.in-Switch.is)
    (subst (λ (k : Option ℕ). Finds old.shape old.fields.positions c.in-Switch.segment k) c.in-None.is c.in_ok-position-in-Switch.ensures.finds))

pub returns-then-not-powered : goal.returns-then-not-powered
returns-then-not-powered g c =
    let old = chart (g.B.Board.state c.args.board.now) in
    record { same = Same-refl old; idle = λ _. refl; others = refl; settles = tt; flash = tt; job = tt; power = sym c.if-not-powered.ensures }

pub returns-in_err-job : goal.returns-in_err-job
returns-in_err-job g c =
    let old = chart (g.B.Board.state c.args.board.now) in
    let result = c.from_residual.result in
    let left = c.from_residual.ensures.1 in
    record { same = Same-refl old; idle = λ _. refl; others = refl; settles = none-off result _ _ left; flash = none-off result _ _ left; job = none-off result _ _ left; power = none-power result _ _ c.in_err-job.ensures.value left }

pub returns-in_err-position-in-Switch : goal.returns-in_err-position-in-Switch
returns-in_err-position-in-Switch g c =
    let old = chart (g.B.Board.state c.args.board.now) in
    let result = c.from_residual-in_err-position-in-Switch.result in
    let left = c.from_residual-in_err-position-in-Switch.ensures.1 in
    record { same = Same-refl old; idle = λ _. refl; others = refl; settles = none-off result _ _ left; flash = none-off result _ _ left; job = none-off result _ _ left; power = none-power result _ _ c.in_err-position-in-Switch.ensures.off left }

pub returns-in-Copy : goal.returns-in-Copy
returns-in-Copy g c =
    let old = chart (g.B.Board.state c.args.board.now) in
    let new = chart (g.B.Board.state c.begin_erase.new.board) in
    let here = c.in_ok-job.ensures.value.0 in
    let job : old.fields.job ≡ Some (Copy c.in-Copy.field-0) = c.in_ok-job.ensures.value.1 ∙ ap (λ (j : Job). Some j) c.in-Copy.is in
    let e = c.begin_erase.ensures in
    record {
      same = λ _. e.same;
      idle = λ off. unpowered old.on off here;
      others = keeps-written old.fields old new (with_job (Some Erase)) c.begin_erase.result refl refl e.writes;
      settles = ok-map c.begin_erase.result _ _ e.fields (λ is. subst (λ (j : Option Job). Settles old.shape j old.fields new.fields) (sym job) (ap (λ (x : Chart). x.fields) is));
      flash = ok-map c.begin_erase.result _ _ e.fields (λ is. ap (λ (x : Chart). x.flash) is);
      job = ok-map c.begin_erase.result _ _ e.fields (λ is. inr (ap (λ (x : Chart). x.fields.job) is));
      power = e.power;
    }

pub returns-in-None : goal.returns-in-None
returns-in-None g c =
    let old = chart (g.B.Board.state c.args.board.now) in
    let new = chart (g.B.Board.state c.begin_erase-in-None.new.board) in
    let here = c.in_ok-job.ensures.value.0 in
    let job : old.fields.job ≡ Some (Switch c.in-Switch.segment) = c.in_ok-job.ensures.value.1 ∙ ap (λ (j : Job). Some j) c.in-Switch.is in
    let spare = freed-spare old c.in-Switch.segment (c.requires.sound here) job (subst (λ (k : Option ℕ). Finds old.shape old.fields.positions c.in-Switch.segment k) c.in-None.is c.in_ok-position-in-Switch.ensures.finds) in
    let result = c.begin_erase-in-None.result in
    let e = c.begin_erase-in-None.ensures in
    record {
      same = λ _. e.same;
      idle = λ off. unpowered old.on off here;
      others = keeps-written old.fields old new (with_job (Some Erase)) result refl refl e.writes;
      settles = ok-map result _ _ e.fields (λ is. subst (λ (j : Option Job). Settles old.shape j old.fields new.fields) (sym job) (inl (spare, ap (λ (x : Chart). x.fields) is)));
      flash = ok-map result _ _ e.fields (λ is. ap (λ (x : Chart). x.flash) is);
      job = ok-map result _ _ e.fields (λ is. inr (ap (λ (x : Chart). x.fields.job) is));
      power = e.power;
    }

pub returns-in-Some : goal.returns-in-Some
returns-in-Some g c =
    let old = chart (g.B.Board.state c.args.board.now) in
    let new = chart (g.B.Board.state c.finish_switch.new.board) in
    let here = c.in_ok-job.ensures.value.0 in
    let job : old.fields.job ≡ Some (Switch c.in-Switch.segment) = c.in_ok-job.ensures.value.1 ∙ ap (λ (j : Job). Some j) c.in-Switch.is in
    let result = c.finish_switch.result in
    let e = c.finish_switch.ensures in
    record {
      same = λ _. e.same;
      idle = λ off. unpowered old.on off here;
      others = e.others;
      settles = ok-map result _ _ e.finishes (λ is. subst (λ (j : Option Job). Settles old.shape j old.fields new.fields) (sym job) (inr is));
      flash = e.flash;
      job = ok-map result _ _ e.finishes (λ is. inr (ap (λ (f : Fields). f.job) (Finishes.fields is)));
      power = e.power;
    }

pub returns-in-Idle-clause-same : goal.returns-in-Idle-clause-same
returns-in-Idle-clause-same g c = Same-refl (chart (g.B.Board.state c.args.board.now))

pub returns-in-Idle-clause-others : goal.returns-in-Idle-clause-others
returns-in-Idle-clause-others g c = refl

pub returns-in-Idle-clause-settles : goal.returns-in-Idle-clause-settles
returns-in-Idle-clause-settles g c =
    let old = chart (g.B.Board.state c.args.board.now) in
    let job = c.in_ok-job.ensures.value.1 in
    elim c.in-Idle.is [
      | inl is ↦ subst (λ (j : Option Job). Settles old.shape j old.fields old.fields) (sym (job ∙ ap (λ (j : Job). Some j) is)) refl
      | inr is ↦ subst (λ (j : Option Job). Settles old.shape j old.fields old.fields) (sym (job ∙ ap (λ (j : Job). Some j) is)) refl
    ]

pub returns-in-Idle-clause-job : goal.returns-in-Idle-clause-job
returns-in-Idle-clause-job g c =
    let job = c.in_ok-job.ensures.value.1 in
    elim c.in-Idle.is [
      | inl is ↦ inl (job ∙ ap (λ (j : Job). Some j) is)
      | inr is ↦ inr (job ∙ ap (λ (j : Job). Some j) is)
    ]

pub finish_switch-requires-clause-clear : goal.finish_switch-requires-clause-clear
finish_switch-requires-clause-clear g c = c.requires.clear c.in_ok-job.ensures.value.0

pub finish_switch-requires-clause-switching : goal.finish_switch-requires-clause-switching
finish_switch-requires-clause-switching g c = c.in_ok-job.ensures.value.1 ∙ ap (λ (j : Job). Some j) c.in-Switch.is
