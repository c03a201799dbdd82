use Rattle.std.proofs.Common.{refl, sym, ◌∙◌, subst}
use Rattle.std.proofs.lemmas.Bool.{false≢true}
use Rattle.std.proofs.lemmas.Result.{err_from_is_err_and}
use Rattle.envy_io.specs.Asking.{BeginsWith}
use Rattle.envy_io.specs.Taking.{Wants}
use Rattle.envy_io.proofs.Counts.{Rises-after}
use Rattle.envy_io.proofs.TakesLemmas.{Gathers-failed, Gathers-more, Gathers-none, askings-fewer}
use Rattle.envy_io.proofs.lines.Lines.gather.Goals as goal

pub asking-smaller : goal.asking-smaller
asking-smaller g c =
    let (piece, asks) = c.in_ok-ask.ensures.ok in
    askings-fewer _ _ _ _ piece (c.wants.ensures.0 c.asking-test.true) asks

pub asking-preserved : goal.asking-preserved
asking-preserved g c =
    let wants = c.wants.ensures.0 c.asking-test.true in
    let (piece, asks) = c.in_ok-ask.ensures.ok in
    record {
      gathers = Gathers-more _ c.asking.self _ _ (g.S.Source.feed c.asking.source) _ piece c.asking.invariant.gathers wants asks;
      unasked = λ refuses. absurd (refuses (subst Wants (c.asking.invariant.unasked refuses).0 wants));
      front = subst (λ bytes. BeginsWith bytes c.front_of-front-in-asking.result) c.held-in-asking.ensures c.front_of-front-in-asking.ensures;
    }

pub asking-init : goal.asking-init
asking-init g c = record {
  gathers = Gathers-none _ _ (g.S.Source.feed c.args.source.now) c.self.view_is c.self.invariant.2 c.self.invariant.3;
  unasked = λ _. (refl, refl);
  front = subst (λ bytes. BeginsWith bytes c.front_of-front.result) c.held.ensures c.front_of-front.ensures;
}

pub returns-clause-ok : goal.returns-clause-ok
returns-clause-ok g c = λ wants. absurd (false≢true (sym c.asking-test.false ∙ c.wants.ensures.1 wants))

pub returns-in_err-ask-clause-gathers : goal.returns-in_err-ask-clause-gathers
returns-in_err-ask-clause-gathers g c =
    Gathers-failed _ c.asking.self _ _ (g.S.Source.feed c.asking.source) _ c.asking.invariant.gathers c.in_err-ask.ensures.kept c.in_err-ask.ensures.left c.in_err-ask.ensures.failed

pub returns-in_err-ask-clause-err : goal.returns-in_err-ask-clause-err
returns-in_err-ask-clause-err g c =
    let wants = c.wants.ensures.0 c.asking-test.true in
    rw (err_from_is_err_and c.from_residual.result c.from_residual.ensures.1).1 (subst Wants (sym c.in_err-ask.ensures.kept) wants)

pub returns-in_err-ask-clause-failed : goal.returns-in_err-ask-clause-failed
returns-in_err-ask-clause-failed g c =
    rw (err_from_is_err_and c.from_residual.result c.from_residual.ensures.1).1 (Rises-after _ _ _ c.asking.invariant.gathers.takes.faults c.in_err-ask.ensures.failed)

pub returns-in_err-ask-clause-unasked : goal.returns-in_err-ask-clause-unasked
returns-in_err-ask-clause-unasked g c =
    let wants = c.wants.ensures.0 c.asking-test.true in
    λ refuses. absurd (refuses (subst Wants (c.asking.invariant.unasked refuses).0 wants))

pub returns-clause-gathers : goal.returns-clause-gathers
returns-clause-gathers g c = c.asking.invariant.gathers

pub returns-clause-front : goal.returns-clause-front
returns-clause-front g c = c.asking.invariant.front

pub returns-clause-unasked : goal.returns-clause-unasked
returns-clause-unasked g c = c.asking.invariant.unasked

pub wants-requires : goal.wants-requires
wants-requires g c = c.asking.invariant.front

pub ask-requires : goal.ask-requires
ask-requires g c = c.wants.ensures.0 c.asking-test.true
