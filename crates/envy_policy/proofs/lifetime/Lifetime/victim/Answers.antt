use Rattle.std.proofs.Common.{◌≤◌, ◌∙◌, ℕ, length, subst, ap, rules}
use Rattle.envy_policy.specs.Notes.{Notes}
use Rattle.envy_policy.proofs.Weighing.{best-none, best-of-all}
use Rattle.envy_policy.proofs.lifetime.Lifetime.victim.Goals as goal

pub loop-position-init : goal.loop-position-init
loop-position-init g c = best-none c.args.self.now (g.R.Rows.counts c.args.rows.now) c.class_of-class.result

pub weigh-best-requires-clause-best : goal.weigh-best-requires-clause-best
weigh-best-requires-clause-best g c = c.loop-position.invariant

pub loop-position-preserved : goal.loop-position-preserved
loop-position-preserved g c = c.weigh-best.ensures

pub returns : goal.returns
returns g c =
    let long = c.len-position-end.ensures ∙ c.self.inside.cleaned.ok.0 ∙ ap (λ (n : Notes). length n.cleaned) c.self.view_is in
    let all = subst (λ (n : ℕ). n ≤ c.loop-position.position) long c.loop-position-test.false in
    best-of-all c.args.self.now (g.R.Rows.counts c.args.rows.now) c.args.page c.loop-position.position c.class_of-class.result c.loop-position.best c.map.result _ (λ w k is. search rules) c.requires.rows all c.class_of-class.ensures c.loop-position.invariant c.map.ensures.cases
