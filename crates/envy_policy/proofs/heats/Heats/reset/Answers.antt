use Rattle.std.proofs.Common.{ℕ, ◌∙◌, length, replicate, ap, arith}
use Rattle.envy_policy.specs.Heats.{Warmth, halved_by}
use Rattle.envy_policy.proofs.Warming.{cold-view, kept-start, length-heats}
use Rattle.envy_policy.proofs.heats.Heats.reset.Goals as goal

pub invariant_of-self : goal.invariant_of-self
invariant_of-self c = kept-start c.fill.new.self.items _ (c.fill.ensures.items (λ y e. e)) (let few = c.self.invariant.few in omega (arith, c.self.inside.kept.ok.0))

pub returns : goal.returns
returns c =
    let a = c.self.inside in
    let seen = ap (λ (w : Warmth). length w.heats) c.self.view_is in
    let long = length-heats (halved_by a.flushes (length a.kept.items)) a.kept.items in
    cold-view c.fill.new.self.items _ (c.fill.ensures.items (λ y e. e) ∙ ap (λ (n : ℕ). replicate n 0) (omega (arith, seen, long, a.kept.ok.0)))
