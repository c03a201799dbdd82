use Rattle.std.proofs.Common.{ℕ, ◌<◌, List, sym, subst, refl, arith}
use Rattle.std.specs.List.{All}
use Rattle.envy_wear.proofs.StagesLemmas.{next-below}
use Rattle.envy_wear.proofs.stages.Stages.next.Goals as goal

pub returns-clause-below : goal.returns-clause-below
returns-clause-below c = λ n all.
    next-below c.self.inside.swap c.self.inside.left n c.self.inside.swap.worn c.self.invariant (λ e. c.if-self-eq0.false (omega arith)) (λ e. absurd (omega arith)) (λ e. refl)
    (subst (λ (xs : List ℕ). All (λ k. k < n) xs) (sym c.self.view_is) all)
