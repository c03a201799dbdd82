use Rattle.std.proofs.Common.{subst, sym}
use Rattle.envy_mirror.specs.Mirroring.{Mirrors}
use Rattle.envy_mirror.specs.Pair.{Pair}
use Rattle.envy_mirror.proofs.Following.{Mirrors-first, Mirrors-second}
use Rattle.envy_mirror.proofs.mirror.Mirror.catch_up.Goals as goal

pub returns-in-true-false-clause-mirrors : goal.returns-in-true-false-clause-mirrors
returns-in-true-false-clause-mirrors g c =
    λ m h.
    Mirrors-second _ _ c.help.new.side c.help.new.stale.items m c.self.invariant (sym c.in-true-false.ensures) c.help.ensures.side c.help.ensures.helps
    (subst (λ (p : Pair). Mirrors p m) (sym c.self.view_is) h)

pub returns-in-false-true-clause-mirrors : goal.returns-in-false-true-clause-mirrors
returns-in-false-true-clause-mirrors g c =
    λ m h.
    Mirrors-first _ _ c.help-in-false-true.new.side c.help-in-false-true.new.stale.items m c.self.invariant (sym c.in-false-true.ensures') c.help-in-false-true.ensures.side c.help-in-false-true.ensures.helps
    (subst (λ (p : Pair). Mirrors p m) (sym c.self.view_is) h)
