use Rattle.std.proofs.Common.{subst, sym}
use Rattle.envy_mirror.specs.Pair.{Pair, IsDark}
use Rattle.envy_mirror.proofs.Returning.{IsPair-returned-first, IsPair-returned-second}
use Rattle.envy_mirror.proofs.mirror.Mirror.revive.Goals as goal

pub invariant_of-self : goal.invariant_of-self
invariant_of-self g c =
    let dark = subst (λ (p : Pair). IsDark p) (sym c.self.view_is) c.requires in
    IsPair-returned-first _ _ c.revive_side.new.side c.revive_side.new.stale.items c.self.invariant dark.0 c.in-First.is c.revive_side.ensures

pub invariant_of-self-in-Second : goal.invariant_of-self-in-Second
invariant_of-self-in-Second g c =
    let dark = subst (λ (p : Pair). IsDark p) (sym c.self.view_is) c.requires in
    IsPair-returned-second _ _ c.revive_side-in-Second.new.side c.revive_side-in-Second.new.stale.items c.self.invariant dark.1 c.in-Second.is c.revive_side-in-Second.ensures
