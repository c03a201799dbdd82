use Rattle.std.proofs.Common.{◌<◌, sym, subst, get_or, ◌≡◌, ◌∙◌, arith}
use Rattle.std.proofs.lemmas.List.{get_or-take}
use Rattle.envy_soundness.specs.Sound.{IsPlaced}
use Rattle.envy_space.specs.Pool.{Pool, IsPool}
use Rattle.envy_space.proofs.SpaceLemmas.{IsPool-space, placed-within, placed-low}
use Rattle.envy_space.proofs.space.Space.position_of.Goals as goal
use Rattle.envy_base.specs.Shape.{all_positions_of, positions_of}

pub place_of-requires : goal.place_of-requires
place_of-requires c =
    let s = c.self.inside in
    placed-within s.shape s.fills.items s.kept.items s.order s.dead s.has_free s.has_dead c.args.segment c.self.invariant
    (subst (λ (p : Pool). IsPlaced p.shape p.positions c.args.segment) (sym c.self.view_is) c.requires)

pub returns-clause-within : goal.returns-clause-within
returns-clause-within c =
    let s = c.self.inside in
    subst (λ (p : Pool). c.place_of.result < positions_of p.shape) c.self.view_is
    (placed-low s.shape s.fills.items s.kept.items s.order s.dead s.has_free s.has_dead c.args.segment c.place_of.result c.self.invariant
    (subst (λ (p : Pool). IsPlaced p.shape p.positions c.args.segment) (sym c.self.view_is) c.requires)
    c.place_of.ensures.fits c.place_of.ensures.stands)

pub returns-clause-stands : goal.returns-clause-stands
returns-clause-stands c =
    let s = c.self.inside in
    let low = placed-low s.shape s.fills.items s.kept.items s.order s.dead s.has_free s.has_dead c.args.segment c.place_of.result c.self.invariant
    (subst (λ (p : Pool). IsPlaced p.shape p.positions c.args.segment) (sym c.self.view_is) c.requires)
    c.place_of.ensures.fits c.place_of.ensures.stands in
    subst (λ (p : Pool). get_or p.positions c.place_of.result 0 ≡ c.args.segment) c.self.view_is
    (get_or-take (all_positions_of s.shape) s.order c.place_of.result 0 (omega (arith, low)) ∙ c.place_of.ensures.stands)

pub returns-clause-pool : goal.returns-clause-pool
returns-clause-pool c =
    let s = c.self.inside in
    subst IsPool c.self.view_is (IsPool-space s.shape s.fills.items s.kept.items s.order s.dead s.has_free s.has_dead c.self.invariant)
