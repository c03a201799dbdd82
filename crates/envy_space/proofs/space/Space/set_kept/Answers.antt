use Rattle.std.proofs.Common.{◌≡◌, ◌∙◌, get_or, sym, ap, arith}
use Rattle.envy_space.specs.Pool.{Pool}
use Rattle.envy_space.proofs.SpaceLemmas.{dead-flag-here, IsSpace-kept}
use Rattle.envy_space.proofs.space.Space.set_kept.Goals as goal

pub change-requires-clause-before : goal.change-requires-clause-before
change-requires-clause-before c =
    let fill : c.fill-fill.result ≡ get_or c.self.inside.fills.items c.args.segment 0 = c.fill-fill.ensures.fill ∙ sym (ap (λ (p : Pool). get_or p.fills c.args.segment 0) c.self.view_is) in
    let kept : c.kept-before.result ≡ get_or c.self.inside.kept.items c.args.segment 0 = c.kept-before.ensures.kept ∙ sym (ap (λ (p : Pool). get_or p.kept c.args.segment 0) c.self.view_is) in
    let long = c.self.invariant.order_long in
    dead-flag-here _ _ _ _ _ _ _ c.args.segment c.fill-fill.result c.kept-before.result c.place_of-place.result c.self.invariant (omega arith) c.place_of-place.ensures.stands fill kept

pub invariant_of-self : goal.invariant_of-self
invariant_of-self c =
    let segments = ap (λ (p : Pool). p.shape.segments) c.self.view_is in
    let fill : c.fill-fill.result ≡ get_or c.self.inside.fills.items c.args.segment 0 = c.fill-fill.ensures.fill ∙ sym (ap (λ (p : Pool). get_or p.fills c.args.segment 0) c.self.view_is) in
    let here = c.fill-fill.ensures.fill in
    let order_long = c.self.invariant.order_long in
    IsSpace-kept _ _ _ _ _ _ _ _ _ c.args.segment c.args.kept c.fill-fill.result c.place_of-place.result (omega arith) fill (omega arith) (omega arith) c.place_of-place.ensures.stands c.self.invariant c.set.ensures c.change.ensures
