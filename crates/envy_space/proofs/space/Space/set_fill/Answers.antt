use Rattle.std.proofs.Common.{◌≡◌, ◌∙◌, get_or, sym, ap, arith}
use Rattle.envy_space.specs.Pool.{Pool}
use Rattle.envy_space.proofs.SpaceLemmas.{free-flag-here, dead-flag-here, IsSpace-filled}
use Rattle.envy_space.proofs.space.Space.set_fill.Goals as goal

pub change-requires-clause-before : goal.change-requires-clause-before
change-requires-clause-before c =
    let fill : c.fill-before.result ≡ get_or c.self.inside.fills.items c.args.segment 0 = c.fill-before.ensures.fill ∙ sym (ap (λ (p : Pool). get_or p.fills c.args.segment 0) c.self.view_is) in
    let long = c.self.invariant.order_long in
    free-flag-here _ _ _ _ _ _ _ c.args.segment c.fill-before.result c.place_of-place.result c.self.invariant (omega arith) c.place_of-place.ensures.stands fill

pub change-requires-2-clause-before : goal.change-requires-2-clause-before
change-requires-2-clause-before c =
    let fill : c.fill-before.result ≡ get_or c.self.inside.fills.items c.args.segment 0 = c.fill-before.ensures.fill ∙ sym (ap (λ (p : Pool). get_or p.fills c.args.segment 0) c.self.view_is) in
    let kept : c.kept-kept.result ≡ get_or c.self.inside.kept.items c.args.segment 0 = c.kept-kept.ensures.kept ∙ sym (ap (λ (p : Pool). get_or p.kept c.args.segment 0) c.self.view_is) in
    let long = c.self.invariant.order_long in
    dead-flag-here _ _ _ _ _ _ _ c.args.segment c.fill-before.result c.kept-kept.result c.place_of-place.result c.self.invariant (omega arith) c.place_of-place.ensures.stands fill kept

pub invariant_of-self : goal.invariant_of-self
invariant_of-self c =
    let segments = ap (λ (p : Pool). p.shape.segments) c.self.view_is in
    let rows = ap (λ (p : Pool). p.shape.rows) c.self.view_is in
    let kept : c.kept-kept.result ≡ get_or c.self.inside.kept.items c.args.segment 0 = c.kept-kept.ensures.kept ∙ sym (ap (λ (p : Pool). get_or p.kept c.args.segment 0) c.self.view_is) in
    let here = c.kept-kept.ensures.kept in
    let order_long = c.self.invariant.order_long in
    IsSpace-filled _ _ _ _ _ _ _ _ _ _ c.args.segment c.args.fill c.kept-kept.result c.place_of-place.result (omega arith) (omega arith) kept (omega arith) (omega arith) c.place_of-place.ensures.stands c.self.invariant c.set.ensures c.change.ensures c.change-2.ensures
