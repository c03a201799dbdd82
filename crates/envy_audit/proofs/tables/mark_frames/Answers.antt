use Rattle.std.proofs.Common.{refl, ap, arith}
use Rattle.envy_base.specs.declared.shape.Shape.{Shape}
use Rattle.envy_audit.proofs.Looking.{place-within}
use Rattle.envy_audit.proofs.tables.mark_frames.Goals as goal

pub returns : goal.returns
returns g c =
    let within = place-within (g.B.Board.state c.args.board.now) (g.met.B.Board.lawful c.args.board.now) in
    let shape = ap (λ (sh : Shape). sh.pages) c.shape-page-end.ensures in
    (λ yes p r k here there. c.loop-page.invariant.apart p r k (omega (arith, shape, within p _ here)) (omega (arith, shape, within r _ there)) here there, λ _. refl)
