use Rattle.std.proofs.Common.{refl, ap, arith}
use Rattle.envy_base.specs.declared.shape.Shape.{Shape}
use Rattle.envy_audit.proofs.Looking.{named-within}
use Rattle.envy_audit.proofs.undos.undos_are_in_use.Goals as goal

pub returns : goal.returns
returns g c =
    let pages = ap (λ (sh : Shape). sh.pages) c.shape-page-end.ensures in
    (λ _ p t named. c.loop-page.invariant p t (omega (arith, pages, named-within (g.B.Board.state c.args.board.now) (g.met.B.Board.lawful c.args.board.now) p t named)) named, λ _. refl)
