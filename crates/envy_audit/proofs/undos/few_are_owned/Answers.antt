use Rattle.std.proofs.Common.{ap, arith}
use Rattle.envy_base.specs.declared.shape.Shape.{Shape}
use Rattle.envy_audit.proofs.Looking.{few-tell}
use Rattle.envy_audit.proofs.undos.few_are_owned.Goals as goal

pub returns : goal.returns
returns g c =
    let pages = ap (λ (sh : Shape). sh.pages) c.shape-shape.ensures in
    few-tell (g.B.Board.state c.args.board.now) c.loop-page.owned c.loop-page.page _ (g.met.B.Board.lawful c.args.board.now) (omega (arith, pages)) (ap (λ (sh : Shape). sh.shadows) c.shape-shape.ensures) c.loop-page.invariant.counted
