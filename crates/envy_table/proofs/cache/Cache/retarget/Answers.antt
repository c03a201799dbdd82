use Rattle.std.proofs.Common.{◌∙◌, sym}
use Rattle.envy_table.proofs.Filling.{AreCurrent-retargeted}
use Rattle.envy_table.proofs.cache.Cache.retarget.Goals as goal

pub returns-then-is_some-clause-agrees : goal.returns-then-is_some-clause-agrees
returns-then-is_some-clause-agrees c = λ pages places agrees.
    rw c.fill.ensures
    (AreCurrent-retargeted pages places c.args.self.now.entries c.args.page c.kept.result c.args.place agrees c.kept.ensures.some (sym c.is_some.ensures ∙ c.if-is_some.true) c.kept.ensures.hit)
