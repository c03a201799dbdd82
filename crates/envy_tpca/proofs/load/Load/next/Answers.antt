use Rattle.std.proofs.Common.{subst, ◌≡◌}
use Rattle.envy_tpca.specs.Load.{Draws, next_transfer}
use Rattle.envy_tpca.proofs.Drawing.{drawn-next}
use Rattle.envy_tpca.proofs.load.Load.next.Goals as goal

pub returns : goal.returns
returns c =
    subst (λ (d : Draws). (c.drawn.result, record { branches = c.self.inside.branches; accounts = c.self.inside.accounts; words = c.next_word-z.new.self }) ≡ next_transfer d) c.self.view_is
    (drawn-next (record { branches = c.self.inside.branches; accounts = c.self.inside.accounts; words = c.self.inside.words }) c.next_word-x.result c.next_word-y.result c.next_word-z.result
    c.next_word-x.new.self c.next_word-y.new.self c.next_word-z.new.self c.drawn.result c.next_word-x.ensures c.next_word-y.ensures c.next_word-z.ensures c.drawn.ensures)
