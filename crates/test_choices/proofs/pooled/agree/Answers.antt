use Rattle.std.proofs.Common.{arith}
use Rattle.test_choices.proofs.pooled.agree.Goals as goal

pub choose_by_lists-requires-clause-some : goal.choose_by_lists-requires-clause-some
choose_by_lists-requires-clause-some g c =
    let e = c.in-Some.ensures in
    let below = e.below in
    (c.in-Some._usable, omega arith, e.some)

pub choose_row-requires-clause-some : goal.choose_row-requires-clause-some
choose_row-requires-clause-some g c =
    let e = c.in-Some.ensures in
    let below = e.below in
    (c.in-Some._usable, omega arith, e.some)
