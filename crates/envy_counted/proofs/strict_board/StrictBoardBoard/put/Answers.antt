use Rattle.std.proofs.Common.{◌∙◌, Err, IsTrue, sym, subst}
use Rattle.envy_counted.specs.LooseBoard.{AnyPuts}
use Rattle.envy_counted.proofs.Telling.{put_cut}
use Rattle.envy_counted.proofs.strict_board.StrictBoardBoard.put.Goals as goal

pub invariant_of-self-clause-cuts_told : goal.invariant_of-self-clause-cuts_told
invariant_of-self-clause-cuts_told g c =
    let s = c.args.self.now in
    let old = g.B.LooseBoard.state s.board in
    let new = g.B.LooseBoard.state c.put-answer.new.self in
    let done : AnyPuts old c.args.w c.args.v (Err c.in-Err.field-0) new = subst (λ r. AnyPuts old c.args.w c.args.v r new) c.in-Err.is c.put-answer.ensures in
    let lit : IsTrue old.on = sym c.powered-on.ensures ∙ c.if-on.true in
    rw c.more-self.ensures (put_cut s.cuts old c.args.w c.args.v c.in-Err.field-0 new s.cuts_told lit done)
