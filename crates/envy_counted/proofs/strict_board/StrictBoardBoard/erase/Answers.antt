use Rattle.std.proofs.Common.{◌∙◌, Err, IsTrue, sym, subst, ap}
use Rattle.envy_base.specs.declared.board.Trouble.TheVariants.{Off as TroubleOff, Bad}
use Rattle.envy_counted.specs.LooseBoard.{AnyErases}
use Rattle.envy_counted.proofs.Telling.{erase_cut, erase_bad}
use Rattle.envy_counted.proofs.strict_board.StrictBoardBoard.erase.Goals as goal

pub invariant_of-self-clause-cuts_told : goal.invariant_of-self-clause-cuts_told
invariant_of-self-clause-cuts_told g c =
    let s = c.args.self.now in
    let old = g.B.LooseBoard.state s.board in
    let new = g.B.LooseBoard.state c.erase-answer.new.self in
    let done : AnyErases old c.args.segment (Err TroubleOff) new = subst (λ r. AnyErases old c.args.segment r new) (c.in-Err.is ∙ ap Err c.in-Off.is) c.erase-answer.ensures in
    let lit : IsTrue old.on = sym c.powered-on.ensures ∙ c.if-on.true in
    rw c.more-self.ensures (erase_cut s.cuts old c.args.segment new s.cuts_told lit done)

pub invariant_of-self-in-Bad-clause-bads_told : goal.invariant_of-self-in-Bad-clause-bads_told
invariant_of-self-in-Bad-clause-bads_told g c =
    let s = c.args.self.now in
    let old = g.B.LooseBoard.state s.board in
    let new = g.B.LooseBoard.state c.erase-answer.new.self in
    let done : AnyErases old c.args.segment (Err Bad) new = subst (λ r. AnyErases old c.args.segment r new) (c.in-Err.is ∙ ap Err c.in-Bad.is) c.erase-answer.ensures in
    rw c.more-self-in-Bad.ensures (erase_bad s.bads old c.args.segment new s.bads_told done)
