use Rattle.std.proofs.Common.{◌∙◌, Err, IsTrue, sym, subst, ap}
use Rattle.envy_base.specs.declared.board.Trouble.TheVariants.{Off as TroubleOff, Bad}
use Rattle.envy_counted.specs.LooseBoard.{AnyPrograms}
use Rattle.envy_counted.proofs.Telling.{program_cut, program_bad}
use Rattle.envy_counted.proofs.strict_board.StrictBoardBoard.program.Goals as goal

pub invariant_of-self-clause-cuts_told : goal.invariant_of-self-clause-cuts_told
invariant_of-self-clause-cuts_told g c =
    let s = c.args.self.now in
    let old = g.B.LooseBoard.state s.board in
    let new = g.B.LooseBoard.state c.program-answer.new.self in
    let done : AnyPrograms old c.args.row c.args.page.now (Err TroubleOff) new = subst (λ r. AnyPrograms old c.args.row c.args.page.now r new) (c.in-Err.is ∙ ap Err c.in-Off.is) c.program-answer.ensures in
    let lit : IsTrue old.on = sym c.powered-on.ensures ∙ c.if-on.true in
    rw c.more-self.ensures (program_cut s.cuts old c.args.row c.args.page.now new s.cuts_told lit done)

pub invariant_of-self-in-Bad-clause-bads_told : goal.invariant_of-self-in-Bad-clause-bads_told
invariant_of-self-in-Bad-clause-bads_told g c =
    let s = c.args.self.now in
    let old = g.B.LooseBoard.state s.board in
    let new = g.B.LooseBoard.state c.program-answer.new.self in
    let done : AnyPrograms old c.args.row c.args.page.now (Err Bad) new = subst (λ r. AnyPrograms old c.args.row c.args.page.now r new) (c.in-Err.is ∙ ap Err c.in-Bad.is) c.program-answer.ensures in
    rw c.more-self-in-Bad.ensures (program_bad s.bads old c.args.row c.args.page.now new s.bads_told done)
