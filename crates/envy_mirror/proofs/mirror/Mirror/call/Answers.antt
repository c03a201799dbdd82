use Rattle.std.proofs.Common.{subst}
use Rattle.envy_mirror.specs.Asking.{Answers}
use Rattle.envy_mirror.specs.Pair.{Pair}
use Rattle.envy_mirror.proofs.Answering.{IsPair-both, answers, asks-both}
use Rattle.envy_mirror.proofs.mirror.Mirror.call.Goals as goal

pub invariant_of-self : goal.invariant_of-self
invariant_of-self g c =
    let last = rw (c.are_good-both.ensures, c.is_good.ensures) at c.outlasting-self-inside.ensures in
    let both = asks-both g.C.Call.reply (g.C.Call.Does c.args.call.now) (g.C.Call.command c.args.call.now) c.ask_both-told.result _ _ _ _ c.ask_both-told.ensures in
    IsPair-both _ _ (g.C.Call.command c.args.call.now) (g.C.Call.reply c.ask_both-told.result) c.self.invariant both c.mark.ensures last

pub returns-clause-answers : goal.returns-clause-answers
returns-clause-answers g c =
    let last = rw (c.are_good-both.ensures, c.is_good.ensures) at c.outlasting-self-inside.ensures in
    let command = g.C.Call.command c.args.call.now in
    let reply = g.C.Call.reply c.ask_both-told.result in
    let both = asks-both g.C.Call.reply (g.C.Call.Does c.args.call.now) command c.ask_both-told.result _ _ _ _ c.ask_both-told.ensures in
    let new : Pair = record { first = c.ask_both-told.new.first; second = c.ask_both-told.new.second; stale = c.mark.new.stale.items; last = c.outlasting-self-inside.result } in
    subst (λ (p : Pair). Answers command reply p new) c.self.view_is
    (answers _ new command reply c.step_gives_one_answer.ensures.one c.self.invariant both c.mark.ensures last)
