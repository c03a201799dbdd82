use Rattle.std.proofs.Common.{◌∙◌, ◌+◌, ◌-◌, arith, ap, length}
use Rattle.std.proofs.lemmas.Result.{on_ok_weaker}
use Rattle.envy_btree.proofs.Gaps.{opened, window-long}
use Rattle.envy_btree.proofs.Gapped.{spends-list}
use Rattle.envy_array.proofs.Working.{Works-trans}
use Rattle.envy_btree.proofs.gap.open_gap.Goals as goal

pub returns-clause-gap : goal.returns-clause-gap
returns-clause-gap g c = on_ok_weaker c.write_list.result (λ e. opened _ _ _ _ _ _ _ _ _ c.requires.within c.requires.place c.in_ok-rear.ensures.same c.in_ok-rear.ensures.list (c.deref.ensures.0 ∙ c.insert.ensures.items) e) c.write_list.ensures.list

pub returns-clause-works : goal.returns-clause-works
returns-clause-works g c = Works-trans 0 1 _ _ _ c.read_list.ensures.works c.write_list.ensures.works.works

pub returns-clause-spends : goal.returns-clause-spends
returns-clause-spends g c =
    let long = window-long (g.W.Words.sheet c.args.words.now).words (c.args.a + c.args.i) (c.args.n - c.args.i) (omega (arith, c.requires.within, c.requires.place)) in
    spends-list (length c.deref.result.now) (c.args.n + 1) _ _ _ (omega (arith, ap length (c.deref.ensures.0 ∙ c.insert.ensures.items), ap length c.in_ok-rear.ensures.list, long, c.requires.place)) c.read_list.ensures.spends c.write_list.ensures.spends
