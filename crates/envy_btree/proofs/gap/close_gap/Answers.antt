use Rattle.std.proofs.Common.{◌∙◌}
use Rattle.std.proofs.lemmas.Result.{on_ok_weaker}
use Rattle.envy_btree.proofs.Gaps.{closed}
use Rattle.envy_array.proofs.Working.{Works-trans}
use Rattle.envy_btree.proofs.gap.close_gap.Goals as goal

pub returns-clause-gap : goal.returns-clause-gap
returns-clause-gap g c = on_ok_weaker c.write_list.result (λ e. closed _ _ _ _ _ _ _ c.requires.within c.requires.place c.in_ok-rear.ensures.same (c.deref.ensures.0 ∙ c.in_ok-rear.ensures.list) e) c.write_list.ensures.list

pub returns-clause-works : goal.returns-clause-works
returns-clause-works g c = Works-trans 0 1 _ _ _ c.read_list.ensures.works c.write_list.ensures.works.works
