use Rattle.envy_soundness.proofs.SpareLemmas.{one-spare, some-spare, placed-or-spare}
use Rattle.envy_soundness.proofs.position.a_board_has_one_spare.Goals as goal

pub returns-clause-some : goal.returns-clause-some
returns-clause-some c = λ x shape sound. some-spare x.shape x.fields x.flash sound shape

pub returns-clause-one : goal.returns-clause-one
returns-clause-one c = λ x d e sound. one-spare x.shape x.fields x.flash d e sound

pub returns-clause-others : goal.returns-clause-others
returns-clause-others c = λ x s sound. placed-or-spare x.shape x.fields x.flash s sound
