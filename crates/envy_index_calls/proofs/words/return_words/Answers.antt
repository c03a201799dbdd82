use Rattle.std.proofs.Common.{subst}
use Rattle.envy_memory.specs.Picture.{Picture}
use Rattle.envy_index_calls.specs.Indexed.{IsShut}
use Rattle.envy_index_calls.proofs.words.return_words.Goals as goal

pub returns-clause-shut : goal.returns-clause-shut
returns-clause-shut g c on shut = subst (λ (q : Picture). IsShut q) c.into_memory.ensures.same (c.into_memory.ensures.stands on shut)
