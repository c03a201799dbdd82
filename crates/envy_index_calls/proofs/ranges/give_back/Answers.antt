use Rattle.std.proofs.Common.{subst}
use Rattle.envy_memory.specs.Picture.{Picture}
use Rattle.envy_index_calls.specs.Indexed.{IsShut}
use Rattle.envy_index_calls.specs.Ranges.{IsOpen}
use Rattle.envy_index_calls.proofs.Ranging.{opens}
use Rattle.envy_index_calls.proofs.ranges.give_back.Goals as goal

pub returns-clause-opened : goal.returns-clause-opened
returns-clause-opened g c begun = subst (λ (q : Picture). IsOpen q) c.into_memory.ensures.same (opens c.into_memory.result c.args.words.memory c.args.words.begun c.into_memory.ensures.same begun (c.into_memory.ensures.resumes begun))

pub returns-clause-shut : goal.returns-clause-shut
returns-clause-shut g c on shut = subst (λ (q : Picture). IsShut q) c.into_memory.ensures.same (c.into_memory.ensures.stands on shut)
