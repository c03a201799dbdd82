-- The step of the state is the one that the generator's `next_u64` takes.
use Rattle.std.proofs.Common.{◌≡◌, subst}
use Rattle.rand_core.specs.Stream.{next_u64}
use Rattle.rand_core.specs.Steps.{steps_u32}
use Rattle.rand_core.proofs.StepsLemmas.{meets_next_u64}
use Rattle.rand_pcg.specs.Lcg.{Lcg}
use Rattle.rand_pcg.specs.Pcg.{pcg32}
use Rattle.envy_bench.specs.Draws.{answers}
use Rattle.envy_bench.proofs.torn_words.Torn.next.Goals as goal

pub returns-clause-answer : goal.returns-clause-answer
returns-clause-answer c =
    subst (λ (s : Lcg). (c.next_u64_via_u32.result, answers c.next_u64_via_u32.new.rng) ≡ next_u64 (answers s)) c.self.view_is
    (meets_next_u64 (steps_u32 pcg32) c.self.inside.generator c.next_u64_via_u32.new.rng c.next_u64_via_u32.result c.next_u64_via_u32.ensures)
