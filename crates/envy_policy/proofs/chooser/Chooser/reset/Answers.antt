use Rattle.std.proofs.Common.{ℕ, map, arith, ap, ap₂, ◌∙◌}
use Rattle.std.specs.List.{range_with_len}
use Rattle.envy_policy.specs.Heats.{cold}
use Rattle.envy_policy.specs.History.{last_in}
use Rattle.envy_policy.proofs.HistoryLemmas.{IsHistory-start, written}
use Rattle.envy_policy.proofs.LivesLemmas.{lives-reset}
use Rattle.envy_policy.proofs.chooser.Chooser.reset.Goals as goal

pub invariant_of-self : goal.invariant_of-self
invariant_of-self c = (
  IsHistory-start c.self.inside.policy c.self.inside.pages c.self.inside.positions _ _ _ c.self.invariant.0.part c.self.invariant.0.few_part c.self.invariant.0.few
      (c.reset.ensures ∙ ap cold c.self.invariant.0.heats)
      (written _ _ _ (omega arith) ∙ c.start_turns.ensures ∙ ap₂ (λ (run n : ℕ). map (last_in c.self.inside.positions run) (range_with_len 0 n)) c.self.invariant.1 (omega arith))
      (c.reset-2.ensures ∙ lives-reset c.self.inside.policy c.self.inside.pages c.self.inside.positions c.self.inside.lives c.self.invariant.0.lives),
  c.self.invariant.1,
)
