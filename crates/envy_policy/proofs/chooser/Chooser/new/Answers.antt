use Rattle.std.proofs.Common.{◌-◌, ℕ, map, arith, ap, ap₂, sym, ◌∙◌}
use Rattle.std.specs.List.{range_with_len}
use Rattle.envy_policy.specs.Heats.{cold}
use Rattle.envy_policy.specs.History.{last_in, count_in, lives_of}
use Rattle.envy_policy.proofs.HistoryLemmas.{IsHistory-start, written}
use Rattle.envy_policy.proofs.chooser.Chooser.new.Goals as goal

pub invariant_of-result : goal.invariant_of-result
invariant_of-result c =
    let positions = c.positions_of-positions.result in
    let is = c.positions_of-positions.ensures in
    let count = ap (count_in positions) c.run-run.ensures in (
      IsHistory-start c.args.setup.now.policy c.args.setup.now.shape.pages positions _ _ _ (rw is c.requires.part) (rw is c.requires.few_part) (omega arith)
          (c.in_ok-heats.ensures ∙ ap cold count)
          (written _ _ _ (omega arith) ∙ c.start_turns.ensures ∙ ap₂ (λ (run n : ℕ). map (last_in positions run) (range_with_len 0 n)) c.run-run.ensures (c.deref_mut.ensures.len ∙ c.in_ok-turns.ensures.len ∙ count))
          (c.in_ok-lives.ensures ∙ ap (lives_of c.args.setup.now.policy c.args.setup.now.shape.pages) (sym is)),
      c.run-run.ensures,
    )
