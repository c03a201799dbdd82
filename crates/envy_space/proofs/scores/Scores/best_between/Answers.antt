use Rattle.std.proofs.Common.{ℕ, ◌≡◌, ◌≢◌, ◌<◌, ◌≤◌, ap, arith, ◌∙◌}
use Rattle.envy_space.specs.declared.nodes.Entry.{Entry}
use Rattle.envy_space.specs.Winners.{better}
use Rattle.envy_space.proofs.RunLemmas.{IsRun-apart, IsRun-around}
use Rattle.envy_space.proofs.scores.Scores.best_between.Goals as goal
use Rattle.envy_space.proofs.scores.Scores.best_between.Goals.{then-other-first-via-then-other-first, then-other-first-via-else-other-first+then-end-other}

pub returns-then-other-first : goal.returns-then-other-first
returns-then-other-first c =
    let s = c.self.inside in
    let apart : (k : ℕ) → c.args.first ≤ k → k < c.args.end → k ≢ s.other.place =
    elim c.then-other-first.branch [
      | then-other-first-via-then-other-first w ↦ λ k low high e. let before = w.if-other-first.true in absurd (omega arith)
      | then-other-first-via-else-other-first+then-end-other w ↦ λ k low high e. let behind = w.if-end-other.true in absurd (omega arith)
    ] in
    IsRun-apart s.winners c.args.self.now s.other c.self.view_is c.args.first c.args.end c.best_between.result apart c.best_between.ensures

pub returns : goal.returns
returns c =
    let s = c.self.inside in
    let above = c.if-other-first.false in
    let below = c.if-end-other.false in
    let both : c.or_better-2.result ≡ better (better c.best_between-left.result s.other) c.best_between-right.result = c.or_better-2.ensures ∙ ap (λ (e : Entry). better e c.best_between-right.result) c.or_better.ensures in
    IsRun-around s.winners c.args.self.now s.other c.self.view_is c.args.first c.args.end c.best_between-left.result c.best_between-right.result c.or_better-2.result c.self.invariant.0 (omega arith) (omega arith) c.best_between-left.ensures c.best_between-right.ensures both
