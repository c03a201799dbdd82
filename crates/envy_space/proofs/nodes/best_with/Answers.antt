use Rattle.std.proofs.Common.{ℕ, ◌≡◌, ◌≢◌, ◌+◌, ◌<◌, ◌≤◌, get_or, ap, sym, subst, arith, ◌∙◌, refl}
use Rattle.envy_space.specs.declared.nodes.Entry.{Entry}
use Rattle.envy_space.specs.Winners.{IsRun, better, score_in, late_scores}
use Rattle.envy_space.proofs.NodeLemmas.{late-here, late-other}
use Rattle.envy_space.proofs.RunLemmas.{IsRun-same, IsRun-one, IsRun-better}
use Rattle.envy_space.proofs.nodes.best_with.Goals as goal
use Rattle.envy_space.proofs.nodes.best_with.Goals.{then-late-first-via-then-late-first, then-late-first-via-else-late-first+then-end-late}

pub returns-then-late-first : goal.returns-then-late-first
returns-then-late-first c =
    let n = c.args.places in
    let nodes = c.args.nodes.now in
    let late = c.args.late in
    let apart : (k : ℕ) → c.args.first ≤ k → k < c.args.end → k ≢ late.place =
    elim c.then-late-first.branch [
      | then-late-first-via-then-late-first w ↦ λ k low high e. let before = w.if-late-first.true in absurd (omega arith)
      | then-late-first-via-else-late-first+then-end-late w ↦ λ k low high e. let behind = w.if-end-late.true in absurd (omega arith)
    ] in
    IsRun-same (score_in n nodes) (λ (k : ℕ). get_or (late_scores n nodes late) k 0) c.args.first c.args.end c.best_between.result
    (λ k low high. sym (late-other n k nodes late (apart k low high))) c.best_between.ensures

pub returns : goal.returns
returns c =
    let n = c.args.places in
    let nodes = c.args.nodes.now in
    let late = c.args.late in
    let above = c.if-late-first.false in
    let below = c.if-end-late.false in
    let left = IsRun-same (score_in n nodes) (λ (k : ℕ). get_or (late_scores n nodes late) k 0) c.args.first late.place c.best_between-left.result
    (λ k low high. sym (late-other n k nodes late (λ e. absurd (omega arith)))) c.best_between-left.ensures in
    let right = IsRun-same (score_in n nodes) (λ (k : ℕ). get_or (late_scores n nodes late) k 0) (late.place + 1) c.args.end c.best_between-right.result
    (λ k low high. sym (late-other n k nodes late (λ e. absurd (omega arith)))) c.best_between-right.ensures in
    let one = IsRun-one (λ (k : ℕ). get_or (late_scores n nodes late) k 0) late.place (late.place + 1) late refl refl (late-here n nodes late c.requires.tree.are.long c.requires.late) in
    let both : c.or_better-2.result ≡ better (better c.best_between-left.result late) c.best_between-right.result = c.or_better-2.ensures ∙ ap (λ (e : Entry). better e c.best_between-right.result) c.or_better.ensures in
    subst (λ (e : Entry). IsRun (λ (k : ℕ). get_or (late_scores n nodes late) k 0) c.args.first c.args.end e) (sym both)
    (IsRun-better (λ (k : ℕ). get_or (late_scores n nodes late) k 0) c.args.first (late.place + 1) c.args.end (better c.best_between-left.result late) c.best_between-right.result (omega arith) (omega arith)
    (IsRun-better (λ (k : ℕ). get_or (late_scores n nodes late) k 0) c.args.first late.place (late.place + 1) c.best_between-left.result late (omega arith) (omega arith) left one)
    right)
