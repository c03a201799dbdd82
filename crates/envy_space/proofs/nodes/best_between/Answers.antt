use Rattle.std.proofs.Common.{◌≡◌, ◌∙◌, ℕ, ◌+◌, ◌*◌, ◌/◌, ◌%◌, sym, ap, subst, arith}
use Rattle.envy_space.specs.declared.nodes.Entry.{Entry}
use Rattle.envy_space.specs.Winners.{better, node, score_in}
use Rattle.envy_space.proofs.RunLemmas.{Narrowed, Narrowed-low, Narrowed-high, Narrowed-up}
use Rattle.envy_space.proofs.nodes.best_between.Goals as goal
use Rattle.envy_space.proofs.nodes.best_between.Goals.{then-low-eq1, else-low-eq1, then-high-eq1, else-high-eq1}

pub loop-low-preserved : goal.loop-low-preserved
loop-low-preserved c =
    let nodes = c.args.nodes.now in
    let n = c.args.places in
    let Is : ℕ → ℕ → Entry → Entry → Type 0 = λ low high left right. Narrowed (score_in n nodes) n c.args.first c.args.end low high left right in
    let low_even : c.if-low-eq1.low % 2 ≡ 0 = elim c.if-low-eq1.branch [ then-low-eq1 w ↦ omega arith | else-low-eq1 w ↦ omega arith ] in
    let high_even : c.if-high-eq1.high % 2 ≡ 0 = elim c.if-high-eq1.branch [ then-high-eq1 w ↦ omega arith | else-high-eq1 w ↦ omega arith ] in
    let lower : Is c.if-low-eq1.low c.loop-low.high c.if-low-eq1.left c.loop-low.right =
    elim c.if-low-eq1.branch [
      | then-low-eq1 w ↦
          let left : c.if-low-eq1.left ≡ better c.loop-low.left (node nodes c.loop-low.low) = w.left-is ∙ w.or_better-left.ensures ∙ ap (better c.loop-low.left) w.node.ensures in
          rw (w.low-is, left) (Narrowed-low n c.args.first c.args.end c.loop-low.low c.loop-low.high nodes c.loop-low.left c.loop-low.right c.requires.tree c.requires.within c.loop-low-test.true c.loop-low.invariant)
      | else-low-eq1 w ↦ rw (w.low-is, w.left-is) c.loop-low.invariant
    ] in
    let both : Is c.if-low-eq1.low c.if-high-eq1.high c.if-low-eq1.left c.if-high-eq1.right =
    elim c.if-high-eq1.branch [
      | then-high-eq1 w ↦
          let right : c.if-high-eq1.right ≡ better (node nodes c.if-high-eq1.high) c.loop-low.right = w.right-is ∙ w.or_better-right.ensures ∙ ap (λ (e : Entry). better e c.loop-low.right) (w.node-then-high-eq1.ensures ∙ ap (node nodes) (sym w.high-is)) in
          let one : c.loop-low.high ≡ c.if-high-eq1.high + 1 = omega arith in
          let order = Narrowed.order lower in
          rw right (Narrowed-high n c.args.first c.args.end c.if-low-eq1.low c.if-high-eq1.high nodes c.if-low-eq1.left c.loop-low.right c.requires.tree c.requires.within (omega arith)
          (subst (λ (h : ℕ). Is c.if-low-eq1.low h c.if-low-eq1.left c.loop-low.right) one lower))
      | else-high-eq1 w ↦ rw (w.high-is, w.right-is) lower
    ] in
    Narrowed-up (score_in n nodes) n c.args.first c.args.end (c.if-low-eq1.low / 2) (c.if-high-eq1.high / 2) c.if-low-eq1.left c.if-high-eq1.right
    (let low : c.if-low-eq1.low ≡ 2 * (c.if-low-eq1.low / 2) = omega arith in
    let high : c.if-high-eq1.high ≡ 2 * (c.if-high-eq1.high / 2) = omega arith in
    subst (λ (h : ℕ). Is (2 * (c.if-low-eq1.low / 2)) h c.if-low-eq1.left c.if-high-eq1.right) high
    (subst (λ (l : ℕ). Is l c.if-high-eq1.high c.if-low-eq1.left c.if-high-eq1.right) low both))
