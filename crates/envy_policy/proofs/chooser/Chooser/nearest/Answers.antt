use Rattle.std.proofs.Common.{ℕ, ◌≤◌, ◌+◌, ◌-◌, subst, refl}
use Rattle.envy_policy.specs.Choice.{IsUsable}
use Rattle.envy_policy.proofs.Choosing.{answered-no, further, nearest-above, none-higher, none-left, none-lower}
use Rattle.envy_policy.proofs.chooser.Chooser.nearest.Goals as goal
use Rattle.envy_policy.proofs.chooser.Chooser.nearest.Goals.{else-away-own-via-then-away-own+else-is_usable, else-away-own-via-else-away-own, else-own-away-via-then-own-away+else-is_usable-2, else-own-away-via-else-own-away}

pub loop-away-preserved : goal.loop-away-preserved
loop-away-preserved c =
    let own = c.partition_of-own.result in
    let lower : c.loop-away.away ≤ own → IsUsable c.args.self.now c.args.free.now c.args.dead.now (own - c.loop-away.away) → ⊥ =
    elim c.else-away-own.branch [
      | else-away-own-via-then-away-own+else-is_usable w ↦ λ low. answered-no w.is_usable.result _ w.is_usable.ensures w.if-is_usable.false
      | else-away-own-via-else-away-own w ↦ λ low. absurd (none-lower own c.loop-away.away w.if-away-own.false low)
    ] in
    let upper : IsUsable c.args.self.now c.args.free.now c.args.dead.now (own + c.loop-away.away) → ⊥ =
    elim c.else-own-away.branch [
      | else-own-away-via-then-own-away+else-is_usable-2 w ↦ answered-no w.is_usable-then-own-away.result _ w.is_usable-then-own-away.ensures w.if-is_usable-2.false
      | else-own-away-via-else-own-away w ↦ none-higher c.args.self.now c.args.free.now c.args.dead.now own c.loop-away.away c.count-count.result c.count-count.ensures.whole c.requires.free c.requires.dead c.count-count.ensures.value w.if-own-away.false
    ] in
    further c.args.self.now c.args.free.now c.args.dead.now own c.loop-away.away c.loop-away.invariant lower upper

pub unreachable-requires : goal.unreachable-requires
unreachable-requires c =
    none-left c.args.self.now c.args.free.now c.args.dead.now c.partition_of-own.result c.loop-away.away c.count-count.ensures.whole c.requires.free c.requires.dead c.partition_of-own.ensures.counted (subst (λ (n : ℕ). n ≤ c.loop-away.away) c.count-count.ensures.value c.loop-away-test.false) c.loop-away.invariant c.requires.some

pub returns-then-is_usable-2-clause-nearest : goal.returns-then-is_usable-2-clause-nearest
returns-then-is_usable-2-clause-nearest c =
    let own = c.partition_of-own.result in
    let lower : c.loop-away.away ≤ own → IsUsable c.args.self.now c.args.free.now c.args.dead.now (own - c.loop-away.away) → ⊥ =
    elim c.else-away-own.branch [
      | else-away-own-via-then-away-own+else-is_usable w ↦ λ low. answered-no w.is_usable.result _ w.is_usable.ensures w.if-is_usable.false
      | else-away-own-via-else-away-own w ↦ λ low. absurd (none-lower own c.loop-away.away w.if-away-own.false low)
    ] in
    nearest-above c.args.self.now c.args.free.now c.args.dead.now c.args.home own c.loop-away.away _ c.partition_of-own.ensures.value refl (c.is_usable-then-own-away.ensures.0 c.if-is_usable-2.true) c.loop-away.invariant lower
