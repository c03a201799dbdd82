use Rattle.std.proofs.Common.{◌-◌, ◌+◌, ◌<◌, length, None, Some, subst, sym, ◌∙◌, arith}
use Rattle.envy_policy.specs.Choice.{IsAside}
use Rattle.envy_policy.specs.History.{History}
use Rattle.envy_policy.specs.contracts.chooser.Chooser.{the_view}
use Rattle.envy_policy.proofs.Neighbours.{heat-fits, next-fits, none-alone, none-cool, is-hot, aside-first, aside-last, aside-below, aside-above}
use Rattle.envy_policy.proofs.chooser.Chooser.aside.Goals as goal
use Rattle.envy_policy.proofs.chooser.Chooser.aside.Goals.{then-count-eq1-via-then-count-eq1, then-count-eq1-via-else-count-eq1+then-heat-count, then-partition-count-via-then-partition-count, then-partition-count-via-else-partition-count+then-heat}

pub heat-requires : goal.heat-requires
heat-requires c = subst (λ (h : History). c.args.partition < length h.heats) (sym c.self.view_is) c.requires.partition

pub overflow_mul-heat : goal.overflow_mul-heat
overflow_mul-heat c =
    let within = subst (λ (h : History). c.args.partition < length h.heats) (sym c.self.view_is) c.requires.partition in
    heat-fits (the_view c.self.inside) c.args.partition c.heat.result c.count-count.result c.self.invariant.0 within c.heat.ensures c.count-count.ensures

pub returns-then-count-eq1 : goal.returns-then-count-eq1
returns-then-count-eq1 c = subst (λ (h : History). IsAside h c.args.partition None) c.self.view_is (elim c.then-count-eq1.branch [
  | then-count-eq1-via-then-count-eq1 w ↦ none-alone (the_view c.self.inside) c.args.partition c.count-count.result c.count-count.ensures w.if-count-eq1.true
  | then-count-eq1-via-else-count-eq1+then-heat-count w ↦ none-cool (the_view c.self.inside) c.args.partition w.heat.result c.count-count.result w.sum.result c.count-count.ensures w.heat.ensures w.sum.ensures w.if-heat-count.true
])

pub returns-then-partition-eq0 : goal.returns-then-partition-eq0
returns-then-partition-eq0 c =
    let within = subst (λ (h : History). c.args.partition < length h.heats) (sym c.self.view_is) c.requires.partition in
    let hot = is-hot (the_view c.self.inside) c.args.partition c.heat.result c.count-count.result c.sum.result c.count-count.ensures c.heat.ensures c.sum.ensures within c.if-count-eq1.false c.if-heat-count.false in
    subst (λ (h : History). IsAside h c.args.partition (Some 1)) c.self.view_is (aside-first (the_view c.self.inside) c.args.partition c.if-partition-eq0.true hot)

pub overflow_add-partition : goal.overflow_add-partition
overflow_add-partition c = next-fits (the_view c.self.inside) c.args.partition c.self.invariant.0 (subst (λ (h : History). c.args.partition < length h.heats) (sym c.self.view_is) c.requires.partition)

pub overflow_add-partition-else-partition-count : goal.overflow_add-partition-else-partition-count
overflow_add-partition-else-partition-count c = next-fits (the_view c.self.inside) c.args.partition c.self.invariant.0 (subst (λ (h : History). c.args.partition < length h.heats) (sym c.self.view_is) c.requires.partition)

pub overflow_add-result : goal.overflow_add-result
overflow_add-result c = next-fits (the_view c.self.inside) c.args.partition c.self.invariant.0 (subst (λ (h : History). c.args.partition < length h.heats) (sym c.self.view_is) c.requires.partition)

pub heat-requires-else-partition-count : goal.heat-requires-else-partition-count
heat-requires-else-partition-count c =
    let within = subst (λ (h : History). c.args.partition < length h.heats) (sym c.self.view_is) c.requires.partition in
    omega (arith, within)

pub heat-requires-else-partition-count-2 : goal.heat-requires-else-partition-count-2
heat-requires-else-partition-count-2 c =
    let within = subst (λ (h : History). c.args.partition < length h.heats) (sym c.self.view_is) c.requires.partition in
    omega (arith, within, c.count-count.ensures, c.if-partition-count.false)

pub returns-then-partition-count : goal.returns-then-partition-count
returns-then-partition-count c =
    let within = subst (λ (h : History). c.args.partition < length h.heats) (sym c.self.view_is) c.requires.partition in
    let hot = is-hot (the_view c.self.inside) c.args.partition c.heat.result c.count-count.result c.sum.result c.count-count.ensures c.heat.ensures c.sum.ensures within c.if-count-eq1.false c.if-heat-count.false in
    subst (λ (h : History). IsAside h c.args.partition (Some (c.args.partition - 1))) c.self.view_is (elim c.then-partition-count.branch [
      | then-partition-count-via-then-partition-count w ↦ aside-last (the_view c.self.inside) c.args.partition c.if-partition-eq0.false within (w.if-partition-count.true ∙ c.count-count.ensures) hot
      | then-partition-count-via-else-partition-count+then-heat w ↦ aside-below (the_view c.self.inside) c.args.partition w.heat-else-partition-count.result w.heat-else-partition-count-2.result c.if-partition-eq0.false within w.heat-else-partition-count.ensures w.heat-else-partition-count-2.ensures w.if-heat.true hot
    ])

pub returns : goal.returns
returns c =
    let within = subst (λ (h : History). c.args.partition < length h.heats) (sym c.self.view_is) c.requires.partition in
    let hot = is-hot (the_view c.self.inside) c.args.partition c.heat.result c.count-count.result c.sum.result c.count-count.ensures c.heat.ensures c.sum.ensures within c.if-count-eq1.false c.if-heat-count.false in
    subst (λ (h : History). IsAside h c.args.partition (Some (c.args.partition + 1))) c.self.view_is (aside-above (the_view c.self.inside) c.args.partition c.heat-else-partition-count.result c.heat-else-partition-count-2.result c.if-partition-eq0.false within (λ e. c.if-partition-count.false (e ∙ sym c.count-count.ensures)) c.heat-else-partition-count.ensures c.heat-else-partition-count-2.ensures c.if-heat.false hot)
