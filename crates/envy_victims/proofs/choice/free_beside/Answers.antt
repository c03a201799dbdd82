use Rattle.std.proofs.Common.{◌∙◌, ◌<◌, ◌≤◌, ℕ, Option, Some, MatchOption, sym, ap, subst, arith}
use Rattle.envy_base.specs.Shape.{positions_of}
use Rattle.envy_policy.specs.Choice.{IsLeast}
use Rattle.envy_policy.specs.History.{end_of, first_of, partition_of}
use Rattle.envy_victims.specs.Choosing.{IsFreeBeside}
use Rattle.envy_victims.proofs.ChoosingLemmas.{avoided-is, avoided-other, beside-first, beside-next, beside-none, in-order, inside, next-order}
use Rattle.envy_victims.proofs.choice.free_beside.Goals as goal

pub partition_of-requires : goal.partition_of-requires
partition_of-requires c = subst (λ (n : ℕ). c.args.home < n) (sym c.requires.positions) c.requires.home

pub bounds-first-requires : goal.bounds-first-requires
bounds-first-requires c = c.partition_of.ensures.counted

pub lowest_free-requires-clause-order : goal.lowest_free-requires-clause-order
lowest_free-requires-clause-order c = in-order c.bounds-first.result.0 c.bounds-first.result.1 c.bounds-first.ensures.some

pub lowest_free-requires-clause-end : goal.lowest_free-requires-clause-end
lowest_free-requires-clause-end c = subst (λ (n : ℕ). c.bounds-first.result.1 ≤ n) c.requires.positions c.bounds-first.ensures.within

pub returns-in_err-found : goal.returns-in_err-found
returns-in_err-found c =
    let h = c.args.chooser.now in
    let pool = c.args.space.now in
    let b = c.bounds-first.ensures in
    let own = c.partition_of.ensures.value in
    subst (λ (o : Option ℕ). MatchOption o ((k : ℕ) → IsFreeBeside h pool (partition_of h c.args.home) c.args.avoided k → ⊥) (IsLeast (IsFreeBeside h pool (partition_of h c.args.home) c.args.avoided) (λ k. k)))
    (sym c.from_residual.ensures)
    (beside-none h pool (partition_of h c.args.home) c.bounds-first.result.0 c.bounds-first.result.1 c.args.avoided b.whole c.requires.positions (b.first ∙ ap (first_of h) own) (b.end ∙ ap (end_of h) own) c.in_err-found.ensures)

pub segment_at-requires : goal.segment_at-requires
segment_at-requires c =
    let low : c.in_ok-found.found < positions_of c.args.space.now.shape = inside c.in_ok-found.found c.bounds-first.result.1 c.args.chooser.now.positions _ c.in_ok-found.ensures.below c.bounds-first.ensures.within c.requires.positions in
    omega (arith, low)

pub returns-then-ne : goal.returns-then-ne
returns-then-ne c =
    let h = c.args.chooser.now in
    let b = c.bounds-first.ensures in
    let own = c.partition_of.ensures.value in
    beside-first h c.args.space.now (partition_of h c.args.home) c.bounds-first.result.0 c.bounds-first.result.1 c.in_ok-found.found c.args.avoided b.whole c.requires.positions
    (b.first ∙ ap (first_of h) own) (b.end ∙ ap (end_of h) own) c.in_ok-found.ensures
    (λ is. avoided-other c.args.avoided c.segment_at.result c.if-ne.ensures (is ∙ ap (λ (s : ℕ). Some s) (sym c.segment_at.ensures.segment)))

pub lowest_free-requires-2-clause-order : goal.lowest_free-requires-2-clause-order
lowest_free-requires-2-clause-order c = next-order c.in_ok-found.found c.bounds-first.result.1 c.in_ok-found.ensures.below

pub lowest_free-requires-2-clause-end : goal.lowest_free-requires-2-clause-end
lowest_free-requires-2-clause-end c = subst (λ (n : ℕ). c.bounds-first.result.1 ≤ n) c.requires.positions c.bounds-first.ensures.within

pub returns : goal.returns
returns c =
    let h = c.args.chooser.now in
    let b = c.bounds-first.ensures in
    let own = c.partition_of.ensures.value in
    beside-next h c.args.space.now (partition_of h c.args.home) c.bounds-first.result.0 c.bounds-first.result.1 c.in_ok-found.found c.args.avoided c.lowest_free-2.result b.whole c.segment_at.ensures.pool c.requires.positions
    (b.first ∙ ap (first_of h) own) (b.end ∙ ap (end_of h) own) c.in_ok-found.ensures
    (avoided-is c.args.avoided c.segment_at.result c.if-ne.ensures ∙ ap (λ (s : ℕ). Some s) c.segment_at.ensures.segment) c.lowest_free-2.ensures
