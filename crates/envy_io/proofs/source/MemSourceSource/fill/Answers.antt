use Rattle.std.proofs.Common.{◌≡◌, ◌-◌, ◌∙◌, length, take, drop, Some, ap, sym, arith}
use Rattle.std.proofs.lemmas.List.{take_rest, length-take-le}
use Rattle.std.proofs.lemmas.Result.{err_from_is_err_and}
use Rattle.envy_io.specs.InMemory.{MemFeed}
use Rattle.envy_io.specs.declared.plan.Plan.{Plan}
use Rattle.envy_io.proofs.Counts.{Rises-by}
use Rattle.envy_io.proofs.FillsLemmas.{front-fits, front-left, count-le, none-left}
use Rattle.envy_io.proofs.source.MemSourceSource.fill.Goals as goal

pub returns-in_err-call-clause-fills : goal.returns-in_err-call-clause-fills
returns-in_err-call-clause-fills c =
    let p = err_from_is_err_and c.from_residual.result c.from_residual.ensures.1 in
    rw p.1 (
      ap (λ (s : MemFeed). Some s.left) c.self.view_is,
      Rises-by _ _ _ (sym (ap (λ (s : MemFeed). s.faults) c.self.view_is)) (ap (λ (p : Plan). p.faults) c.in_err-call.ensures.1),
    )

pub returns-clause-fills : goal.returns-clause-fills
returns-clause-fills c =
    let left : c.args.self.now.left ≡ drop c.self.inside.start c.self.inside.bytes.items = sym (ap (λ (s : MemFeed). s.left) c.self.view_is) in
    let rest : take (length c.deref.result.now - c.self.inside.start) (drop c.self.inside.start c.deref.result.now) ≡ c.args.self.now.left = take_rest c.deref.result.now c.self.inside.start ∙ (ap (drop c.self.inside.start) c.deref.ensures.value ∙ sym left) in
    let given : c.copy_from_slice.new.self ≡ take c.min-count.result c.args.self.now.left = c.copy_from_slice.ensures.after ∙ ap (take c.min-count.result) rest in
    let long : length c.copy_from_slice.new.self ≡ c.min-count.result = ap length given ∙ length-take-le _ _ (count-le _ _ _ _ _ _ rest c.min.ensures c.min-count.ensures) in (
      front-fits _ _ _ long,
      ap Some (front-left _ _ _ _ _ _ long left given),
      λ none. none-left _ _ _ _ _ _ rest c.min.ensures c.min-count.ensures c.requires c.self.invariant.1 none,
      omega (arith, ap (λ (s : MemFeed). s.faults) c.self.view_is, ap (λ (p : Plan). p.faults) c.in_ok-call.ensures.1),
    )
