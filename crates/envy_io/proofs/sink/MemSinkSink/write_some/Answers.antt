use Rattle.std.proofs.Common.{Some, ap, sym, ◌∙◌}
use Rattle.std.proofs.lemmas.Result.{err_from_is_err_and}
use Rattle.envy_io.specs.InMemory.{MemDrain}
use Rattle.envy_io.specs.declared.plan.Plan.{Plan}
use Rattle.envy_io.proofs.Counts.{Rises-by}
use Rattle.envy_io.proofs.sink.MemSinkSink.write_some.Goals as goal

pub returns-in_err-call-clause-writes : goal.returns-in_err-call-clause-writes
returns-in_err-call-clause-writes c =
    let p = err_from_is_err_and c.from_residual.result c.from_residual.ensures.1 in
    rw p.1 (
      ap (λ (s : MemDrain). Some s.written) c.self.view_is,
      Rises-by _ _ _ (sym (ap (λ (s : MemDrain). s.faults) c.self.view_is)) (ap (λ (p : Plan). p.faults) c.in_err-call.ensures.1),
    )

pub returns-then-count-eq0-clause-writes : goal.returns-then-count-eq0-clause-writes
returns-then-count-eq0-clause-writes c = (
  ap (λ (s : MemDrain). Some s.written) c.self.view_is,
  Rises-by _ _ _ (sym (ap (λ (s : MemDrain). s.faults) c.self.view_is) ∙ sym (ap (λ (p : Plan). p.faults) c.in_ok-call.ensures.1)) (ap (λ (p : Plan). p.faults) c.fault.ensures),
)
