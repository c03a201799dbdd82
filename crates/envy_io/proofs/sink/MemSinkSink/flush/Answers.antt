use Rattle.std.proofs.Common.{Some, ap, sym}
use Rattle.std.proofs.lemmas.Result.{err_from_is_err_and}
use Rattle.envy_io.specs.InMemory.{MemDrain}
use Rattle.envy_io.specs.declared.plan.Plan.{Plan}
use Rattle.envy_io.proofs.Counts.{Rises-by}
use Rattle.envy_io.proofs.sink.MemSinkSink.flush.Goals as goal

pub returns-in_err-call-clause-flushes : goal.returns-in_err-call-clause-flushes
returns-in_err-call-clause-flushes c =
    let p = err_from_is_err_and c.from_residual.result c.from_residual.ensures.1 in
    rw p.1 (
      ap (λ (s : MemDrain). Some s.written) c.self.view_is,
      Rises-by _ _ _ (sym (ap (λ (s : MemDrain). s.faults) c.self.view_is)) (ap (λ (p : Plan). p.faults) c.in_err-call.ensures.1),
    )
