use Rattle.std.proofs.Common.{ℕ, List, ◌∙◌, subst}
use Rattle.envy_run.specs.Writing.{WritesOut}
use Rattle.envy_run.proofs.Generating.{flushed-out}
use Rattle.envy_run.proofs.audit_run.write_verdict.Goals as goal

pub returns : goal.returns
returns g c =
    subst (λ (text : List ℕ). WritesOut text c.flush.result (g.K.Sink.drain c.args.sink.now) (g.K.Sink.drain c.flush.new.self)) (c.as_slice.ensures.value ∙ c.put_verdict.ensures)
    (flushed-out c.as_slice.result.now (g.K.Sink.drain c.args.sink.now) (g.K.Sink.drain c.write_all.new.sink) (g.K.Sink.drain c.flush.new.self) c.flush.result c.in_ok-write_all.ensures.writes c.flush.ensures)
