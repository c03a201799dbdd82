use Rattle.std.proofs.Common.{◌<◌, length}
use Rattle.std.proofs.lemmas.List.{take_rest}
use Rattle.std.proofs.lemmas.Result.{err_from_is_err_and}
use Rattle.envy_io.proofs.WritesLemmas.{Written-more, Written-failed, Written-some, not_empty}
use Rattle.envy_io.proofs.sink.write_all.Goals as goal

pub returns-in_err-count-clause-writes : goal.returns-in_err-count-clause-writes
returns-in_err-count-clause-writes g c =
    let p = err_from_is_err_and c.from_residual.result c.from_residual.ensures.1 in
    let some : 0 < length c.loop-rest.rest.now = not_empty _ _ c.is_empty.ensures c.loop-rest-test.true in
    rw p.1 (Written-failed (g.K.Sink.drain c.args.sink.now) (g.K.Sink.drain c.loop-rest.sink) (g.K.Sink.drain c.write_some.new.self) _ _ _ c.loop-rest.invariant.written some c.in_err-count.ensures)

pub returns-in_err-count-clause-uncalled : goal.returns-in_err-count-clause-uncalled
returns-in_err-count-clause-uncalled g c =
    Written-some _ _ _ _ c.loop-rest.invariant.written (not_empty _ _ c.is_empty.ensures c.loop-rest-test.true)

pub loop-rest-preserved : goal.loop-rest-preserved
loop-rest-preserved g c = record {
  written = rw (take_rest c.loop-rest.rest.now c.in_ok-count.count) (Written-more _ _ _ _ _ _ c.loop-rest.invariant.written c.in_ok-count.ensures);
  uncalled = Written-some _ _ _ _ c.loop-rest.invariant.written (not_empty _ _ c.is_empty.ensures c.loop-rest-test.true);
}
