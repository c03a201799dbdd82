use Rattle.std.proofs.Common.{ap, sym, ◌∙◌}
use Rattle.envy_map.specs.Codes.{job_of}
use Rattle.envy_map.proofs.Readings.{job-is}
use Rattle.envy_map.proofs.probe.job.Goals as goal

pub returns-clause-reads : goal.returns-clause-reads
returns-clause-reads g c =
    (c.in_ok-word.ensures.0, c.decode_job.ensures.value ∙ ap job_of c.in_ok-word.ensures.1 ∙ sym (job-is (g.B.Board.state c.args.board.now)))
