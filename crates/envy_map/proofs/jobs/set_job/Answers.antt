use Rattle.envy_map.proofs.OnePut.{Writes-job}
use Rattle.envy_map.proofs.jobs.set_job.Goals as goal

pub returns-clause-writes : goal.returns-clause-writes
returns-clause-writes g c = Writes-job _ _ _ _ _ (g.met.B.Board.lawful c.args.board.now) c.requires c.encode_job.ensures c.put.ensures
