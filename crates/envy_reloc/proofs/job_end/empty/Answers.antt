use Rattle.std.proofs.Common.{ap}
use Rattle.envy_map.specs.Fields.{chart}
use Rattle.envy_space.specs.Pool.{Pool}
use Rattle.envy_reloc.proofs.EndLemmas.{none-kept, PoolAgrees-emptied}
use Rattle.envy_reloc.proofs.job_end.empty.Goals as goal

pub note_erased-requires-clause-none : goal.note_erased-requires-clause-none
note_erased-requires-clause-none g c =
    let old = chart (g.B.Board.state c.args.board.now) in
    none-kept old.shape old.fields old.flash c.args.spare c.args.space.now c.requires.sound c.requires.erasing c.requires.spare c.requires.pool

pub returns-clause-follow : goal.returns-clause-follow
returns-clause-follow g c =
    let old = chart (g.B.Board.state c.args.board.now) in
    let mid = chart (g.B.Board.state c.empty_spare.new.board) in
    let new = chart (g.B.Board.state c.end_job.new.board) in
    record {
      pool = λ on. PoolAgrees-emptied old mid new c.args.spare c.args.space.now c.note_erased.new.self c.requires.pool c.in_ok-empty_spare.ensures.fields c.in_ok-end_job.ensures.fields c.note_erased.ensures;
      shape = ap (λ (p : Pool). p.shape) c.note_erased.ensures;
    }
