use Rattle.std.proofs.Common.{◌≡◌, ◌+◌, ◌*◌, length, refl, arith, rules}
use Rattle.envy_journal.specs.declared.operation.Operation.TheVariants.{Erase}
use Rattle.envy_journal.specs.Reading.{bytes_of}
use Rattle.envy_journal.proofs.Condensed.{ok_both, part_erased, remakes_more}
use Rattle.envy_journal.proofs.Written.{erase_read}
use Rattle.envy_journal.proofs.renewal.renew_segment.Goals as goal

pub append-requires-clause-whole : goal.append-requires-clause-whole
append-requires-clause-whole g c = tt

pub returns-clause-remakes : goal.returns-clause-remakes
returns-clause-remakes g c =
    let D = g.D.Device in
    let s = g.B.Board.state c.args.board.now in
    let board = g.met.B.Board.lawful c.args.board.now in
    let is = c.requires.remakes in
    let n = c.args.segment in
    let a = c.append in
    let long : length (bytes_of (Erase n)) ≡ 5 = refl in
    ok_both a.result a.ensures.ok a.ensures.counted (λ ok counted.
    remakes_more D.seen D.may_leave D.left_since D.synced D.bytewise s (n * s.shape.rows) 0 0 (5 * n) c.args.log.now a.new.self is (Erase n) (bytes_of (Erase n)) ((n + 1) * s.shape.rows) 0 0 (5 * (n + 1))
    (erase_read n (search rules)) (part_erased s is.board board n c.requires.segment is.part) (omega (arith, long)) ok.0 counted a.ensures.kept ok.1 a.ensures.room)
