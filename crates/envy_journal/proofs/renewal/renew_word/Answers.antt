use Rattle.std.proofs.Common.{◌≡◌, ◌+◌, ◌*◌, length, refl, arith, rules}
use Rattle.envy_journal.specs.declared.operation.Operation.TheVariants.{Put}
use Rattle.envy_journal.specs.Reading.{bytes_of}
use Rattle.envy_journal.proofs.Condensed.{ok_both, part_put, remakes_more}
use Rattle.envy_journal.proofs.Written.{put_read}
use Rattle.envy_journal.proofs.renewal.renew_word.Goals as goal

pub append-requires-clause-whole : goal.append-requires-clause-whole
append-requires-clause-whole g c = tt

pub returns-clause-remakes : goal.returns-clause-remakes
returns-clause-remakes g c =
    let D = g.D.Device in
    let s = g.B.Board.state c.args.board.now in
    let board = g.met.B.Board.lawful c.args.board.now in
    let is = c.requires.remakes in
    let w = c.args.w in
    let v = c.word_of-v.result in
    let few = 5 * s.shape.segments + 261 * length s.flash in
    let a = c.append in
    let long : length (bytes_of (Put w v)) ≡ 13 = refl in
    ok_both a.result a.ensures.ok a.ensures.counted (λ ok counted.
    remakes_more D.seen D.may_leave D.left_since D.synced D.bytewise s (length s.flash) (length s.flash) w (few + 13 * w) c.args.log.now a.new.self is (Put w v) (bytes_of (Put w v)) (length s.flash) (length s.flash) (w + 1) (few + 13 * (w + 1))
    (put_read w v (search rules) (search rules)) (part_put s is.board board w v c.requires.word c.word_of-v.ensures is.part) (omega (arith, long)) ok.0 counted a.ensures.kept ok.1 a.ensures.room)
