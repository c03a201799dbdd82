use Rattle.std.proofs.Common.{ℕ, ◌+◌, ◌++◌, ◌∙◌, List, length, take, drop, ap}
use Rattle.envy_journal.specs.Log.{held_bytes, log_bytes}
use Rattle.envy_journal.specs.Reading.{are_operations, bytes_of}
use Rattle.envy_journal.proofs.Counting.{operations_both}
use Rattle.envy_journal.proofs.Joined.{front_stays}
use Rattle.envy_journal.proofs.Spilled.{held_more}
use Rattle.envy_journal.proofs.Written.{is_whole}
use Rattle.envy_journal.proofs.log.Log.hold.Goals as goal

pub returns-clause-held : goal.returns-clause-held
returns-clause-held g c =
    let log = c.args.self.now in
    let front = drop (log.gate + 1) (log_bytes g.D.Device.seen log) in
    let now = c.write_into.new.buffer.items in
    ap (λ (n : ℕ). front ++ take (log.used + n) now) c.operation_size.ensures.size
    ∙ held_more front (take log.used log.buffer.items) (bytes_of c.args.operation.now) (take (log.used + length (bytes_of c.args.operation.now)) now) c.write_into.ensures.written

pub returns-clause-counted : goal.returns-clause-counted
returns-clause-counted g c =
    let log = c.args.self.now in
    let k = c.requires.counted in
    let front = drop (log.gate + 1) (log_bytes g.D.Device.seen log) in
    let operation = bytes_of c.args.operation.now in
    record {
      whole = ap (λ (l : List ℕ). are_operations 0 l) (returns-clause-held g c) ∙ operations_both 0 (held_bytes g.D.Device.seen log) operation k.whole (is_whole c.args.operation.now c.requires.whole);
      left = k.left;
      count = k.count;
      latest = λ lt. ap (λ (l : List ℕ). are_operations 0 (front ++ l)) (front_stays log.used (length operation) log.buffer.items c.write_into.new.buffer.items operation log.fits c.write_into.ensures.written) ∙ k.whole;
      runs = k.runs;
    }
