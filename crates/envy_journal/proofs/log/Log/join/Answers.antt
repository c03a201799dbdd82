use Rattle.std.proofs.Common.{rules, ◌∙◌, ◌+◌, ◌++◌, ◌<◌, ◌^◌, ℕ, List, drop, ap, arith}
use Rattle.envy_journal.specs.Joining.{IsNext}
use Rattle.envy_journal.specs.Log.{log_bytes}
use Rattle.envy_journal.specs.Reading.{are_operations}
use Rattle.envy_journal.proofs.Joined.{buffer_gains, buffer_whole, buffer_front}
use Rattle.envy_journal.proofs.log.Log.join.Goals as goal

pub returns-clause-gains : goal.returns-clause-gains
returns-clause-gains g c =
    let log = c.args.self.now in
    let next : IsNext c.args.w log.latest log.used log.buffer.items = c.requires.next in
    let last = next.last in
    buffer_gains (drop (log.gate + 1) (log_bytes g.D.Device.seen log)) log.buffer.items c.lengthen.new.buffer.items log.latest log.used c.args.w c.args.v next log.fits c.lengthen.ensures.longer (let k = c.requires.counted in k.latest (omega (arith, last))) (search rules)

pub returns-clause-counted : goal.returns-clause-counted
returns-clause-counted g c =
    let log = c.args.self.now in
    let k = c.requires.counted in
    let front = drop (log.gate + 1) (log_bytes g.D.Device.seen log) in
    let next : IsNext c.args.w log.latest log.used log.buffer.items = c.requires.next in
    let last = next.last in
    let was = k.latest (omega (arith, last)) in
    let longer = c.lengthen.ensures.longer in
    let new = c.lengthen.new.buffer.items in
    let small : c.args.v < 2 ^ 64 = search rules in
    record {
      whole = buffer_whole front log.buffer.items new log.latest log.used c.args.w c.args.v next log.fits longer was small;
      left = k.left;
      count = k.count;
      latest = λ lt. ap (λ (l : List ℕ). are_operations 0 (front ++ l)) (buffer_front front log.buffer.items new log.latest log.used c.args.w c.args.v next log.fits longer was small) ∙ was;
      runs = k.runs;
    }
