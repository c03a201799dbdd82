use Rattle.std.proofs.Common.{◌+◌, ◌∙◌, length-set, get_or, refl, arith}
use Rattle.envy_index_calls.proofs.Parts.{copied-more, copied-rest}
use Rattle.envy_index_calls.proofs.pair_buffer.copy.Goals as goal

pub loop-i-preserved : goal.loop-i-preserved
loop-i-preserved c =
    let mid = c.loop-i.invariant in
    let e = get_or c.args.pairs.now c.loop-i.i (0, 0) in
    record {
      long = length-set c.loop-i.out (c.args.filled + c.loop-i.i) (record { key = e.0; value = e.1 }) ∙ mid.long;
      list = copied-more c.args.out.now c.loop-i.out c.args.pairs.now c.args.filled c.loop-i.i (record { key = e.0; value = e.1 }) (omega (arith, c.requires, mid.long, c.loop-i-test.true)) c.loop-i-test.true refl mid.list;
      rest = copied-rest c.args.out.now c.loop-i.out c.args.filled c.loop-i.i (record { key = e.0; value = e.1 }) (omega (arith, c.requires, mid.long, c.loop-i-test.true)) mid.long mid.rest;
    }
