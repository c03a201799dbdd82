use Rattle.std.proofs.Common.{◌≡◌, ◌+◌, ◌<◌, ◌∙◌, refl, rules, ap, get_or, length, length-set, arith}
use Rattle.envy_heap.specs.Pieces.{at}
use Rattle.envy_btree.specs.Looking.{pair_at, place_by}
use Rattle.envy_btree.proofs.Placing.{pair-of, run-as}
use Rattle.envy_btree.proofs.Rows.{list-more, rest-more}
use Rattle.envy_btree.proofs.Viewing.{Looks-trans, run-looks}
use Rattle.envy_btree.proofs.turn.write_pairs.Goals as goal

pub place_at-i-requires : goal.place_at-i-requires
place_at-i-requires g c = omega (arith, c.requires.low, c.requires.few)

pub loop-j-preserved : goal.loop-j-preserved
loop-j-preserved g c =
    let mid = c.loop-j.invariant in
    let ws = (g.W.Words.sheet c.args.words.now).words in
    let i = c.place_at-i.result in
    let within : c.args.filled + c.loop-j.j < length c.loop-j.out = omega (arith, c.requires.room, mid.long) in
    let low = c.requires.places c.loop-j.j (omega arith) in
    let some : length c.load_run.new.into ≡ 31 = search rules in
    let more : length c.load_run-2.new.into ≡ 31 = search rules in
    let front = run-as ws ws c.load_run.new.into (at c.args.piece 1) 31 refl some c.in_ok-load_run.ensures.answer.1 in
    let back = run-as ws (g.W.Words.sheet c.load_run.new.self).words c.load_run-2.new.into (at c.args.piece 32) 31 c.in_ok-load_run.ensures.answer.2 more c.in_ok-load_run-2.ensures.answer.1 in
    let pair = pair-of ws c.load_run.new.into c.load_run-2.new.into c.args.piece 31 i front back (omega (arith, low, c.place_at-i.ensures)) ∙ ap (pair_at ws c.args.piece) c.place_at-i.ensures in
    record {
      long = length-set c.loop-j.out (c.args.filled + c.loop-j.j) (get_or c.load_run.new.into i 0, get_or c.load_run-2.new.into i 0) ∙ mid.long;
      list = list-more (λ j. pair_at ws c.args.piece (place_by c.args.way c.args.place j)) c.args.out.now c.loop-j.out c.args.filled c.loop-j.j (get_or c.load_run.new.into i 0, get_or c.load_run-2.new.into i 0) within mid.list pair;
      rest = rest-more c.args.out.now c.loop-j.out c.args.filled c.loop-j.j (get_or c.load_run.new.into i 0, get_or c.load_run-2.new.into i 0) within mid.long mid.rest;
    }
