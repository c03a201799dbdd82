use Rattle.std.proofs.Common.{◌+◌, ◌-◌, ◌*◌, subst, arith}
use Rattle.std.specs.List.{remove}
use Rattle.std.proofs.lemmas.Result.{on_ok_weaker}
use Rattle.envy_heap.proofs.Heaps.{one-le}
use Rattle.envy_btree.specs.Tree.{Shows}
use Rattle.envy_btree.specs.Spots.{keys_at, slots_at}
use Rattle.envy_btree.proofs.Gaps.{narrowed}
use Rattle.envy_btree.proofs.gap.narrow.Goals as goal

pub returns-clause-node : goal.returns-clause-node
returns-clause-node g c =
    let old = (g.W.Words.sheet c.args.words.now).words in
    let new = (g.W.Words.sheet c.close_gap-2.new.words).words in
    let le = one-le c.args.inner in
    on_ok_weaker c.close_gap-2.result (λ q. subst (λ k. Shows new c.args.piece k (remove (keys_at old c.args.piece) c.args.i) (remove (slots_at old c.args.piece) c.args.j)) c.kind_of-kind.ensures (narrowed old (g.W.Words.sheet c.put.new.self).words (g.W.Words.sheet c.close_gap.new.words).words new c.args.piece c.kind_of-kind.result c.args.keys c.args.i c.args.j (2 * (c.from.result - 1) + c.kind_of-kind.result) c.requires.within (omega (arith, c.requires.count, c.kind_of-kind.ensures)) (omega (arith, c.kind_of-kind.ensures, le)) c.requires.few c.requires.place (omega (arith, c.requires.slot_place, c.kind_of-kind.ensures)) (omega (arith, c.from.ensures)) c.in_ok-put.ensures.answer.1 c.in_ok-close_gap.ensures.gap q).0) c.close_gap-2.ensures.gap
