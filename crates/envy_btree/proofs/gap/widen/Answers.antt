use Rattle.std.proofs.Common.{◌+◌, ◌*◌, subst, arith}
use Rattle.std.specs.List.{insert}
use Rattle.std.proofs.lemmas.Result.{on_ok_weaker}
use Rattle.envy_array.proofs.Working.{Spends-then, Spends-trans}
use Rattle.envy_heap.proofs.Heaps.{one-le}
use Rattle.envy_btree.specs.Tree.{Shows}
use Rattle.envy_btree.specs.Spots.{keys_at, slots_at}
use Rattle.envy_btree.proofs.Gaps.{widened}
use Rattle.envy_btree.proofs.gap.widen.Goals as goal

pub returns-clause-spends : goal.returns-clause-spends
returns-clause-spends g c =
    let le = one-le c.args.inner in
    Spends-then (1 + (c.args.keys + 1)) (c.args.keys + c.kind_of-kind.result + 1) 64 _ _ _ (omega (arith, c.requires.few, c.kind_of-kind.ensures, le)) (Spends-trans 1 (c.args.keys + 1) _ _ _ c.put.ensures.spends c.open_gap.ensures.spends) c.open_gap-2.ensures.spends

pub returns-clause-node : goal.returns-clause-node
returns-clause-node g c =
    let old = (g.W.Words.sheet c.args.words.now).words in
    let new = (g.W.Words.sheet c.open_gap-2.new.words).words in
    let le = one-le c.args.inner in
    on_ok_weaker c.open_gap-2.result (λ q. subst (λ k. Shows new c.args.piece k (insert (keys_at old c.args.piece) c.args.i c.args.key) (insert (slots_at old c.args.piece) c.args.j c.args.slot)) c.kind_of-kind.ensures (widened old (g.W.Words.sheet c.put.new.self).words (g.W.Words.sheet c.open_gap.new.words).words new c.args.piece c.kind_of-kind.result c.args.keys c.args.i c.args.key c.args.j c.args.slot (2 * (c.from.result + 1) + c.kind_of-kind.result) c.requires.within (omega (arith, c.requires.count, c.kind_of-kind.ensures)) (omega (arith, c.kind_of-kind.ensures, le)) c.requires.few c.requires.place (omega (arith, c.requires.slot_place, c.kind_of-kind.ensures)) (omega (arith, c.from.ensures)) c.in_ok-put.ensures.answer.1 c.in_ok-open_gap.ensures.gap q).0) c.open_gap-2.ensures.gap
