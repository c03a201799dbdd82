use Rattle.std.proofs.Common.{◌≡◌, ◌≢◌, ◌+◌, ◌*◌, ◌/◌, ◌%◌, ◌<◌, ◌≤◌, ◌∙◌, ℕ, zero, suc, List, ap, sym, subst, length, get_or, refl, true, ltb, arith}
use Rattle.envy_heap.specs.Pieces.{at, head, one}
use Rattle.envy_heap.proofs.Heaps.{one-le}
use Rattle.envy_btree.specs.Rules.{key_at, key_count}
use Rattle.envy_btree.proofs.Viewing.{Looks-refl, Looks-trans, load-looks}
use Rattle.envy_tree_check.specs.Bounds.{floor_at}
use Rattle.envy_tree_check.specs.declared.fault.MapFault.TheVariants.{Off}
use Rattle.envy_tree_check.proofs.Faulting.{err-dims, err-if}
use Rattle.envy_tree_check.proofs.Noding.{count-said, floor-first, floor-next, keys-sick, order-more}
use Rattle.envy_tree_check.proofs.keys.check_keys.Goals as goal

pub loop-i-init : goal.loop-i-init
loop-i-init g c = record {
  looks = Looks-refl _;
  on = c.requires.on;
  same = refl;
  floor = floor-first _ c.args.spot.low c.args.spot.piece c.args.count c.args.spot.levels c.requires.head;
  order = λ k lt. absurd (omega arith);
}

pub returns-in_err-key-clause-looks : goal.returns-in_err-key-clause-looks
returns-in_err-key-clause-looks g c = Looks-trans _ _ _ c.loop-i.invariant.looks (load-looks _ _ _ c.load.result c.load.ensures.works c.load.ensures.spends c.load.ensures.answer)

pub returns-in_err-key-clause-power : goal.returns-in_err-key-clause-power
returns-in_err-key-clause-power g c = err-dims _ c.from_residual.result Off _ c.from_residual.ensures.1 c.in_err-key.ensures.answer

pub returns-in_err-key-clause-sickens : goal.returns-in_err-key-clause-sickens
returns-in_err-key-clause-sickens g c free = err-if _ c.from_residual.result Off c.from_residual.ensures.1 tt

pub returns-then-not-is_next-clause-looks : goal.returns-then-not-is_next-clause-looks
returns-then-not-is_next-clause-looks g c = Looks-trans _ _ _ c.loop-i.invariant.looks (load-looks _ _ _ c.load.result c.load.ensures.works c.load.ensures.spends c.load.ensures.answer)

pub returns-then-not-is_next-clause-sickens : goal.returns-then-not-is_next-clause-sickens
returns-then-not-is_next-clause-sickens g c free =
    let ws = (g.W.Words.sheet c.args.words.now).words in
    let key = c.in_ok-key.ensures.answer.1 ∙ ap (λ w. get_or w (at c.args.spot.piece 1 + c.loop-i.i) 0) c.loop-i.invariant.same in
    keys-sick ws free c.args.spot.root c.args.spot.low (c.args.spot.top + 1) c.args.spot.levels c.args.spot.piece c.loop-i.i c.in_ok-key.key _ (omega (arith, count-said ws c.args.spot.piece c.args.count c.args.spot.levels c.requires.head)) key c.loop-i.invariant.floor (c.is_next.ensures.no c.if-not-is_next.true)

pub loop-i-preserved : goal.loop-i-preserved
loop-i-preserved g c =
    let ws = (g.W.Words.sheet c.args.words.now).words in
    let key = c.in_ok-key.ensures.answer.1 ∙ ap (λ w. get_or w (at c.args.spot.piece 1 + c.loop-i.i) 0) c.loop-i.invariant.same in
    let good = c.is_next.ensures.yes c.if-not-is_next.false in
    record {
      looks = Looks-trans _ _ _ c.loop-i.invariant.looks (load-looks _ _ _ c.load.result c.load.ensures.works c.load.ensures.spends c.load.ensures.answer);
      on = c.in_ok-key.ensures.answer.0;
      same = c.in_ok-key.ensures.answer.2 ∙ c.loop-i.invariant.same;
      floor = floor-next ws c.args.spot.low c.args.spot.piece c.loop-i.i c.in_ok-key.key key;
      order = order-more ws c.args.spot.low (c.args.spot.top + 1) c.args.spot.piece c.loop-i.i c.in_ok-key.key _ c.loop-i.invariant.order key c.loop-i.invariant.floor good.0 good.1;
    }

pub returns-clause-looks : goal.returns-clause-looks
returns-clause-looks g c = c.loop-i.invariant.looks

pub returns-clause-order : goal.returns-clause-order
returns-clause-order g c i lt = c.loop-i.invariant.order i (omega arith)
