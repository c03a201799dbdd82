use Rattle.std.proofs.Common.{◌+◌, ◌-◌, ◌*◌, arith, ◌∙◌}
use Rattle.envy_array.proofs.Working.{Works-trans, Works-more, Spends-trans, Spends-then}
use Rattle.envy_btree.proofs.Descent.{Rests-within, Rests-few}
use Rattle.envy_btree.proofs.Spotting.{Rests-climbs}
use Rattle.envy_btree.proofs.Stepping.{slot-fits32}
use Rattle.envy_btree.proofs.Descending.{place-few, step-made, step-same, step-parts, step-follows, end-follows, end-heap}
use Rattle.envy_btree.proofs.appending.+append_under.Goals as goal

pub seek-requires-clause-within : goal.seek-requires-clause-within
seek-requires-clause-within g t c = (Rests-within _ _ _ c.requires.brim.way.rests).0

pub seek-requires-clause-few : goal.seek-requires-clause-few
seek-requires-clause-few g t c = Rests-few _ _ _ c.requires.brim.way.rests

pub seek-requires-clause-rise : goal.seek-requires-clause-rise
seek-requires-clause-rise g t c = Rests-climbs _ _ _ c.requires.brim.way.rests

pub add_leaf-requires-clause-room : goal.add_leaf-requires-clause-room
add_leaf-requires-clause-room g t c = omega (arith, c.requires.room, c.in_ok-spot.ensures.works.few c.in_ok-spot.ensures.power, c.in_ok-spot.ensures.works.room)

pub add_leaf-requires-clause-heap : goal.add_leaf-requires-clause-heap
add_leaf-requires-clause-heap g t c = end-heap _ _ _ _ _ _ c.requires.brim c.in_ok-spot.ensures.same

pub returns-then-not-spot-clause-follows : goal.returns-then-not-spot-clause-follows
returns-then-not-spot-clause-follows g t c brim = end-follows _ _ _ _ _ _ _ _ _ _ _ brim c.in_ok-spot.ensures.spot c.if-not-spot.true c.in_ok-spot.ensures.same c.in_ok-second.ensures.leafed c.requires.many c.requires.few

pub overflow_add-piece-3 : goal.overflow_add-piece-3
overflow_add-piece-3 g t c = slot-fits32 c.args.piece c.in_ok-spot.spot.place _ (Rests-within _ _ _ c.requires.brim.way.rests).0 (g.met.W.Words.lawful c.args.words.now).few (place-few _ _ _ _ _ _ c.args.pairs.now _ c.requires.brim c.in_ok-spot.ensures.spot c.if-not-spot.false)

pub load-requires : goal.load-requires
load-requires g t c = omega (arith, (Rests-within _ _ _ c.requires.brim.way.rests).0, c.in_ok-spot.ensures.works.long, place-few _ _ _ _ _ _ c.args.pairs.now _ c.requires.brim c.in_ok-spot.ensures.spot c.if-not-spot.false)

pub overflow_cast-child : goal.overflow_cast-child
overflow_cast-child g t c = omega (arith, (step-made _ _ _ _ _ _ _ _ _ c.args.pairs.now _ c.requires.brim (g.met.W.Words.lawful c.args.words.now).few c.in_ok-spot.ensures.spot c.if-not-spot.false c.in_ok-spot.ensures.same c.in_ok-child.ensures.answer.1 c.in_ok-child.ensures.answer.2).fits)

pub overflow_sub-level : goal.overflow_sub-level
overflow_sub-level g t c = (step-made _ _ _ _ _ _ _ _ _ c.args.pairs.now _ c.requires.brim (g.met.W.Words.lawful c.args.words.now).few c.in_ok-spot.ensures.spot c.if-not-spot.false c.in_ok-spot.ensures.same c.in_ok-child.ensures.answer.1 c.in_ok-child.ensures.answer.2).goes.lower

pub append_under-requires : goal.append_under-requires
append_under-requires g t c κs within =
    let s = step-made _ _ _ _ _ _ _ _ _ c.args.pairs.now _ c.requires.brim (g.met.W.Words.lawful c.args.words.now).few c.in_ok-spot.ensures.spot c.if-not-spot.false c.in_ok-spot.ensures.same c.in_ok-child.ensures.answer.1 c.in_ok-child.ensures.answer.2 in
    let lower = s.goes.lower in
    let n = c.in_ok-spot.ensures in
    let m = c.in_ok-child.ensures in (
      omega (arith, lower, c.decreases),
      (
        within,
        (
          m.works.still m.answer.0 ∙ n.works.still n.power ∙ c.requires.begun,
          (
            m.works.seen m.answer.0 0 (n.works.seen n.power 0 c.requires.head),
            (
              omega (arith, c.requires.room, n.works.few n.power, n.works.room, m.works.few m.answer.0, m.works.room, lower),
              (c.requires.many, (c.requires.few, s.way)),
            ),
          ),
        ),
      ),
    )

pub returns-in_default-clause-follows : goal.returns-in_default-clause-follows
returns-in_default-clause-follows g t c way =
    let s = step-made _ _ _ _ _ _ _ _ _ c.args.pairs.now _ way (g.met.W.Words.lawful c.args.words.now).few c.in_ok-spot.ensures.spot c.if-not-spot.false c.in_ok-spot.ensures.same c.in_ok-child.ensures.answer.1 c.in_ok-child.ensures.answer.2 in
    step-same _ _ _ _ _ _ _ _ _ _ _ way s c.in_ok-middle.ensures.follows c.in_default.is

pub grow_node-requires-clause-within : goal.grow_node-requires-clause-within
grow_node-requires-clause-within g t c = omega (arith, (Rests-within _ _ _ c.requires.brim.way.rests).0, c.in_ok-spot.ensures.works.long, c.in_ok-child.ensures.works.long, c.in_ok-middle.ensures.works.long)

pub grow_node-requires-clause-room : goal.grow_node-requires-clause-room
grow_node-requires-clause-room g t c =
    let s = step-made _ _ _ _ _ _ _ _ _ c.args.pairs.now _ c.requires.brim (g.met.W.Words.lawful c.args.words.now).few c.in_ok-spot.ensures.spot c.if-not-spot.false c.in_ok-spot.ensures.same c.in_ok-child.ensures.answer.1 c.in_ok-child.ensures.answer.2 in
    let lower = s.goes.lower in
    let n = c.in_ok-spot.ensures in
    let l = c.in_ok-child.ensures in
    let m = c.in_ok-middle.ensures in
    omega (arith, lower, c.requires.room, n.works.few n.power, n.works.room, l.works.few l.answer.0, l.works.room, m.works.few m.fails, m.works.room)

pub grow_node-requires-clause-heap : goal.grow_node-requires-clause-heap
grow_node-requires-clause-heap g t c =
    let s = step-made _ _ _ _ _ _ _ _ _ c.args.pairs.now _ c.requires.brim (g.met.W.Words.lawful c.args.words.now).few c.in_ok-spot.ensures.spot c.if-not-spot.false c.in_ok-spot.ensures.same c.in_ok-child.ensures.answer.1 c.in_ok-child.ensures.answer.2 in
    (step-parts _ _ _ _ _ _ _ _ _ c.args.pairs.now _ _ (c.in-Some.middle, c.in-Some.second) c.requires.brim c.in_ok-spot.ensures.spot s c.in_ok-middle.ensures.follows c.in-Some.is).ready

pub grow_node-requires-clause-inner : goal.grow_node-requires-clause-inner
grow_node-requires-clause-inner g t c =
    let s = step-made _ _ _ _ _ _ _ _ _ c.args.pairs.now _ c.requires.brim (g.met.W.Words.lawful c.args.words.now).few c.in_ok-spot.ensures.spot c.if-not-spot.false c.in_ok-spot.ensures.same c.in_ok-child.ensures.answer.1 c.in_ok-child.ensures.answer.2 in
    (step-parts _ _ _ _ _ _ _ _ _ c.args.pairs.now _ _ (c.in-Some.middle, c.in-Some.second) c.requires.brim c.in_ok-spot.ensures.spot s c.in_ok-middle.ensures.follows c.in-Some.is).count

pub grow_node-requires-clause-few : goal.grow_node-requires-clause-few
grow_node-requires-clause-few g t c = (step-made _ _ _ _ _ _ _ _ _ c.args.pairs.now _ c.requires.brim (g.met.W.Words.lawful c.args.words.now).few c.in_ok-spot.ensures.spot c.if-not-spot.false c.in_ok-spot.ensures.same c.in_ok-child.ensures.answer.1 c.in_ok-child.ensures.answer.2).few

pub grow_node-requires-clause-place : goal.grow_node-requires-clause-place
grow_node-requires-clause-place g t c = (step-made _ _ _ _ _ _ _ _ _ c.args.pairs.now _ c.requires.brim (g.met.W.Words.lawful c.args.words.now).few c.in_ok-spot.ensures.spot c.if-not-spot.false c.in_ok-spot.ensures.same c.in_ok-child.ensures.answer.1 c.in_ok-child.ensures.answer.2).place

pub returns-clause-works : goal.returns-clause-works
returns-clause-works g t c =
    let s = step-made _ _ _ _ _ _ _ _ _ c.args.pairs.now _ c.requires.brim (g.met.W.Words.lawful c.args.words.now).few c.in_ok-spot.ensures.spot c.if-not-spot.false c.in_ok-spot.ensures.same c.in_ok-child.ensures.answer.1 c.in_ok-child.ensures.answer.2 in
    let lower = s.goes.lower in
    Works-more (0 + 0 + (4 * (c.args.level - 1) + 4) + 4) (4 * c.args.level + 4) _ _ (omega (arith, lower)) (Works-trans (0 + 0 + (4 * (c.args.level - 1) + 4)) 4 _ _ _ (Works-trans (0 + 0) (4 * (c.args.level - 1) + 4) _ _ _ (Works-trans 0 0 _ _ _ c.in_ok-spot.ensures.works c.in_ok-child.ensures.works) c.in_ok-middle.ensures.works) c.grow_node.ensures.works)

pub returns-clause-spends : goal.returns-clause-spends
returns-clause-spends g t c =
    let s = step-made _ _ _ _ _ _ _ _ _ c.args.pairs.now _ c.requires.brim (g.met.W.Words.lawful c.args.words.now).few c.in_ok-spot.ensures.spot c.if-not-spot.false c.in_ok-spot.ensures.same c.in_ok-child.ensures.answer.1 c.in_ok-child.ensures.answer.2 in
    let lower = s.goes.lower in
    Spends-then (0 + 0 + (129 * (c.args.level - 1) + 129)) 129 _ _ _ _ (omega (arith, lower)) (Spends-trans (0 + 0) (129 * (c.args.level - 1) + 129) _ _ _ (Spends-trans 0 0 _ _ _ c.seek.ensures.spends c.load.ensures.spends) c.append_under.ensures.spends) c.grow_node.ensures.spends

pub returns-clause-follows : goal.returns-clause-follows
returns-clause-follows g t c way =
    let s = step-made _ _ _ _ _ _ _ _ _ c.args.pairs.now _ way (g.met.W.Words.lawful c.args.words.now).few c.in_ok-spot.ensures.spot c.if-not-spot.false c.in_ok-spot.ensures.same c.in_ok-child.ensures.answer.1 c.in_ok-child.ensures.answer.2 in
    step-follows _ _ _ _ _ _ _ _ _ _ _ _ _ (c.in-Some.middle, c.in-Some.second) way _ c.in_ok-spot.ensures.spot s c.in_ok-middle.ensures.follows c.in-Some.is c.grow_node.ensures.saved
