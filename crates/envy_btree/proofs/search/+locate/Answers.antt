use Rattle.std.proofs.Common.{arith, sym, ap, get_or}
use Rattle.envy_heap.specs.Pieces.{head}
use Rattle.envy_btree.proofs.Descent.{Rests-within, Rests-few}
use Rattle.envy_btree.proofs.Dipping.{dip-place, dip-made}
use Rattle.envy_btree.proofs.Looking.{value-found, flat-depth, value-below, depth-below}
use Rattle.envy_btree.proofs.Spotting.{Rests-climbs}
use Rattle.envy_btree.proofs.Stepping.{slot-fits32}
use Rattle.envy_btree.proofs.search.+locate.Goals as goal

pub seek-requires-clause-within : goal.seek-requires-clause-within
seek-requires-clause-within g t c = (Rests-within _ _ _ c.requires.rests).0

pub seek-requires-clause-few : goal.seek-requires-clause-few
seek-requires-clause-few g t c = Rests-few _ _ _ c.requires.rests

pub seek-requires-clause-rise : goal.seek-requires-clause-rise
seek-requires-clause-rise g t c = Rests-climbs _ _ _ c.requires.rests

pub returns-then-not-spot-clause-value : goal.returns-then-not-spot-clause-value
returns-then-not-spot-clause-value g t c r = value-found _ _ _ _ _ _ _ _ r _ c.in_ok-spot.ensures.spot c.if-not-spot.true c.in_ok-spot.ensures.same c.in_ok-value.ensures.value

pub returns-then-not-spot-clause-depth : goal.returns-then-not-spot-clause-depth
returns-then-not-spot-clause-depth g t c r = sym (flat-depth _ _ _ _ _ _ _ r c.in_ok-spot.ensures.spot c.if-not-spot.true)

pub overflow_add-piece-3 : goal.overflow_add-piece-3
overflow_add-piece-3 g t c = slot-fits32 c.args.piece c.in_ok-spot.spot.place _ (Rests-within _ _ _ c.requires.rests).0 (g.met.W.Words.lawful c.args.words.now).few (dip-place _ _ _ _ _ _ _ c.requires.rests c.in_ok-spot.ensures.spot c.if-not-spot.false)

pub load-requires : goal.load-requires
load-requires g t c = omega (arith, (Rests-within _ _ _ c.requires.rests).0, c.in_ok-spot.ensures.works.long, dip-place _ _ _ _ _ _ _ c.requires.rests c.in_ok-spot.ensures.spot c.if-not-spot.false)

pub overflow_cast-child : goal.overflow_cast-child
overflow_cast-child g t c = omega (arith, (dip-made _ _ _ _ _ _ _ _ _ _ c.requires.rests (g.met.W.Words.lawful c.args.words.now).few c.in_ok-spot.ensures.spot c.if-not-spot.false c.in_ok-spot.ensures.same c.in_ok-child.ensures.answer.1 c.in_ok-child.ensures.answer.2).fits)

pub overflow_sub-level : goal.overflow_sub-level
overflow_sub-level g t c = (dip-made _ _ _ _ _ _ _ _ _ _ c.requires.rests (g.met.W.Words.lawful c.args.words.now).few c.in_ok-spot.ensures.spot c.if-not-spot.false c.in_ok-spot.ensures.same c.in_ok-child.ensures.answer.1 c.in_ok-child.ensures.answer.2).goes.lower

pub locate-requires : goal.locate-requires
locate-requires g t c κs within =
    let s = dip-made _ _ _ _ _ _ _ _ _ _ c.requires.rests (g.met.W.Words.lawful c.args.words.now).few c.in_ok-spot.ensures.spot c.if-not-spot.false c.in_ok-spot.ensures.same c.in_ok-child.ensures.answer.1 c.in_ok-child.ensures.answer.2 in
    let lower = s.goes.lower in
    (omega (arith, lower, c.decreases), (within, s.rests))

pub overflow_add-result : goal.overflow_add-result
overflow_add-result g t c =
    let s = dip-made _ _ _ _ _ _ _ _ _ _ c.requires.rests (g.met.W.Words.lawful c.args.words.now).few c.in_ok-spot.ensures.spot c.if-not-spot.false c.in_ok-spot.ensures.same c.in_ok-child.ensures.answer.1 c.in_ok-child.ensures.answer.2 in
    let d = depth-below _ _ _ _ _ _ _ _ _ c.requires.rests s c.in_ok-found.ensures.depth in
    omega (arith, d, c.requires.rests.few, c.ranges.level.fits)

pub returns-clause-value : goal.returns-clause-value
returns-clause-value g t c r =
    let s = dip-made _ _ _ _ _ _ _ _ _ _ r (g.met.W.Words.lawful c.args.words.now).few c.in_ok-spot.ensures.spot c.if-not-spot.false c.in_ok-spot.ensures.same c.in_ok-child.ensures.answer.1 c.in_ok-child.ensures.answer.2 in
    value-below _ _ _ _ _ _ _ _ _ r s c.in_ok-found.ensures.value

pub returns-clause-depth : goal.returns-clause-depth
returns-clause-depth g t c r =
    let s = dip-made _ _ _ _ _ _ _ _ _ _ r (g.met.W.Words.lawful c.args.words.now).few c.in_ok-spot.ensures.spot c.if-not-spot.false c.in_ok-spot.ensures.same c.in_ok-child.ensures.answer.1 c.in_ok-child.ensures.answer.2 in
    depth-below _ _ _ _ _ _ _ _ _ r s c.in_ok-found.ensures.depth

pub value_at-requires-clause-within : goal.value_at-requires-clause-within
value_at-requires-clause-within g t c = omega (arith, (Rests-within _ _ _ c.requires.rests).0, c.in_ok-spot.ensures.works.long)

pub value_at-requires-clause-few : goal.value_at-requires-clause-few
value_at-requires-clause-few g t c = omega (arith, Rests-few _ _ _ c.requires.rests, ap (λ w. get_or w (head c.args.piece) 0) c.in_ok-spot.ensures.same)
