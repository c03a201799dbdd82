use Rattle.std.proofs.Common.{IfSome, ◌+◌, ◌-◌, ◌*◌, ◌∙◌, arith, subst}
use Rattle.envy_array.specs.Words.{Works}
use Rattle.envy_array.proofs.Working.{Works-trans, Works-more, Spends-trans, Spends-then}
use Rattle.envy_btree.proofs.Descent.{Rests-within, Rests-few}
use Rattle.envy_btree.proofs.Diving.{hand-more}
use Rattle.envy_btree.proofs.Spotting.{Rests-climbs}
use Rattle.envy_btree.proofs.Stepping.{slot-fits32}
use Rattle.envy_btree.proofs.Dipping.{dip-place, dip-made, dip-told, dip-same, dip-few, dip-read, front-children, front-short, front-done, rear-children, rear-short, rear-done, land-few, land-shrinks}
use Rattle.envy_btree.proofs.removal_path.+remove_under.Goals as goal

pub seek-requires-clause-within : goal.seek-requires-clause-within
seek-requires-clause-within g t c = (Rests-within _ _ _ c.requires.rests).0

pub seek-requires-clause-few : goal.seek-requires-clause-few
seek-requires-clause-few g t c = Rests-few _ _ _ c.requires.rests

pub seek-requires-clause-rise : goal.seek-requires-clause-rise
seek-requires-clause-rise g t c = Rests-climbs _ _ _ c.requires.rests

pub shrink_leaf-requires-clause-within : goal.shrink_leaf-requires-clause-within
shrink_leaf-requires-clause-within g t c = omega (arith, (Rests-within _ _ _ c.requires.rests).0, c.in_ok-spot.ensures.works.long)

pub shrink_leaf-requires-clause-few : goal.shrink_leaf-requires-clause-few
shrink_leaf-requires-clause-few g t c = land-few _ _ _ _ _ _ _ c.requires.rests c.in_ok-spot.ensures.spot c.if-not-spot.true

pub returns-then-not-spot-clause-shrinks : goal.returns-then-not-spot-clause-shrinks
returns-then-not-spot-clause-shrinks g t c r = land-shrinks _ _ _ _ _ _ _ _ _ r _ c.in_ok-spot.ensures.spot c.if-not-spot.true c.in_ok-spot.ensures.same c.shrink_leaf.ensures.back

pub overflow_add-piece-3 : goal.overflow_add-piece-3
overflow_add-piece-3 g t c = slot-fits32 c.args.piece c.in_ok-spot.spot.place _ (Rests-within _ _ _ c.requires.rests).0 (g.met.W.Words.lawful c.args.words.now).few (dip-place _ _ _ _ _ _ _ c.requires.rests c.in_ok-spot.ensures.spot c.if-not-spot.false)

pub load-requires : goal.load-requires
load-requires g t c = omega (arith, (Rests-within _ _ _ c.requires.rests).0, c.in_ok-spot.ensures.works.long, dip-place _ _ _ _ _ _ _ c.requires.rests c.in_ok-spot.ensures.spot c.if-not-spot.false)

pub overflow_cast-child : goal.overflow_cast-child
overflow_cast-child g t c = omega (arith, (dip-made _ _ _ _ _ _ _ _ _ _ c.requires.rests (g.met.W.Words.lawful c.args.words.now).few c.in_ok-spot.ensures.spot c.if-not-spot.false c.in_ok-spot.ensures.same c.in_ok-child.ensures.answer.1 c.in_ok-child.ensures.answer.2).fits)

pub overflow_sub-level : goal.overflow_sub-level
overflow_sub-level g t c = (dip-made _ _ _ _ _ _ _ _ _ _ c.requires.rests (g.met.W.Words.lawful c.args.words.now).few c.in_ok-spot.ensures.spot c.if-not-spot.false c.in_ok-spot.ensures.same c.in_ok-child.ensures.answer.1 c.in_ok-child.ensures.answer.2).goes.lower

pub remove_under-requires : goal.remove_under-requires
remove_under-requires g t c κs within =
    let s = (dip-made _ _ _ _ _ _ _ _ _ _ c.requires.rests (g.met.W.Words.lawful c.args.words.now).few c.in_ok-spot.ensures.spot c.if-not-spot.false c.in_ok-spot.ensures.same c.in_ok-child.ensures.answer.1 c.in_ok-child.ensures.answer.2) in
    let lower = s.goes.lower in
    let n = c.in_ok-spot.ensures in
    let m = c.in_ok-child.ensures in (
      omega (arith, lower, c.decreases),
      (
        within,
        (
          m.works.still m.answer.0 ∙ n.works.still n.power ∙ c.requires.begun,
          (
            omega (arith, c.requires.room, n.works.few n.power, n.works.room, m.works.few m.answer.0, m.works.room, lower),
            s.rests,
          ),
        ),
      ),
    )

pub returns-in_default-clause-shrinks : goal.returns-in_default-clause-shrinks
returns-in_default-clause-shrinks g t c r =
    let s = (dip-made _ _ _ _ _ _ _ _ _ _ r (g.met.W.Words.lawful c.args.words.now).few c.in_ok-spot.ensures.spot c.if-not-spot.false c.in_ok-spot.ensures.same c.in_ok-child.ensures.answer.1 c.in_ok-child.ensures.answer.2) in
    dip-same _ _ _ _ _ _ _ _ _ _ r s c.in_ok-short.ensures.shrinks c.in_default.is

pub read_node-requires-clause-within : goal.read_node-requires-clause-within
read_node-requires-clause-within g t c = omega (arith, (Rests-within _ _ _ c.requires.rests).0, c.in_ok-spot.ensures.works.long, c.in_ok-child.ensures.works.long, c.in_ok-short.ensures.works.long)

pub read_node-requires-clause-few : goal.read_node-requires-clause-few
read_node-requires-clause-few g t c =
    let s = (dip-made _ _ _ _ _ _ _ _ _ _ c.requires.rests (g.met.W.Words.lawful c.args.words.now).few c.in_ok-spot.ensures.spot c.if-not-spot.false c.in_ok-spot.ensures.same c.in_ok-child.ensures.answer.1 c.in_ok-child.ensures.answer.2) in
    dip-few _ _ _ _ _ _ c.in-Some.short c.requires.rests s.goes (dip-told _ _ _ _ _ _ _ _ _ c.in_ok-short.field-0 _ _ s c.in_ok-short.ensures.shrinks c.in-Some.is)

pub shrink_with_front-requires-clause-within : goal.shrink_with_front-requires-clause-within
shrink_with_front-requires-clause-within g t c = omega (arith, (Rests-within _ _ _ c.requires.rests).0, c.in_ok-spot.ensures.works.long, c.in_ok-child.ensures.works.long, c.in_ok-short.ensures.works.long, c.in_ok-node.ensures.works.long)

pub shrink_with_front-requires-clause-room : goal.shrink_with_front-requires-clause-room
shrink_with_front-requires-clause-room g t c =
    let s = (dip-made _ _ _ _ _ _ _ _ _ _ c.requires.rests (g.met.W.Words.lawful c.args.words.now).few c.in_ok-spot.ensures.spot c.if-not-spot.false c.in_ok-spot.ensures.same c.in_ok-child.ensures.answer.1 c.in_ok-child.ensures.answer.2) in
    let lower = s.goes.lower in
    let level = c.args.level - 1 in
    let short : Works (4 * level) (g.W.Words.sheet c.load.new.self) (g.W.Words.sheet c.remove_under.new.words) = subst (λ r. IfSome r (λ _. Works (4 * level) (g.W.Words.sheet c.load.new.self) (g.W.Words.sheet c.remove_under.new.words))) c.in-Some.is c.in_ok-short.ensures.hand in
    let down = Works-trans 0 0 _ _ _ c.in_ok-spot.ensures.works c.in_ok-child.ensures.works in
    let so_far = Works-trans (0 + 0 + 4 * level) 0 _ _ _ (Works-trans (0 + 0) (4 * level) _ _ _ down short) c.in_ok-node.ensures.works in
    omega (arith, lower, c.requires.room, so_far.few c.in_ok-node.ensures.power, so_far.room)

pub shrink_with_front-requires-clause-inner : goal.shrink_with_front-requires-clause-inner
shrink_with_front-requires-clause-inner g t c =
    let s = (dip-made _ _ _ _ _ _ _ _ _ _ c.requires.rests (g.met.W.Words.lawful c.args.words.now).few c.in_ok-spot.ensures.spot c.if-not-spot.false c.in_ok-spot.ensures.same c.in_ok-child.ensures.answer.1 c.in_ok-child.ensures.answer.2) in
    let d = dip-told _ _ _ _ _ _ _ _ _ c.in_ok-short.field-0 _ _ s c.in_ok-short.ensures.shrinks c.in-Some.is in
    let r = dip-read _ _ _ _ _ _ _ _ _ _ c.in-Some.short c.requires.rests s.goes d c.in_ok-node.ensures.node c.in_ok-node.ensures.same in
    r.kind

pub shrink_with_front-requires-clause-children : goal.shrink_with_front-requires-clause-children
shrink_with_front-requires-clause-children g t c =
    let s = (dip-made _ _ _ _ _ _ _ _ _ _ c.requires.rests (g.met.W.Words.lawful c.args.words.now).few c.in_ok-spot.ensures.spot c.if-not-spot.false c.in_ok-spot.ensures.same c.in_ok-child.ensures.answer.1 c.in_ok-child.ensures.answer.2) in
    let d = dip-told _ _ _ _ _ _ _ _ _ c.in_ok-short.field-0 _ _ s c.in_ok-short.ensures.shrinks c.in-Some.is in
    let r = dip-read _ _ _ _ _ _ _ _ _ _ c.in-Some.short c.requires.rests s.goes d c.in_ok-node.ensures.node c.in_ok-node.ensures.same in
    front-children _ _ _ _ _ _ _ _ _ _ c.in-Some.short c.requires.rests s.goes d r c.if-spot-gt0.true

pub shrink_with_front-requires-clause-short : goal.shrink_with_front-requires-clause-short
shrink_with_front-requires-clause-short g t c =
    let s = (dip-made _ _ _ _ _ _ _ _ _ _ c.requires.rests (g.met.W.Words.lawful c.args.words.now).few c.in_ok-spot.ensures.spot c.if-not-spot.false c.in_ok-spot.ensures.same c.in_ok-child.ensures.answer.1 c.in_ok-child.ensures.answer.2) in
    let d = dip-told _ _ _ _ _ _ _ _ _ c.in_ok-short.field-0 _ _ s c.in_ok-short.ensures.shrinks c.in-Some.is in
    let r = dip-read _ _ _ _ _ _ _ _ _ _ c.in-Some.short c.requires.rests s.goes d c.in_ok-node.ensures.node c.in_ok-node.ensures.same in
    front-short _ _ _ _ _ _ _ _ _ _ c.in-Some.short c.requires.rests s.goes d r c.if-spot-gt0.true

pub returns-then-spot-gt0-clause-works : goal.returns-then-spot-gt0-clause-works
returns-then-spot-gt0-clause-works g t c =
    let s = (dip-made _ _ _ _ _ _ _ _ _ _ c.requires.rests (g.met.W.Words.lawful c.args.words.now).few c.in_ok-spot.ensures.spot c.if-not-spot.false c.in_ok-spot.ensures.same c.in_ok-child.ensures.answer.1 c.in_ok-child.ensures.answer.2) in
    let lower = s.goes.lower in
    let level = c.args.level - 1 in
    let short : Works (4 * level) (g.W.Words.sheet c.load.new.self) (g.W.Words.sheet c.remove_under.new.words) = subst (λ r. IfSome r (λ _. Works (4 * level) (g.W.Words.sheet c.load.new.self) (g.W.Words.sheet c.remove_under.new.words))) c.in-Some.is c.in_ok-short.ensures.hand in
    let down = Works-trans 0 0 _ _ _ c.in_ok-spot.ensures.works c.in_ok-child.ensures.works in
    let so_far = Works-trans (0 + 0 + 4 * level) 0 _ _ _ (Works-trans (0 + 0) (4 * level) _ _ _ down short) c.in_ok-node.ensures.works in
    Works-more (0 + 0 + 4 * level + 0 + 6) (4 * c.args.level + 2) _ _ (omega (arith, lower)) (Works-trans (0 + 0 + 4 * level + 0) 6 _ _ _ so_far c.shrink_with_front.ensures.works)

pub returns-then-spot-gt0-clause-hand : goal.returns-then-spot-gt0-clause-hand
returns-then-spot-gt0-clause-hand g t c =
    let s = (dip-made _ _ _ _ _ _ _ _ _ _ c.requires.rests (g.met.W.Words.lawful c.args.words.now).few c.in_ok-spot.ensures.spot c.if-not-spot.false c.in_ok-spot.ensures.same c.in_ok-child.ensures.answer.1 c.in_ok-child.ensures.answer.2) in
    let lower = s.goes.lower in
    let level = c.args.level - 1 in
    let short : Works (4 * level) (g.W.Words.sheet c.load.new.self) (g.W.Words.sheet c.remove_under.new.words) = subst (λ r. IfSome r (λ _. Works (4 * level) (g.W.Words.sheet c.load.new.self) (g.W.Words.sheet c.remove_under.new.words))) c.in-Some.is c.in_ok-short.ensures.hand in
    let down = Works-trans 0 0 _ _ _ c.in_ok-spot.ensures.works c.in_ok-child.ensures.works in
    let so_far = Works-trans (0 + 0 + 4 * level) 0 _ _ _ (Works-trans (0 + 0) (4 * level) _ _ _ down short) c.in_ok-node.ensures.works in
    hand-more (0 + 0 + 4 * level + 0) 4 (4 * c.args.level) _ _ _ c.shrink_with_front.result so_far (omega (arith, lower)) c.shrink_with_front.ensures.hand

pub returns-then-spot-gt0-clause-spends : goal.returns-then-spot-gt0-clause-spends
returns-then-spot-gt0-clause-spends g t c =
    let s = (dip-made _ _ _ _ _ _ _ _ _ _ c.requires.rests (g.met.W.Words.lawful c.args.words.now).few c.in_ok-spot.ensures.spot c.if-not-spot.false c.in_ok-spot.ensures.same c.in_ok-child.ensures.answer.1 c.in_ok-child.ensures.answer.2) in
    let lower = s.goes.lower in
    let level = c.args.level - 1 in
    Spends-then (0 + 0 + (192 * level + 64) + 0) 192 _ _ _ _ (omega (arith, lower)) (Spends-trans (0 + 0 + (192 * level + 64)) 0 _ _ _ (Spends-trans (0 + 0) (192 * level + 64) _ _ _ (Spends-trans 0 0 _ _ _ c.seek.ensures.spends c.load.ensures.spends) c.remove_under.ensures.spends) c.read_node.ensures.spends) c.shrink_with_front.ensures.spends

pub returns-then-spot-gt0-clause-shrinks : goal.returns-then-spot-gt0-clause-shrinks
returns-then-spot-gt0-clause-shrinks g t c t2 =
    let s = (dip-made _ _ _ _ _ _ _ _ _ _ t2 (g.met.W.Words.lawful c.args.words.now).few c.in_ok-spot.ensures.spot c.if-not-spot.false c.in_ok-spot.ensures.same c.in_ok-child.ensures.answer.1 c.in_ok-child.ensures.answer.2) in
    let d = dip-told _ _ _ _ _ _ _ _ _ c.in_ok-short.field-0 _ _ s c.in_ok-short.ensures.shrinks c.in-Some.is in
    let r = dip-read _ _ _ _ _ _ _ _ _ _ c.in-Some.short t2 s.goes d c.in_ok-node.ensures.node c.in_ok-node.ensures.same in
    front-done _ _ _ _ _ _ _ _ _ _ _ c.in-Some.short t2 _ s.goes d r c.if-spot-gt0.true c.shrink_with_front.ensures.mended

pub shrink_with_rear-requires-clause-within : goal.shrink_with_rear-requires-clause-within
shrink_with_rear-requires-clause-within g t c = omega (arith, (Rests-within _ _ _ c.requires.rests).0, c.in_ok-spot.ensures.works.long, c.in_ok-child.ensures.works.long, c.in_ok-short.ensures.works.long, c.in_ok-node.ensures.works.long)

pub shrink_with_rear-requires-clause-room : goal.shrink_with_rear-requires-clause-room
shrink_with_rear-requires-clause-room g t c =
    let s = (dip-made _ _ _ _ _ _ _ _ _ _ c.requires.rests (g.met.W.Words.lawful c.args.words.now).few c.in_ok-spot.ensures.spot c.if-not-spot.false c.in_ok-spot.ensures.same c.in_ok-child.ensures.answer.1 c.in_ok-child.ensures.answer.2) in
    let lower = s.goes.lower in
    let level = c.args.level - 1 in
    let short : Works (4 * level) (g.W.Words.sheet c.load.new.self) (g.W.Words.sheet c.remove_under.new.words) = subst (λ r. IfSome r (λ _. Works (4 * level) (g.W.Words.sheet c.load.new.self) (g.W.Words.sheet c.remove_under.new.words))) c.in-Some.is c.in_ok-short.ensures.hand in
    let down = Works-trans 0 0 _ _ _ c.in_ok-spot.ensures.works c.in_ok-child.ensures.works in
    let so_far = Works-trans (0 + 0 + 4 * level) 0 _ _ _ (Works-trans (0 + 0) (4 * level) _ _ _ down short) c.in_ok-node.ensures.works in
    omega (arith, lower, c.requires.room, so_far.few c.in_ok-node.ensures.power, so_far.room)

pub shrink_with_rear-requires-clause-inner : goal.shrink_with_rear-requires-clause-inner
shrink_with_rear-requires-clause-inner g t c =
    let s = (dip-made _ _ _ _ _ _ _ _ _ _ c.requires.rests (g.met.W.Words.lawful c.args.words.now).few c.in_ok-spot.ensures.spot c.if-not-spot.false c.in_ok-spot.ensures.same c.in_ok-child.ensures.answer.1 c.in_ok-child.ensures.answer.2) in
    let d = dip-told _ _ _ _ _ _ _ _ _ c.in_ok-short.field-0 _ _ s c.in_ok-short.ensures.shrinks c.in-Some.is in
    let r = dip-read _ _ _ _ _ _ _ _ _ _ c.in-Some.short c.requires.rests s.goes d c.in_ok-node.ensures.node c.in_ok-node.ensures.same in
    r.kind

pub shrink_with_rear-requires-clause-children : goal.shrink_with_rear-requires-clause-children
shrink_with_rear-requires-clause-children g t c =
    let s = (dip-made _ _ _ _ _ _ _ _ _ _ c.requires.rests (g.met.W.Words.lawful c.args.words.now).few c.in_ok-spot.ensures.spot c.if-not-spot.false c.in_ok-spot.ensures.same c.in_ok-child.ensures.answer.1 c.in_ok-child.ensures.answer.2) in
    let d = dip-told _ _ _ _ _ _ _ _ _ c.in_ok-short.field-0 _ _ s c.in_ok-short.ensures.shrinks c.in-Some.is in
    let r = dip-read _ _ _ _ _ _ _ _ _ _ c.in-Some.short c.requires.rests s.goes d c.in_ok-node.ensures.node c.in_ok-node.ensures.same in
    rear-children _ _ _ _ _ _ _ _ _ _ c.in-Some.short c.requires.rests s.goes d r (omega (arith, c.if-spot-gt0.false))

pub shrink_with_rear-requires-clause-short : goal.shrink_with_rear-requires-clause-short
shrink_with_rear-requires-clause-short g t c =
    let s = (dip-made _ _ _ _ _ _ _ _ _ _ c.requires.rests (g.met.W.Words.lawful c.args.words.now).few c.in_ok-spot.ensures.spot c.if-not-spot.false c.in_ok-spot.ensures.same c.in_ok-child.ensures.answer.1 c.in_ok-child.ensures.answer.2) in
    let d = dip-told _ _ _ _ _ _ _ _ _ c.in_ok-short.field-0 _ _ s c.in_ok-short.ensures.shrinks c.in-Some.is in
    let r = dip-read _ _ _ _ _ _ _ _ _ _ c.in-Some.short c.requires.rests s.goes d c.in_ok-node.ensures.node c.in_ok-node.ensures.same in
    rear-short _ _ _ _ _ _ _ _ _ _ c.in-Some.short c.requires.rests s.goes d r (omega (arith, c.if-spot-gt0.false))

pub returns-clause-works : goal.returns-clause-works
returns-clause-works g t c =
    let s = (dip-made _ _ _ _ _ _ _ _ _ _ c.requires.rests (g.met.W.Words.lawful c.args.words.now).few c.in_ok-spot.ensures.spot c.if-not-spot.false c.in_ok-spot.ensures.same c.in_ok-child.ensures.answer.1 c.in_ok-child.ensures.answer.2) in
    let lower = s.goes.lower in
    let level = c.args.level - 1 in
    let short : Works (4 * level) (g.W.Words.sheet c.load.new.self) (g.W.Words.sheet c.remove_under.new.words) = subst (λ r. IfSome r (λ _. Works (4 * level) (g.W.Words.sheet c.load.new.self) (g.W.Words.sheet c.remove_under.new.words))) c.in-Some.is c.in_ok-short.ensures.hand in
    let down = Works-trans 0 0 _ _ _ c.in_ok-spot.ensures.works c.in_ok-child.ensures.works in
    let so_far = Works-trans (0 + 0 + 4 * level) 0 _ _ _ (Works-trans (0 + 0) (4 * level) _ _ _ down short) c.in_ok-node.ensures.works in
    Works-more (0 + 0 + 4 * level + 0 + 6) (4 * c.args.level + 2) _ _ (omega (arith, lower)) (Works-trans (0 + 0 + 4 * level + 0) 6 _ _ _ so_far c.shrink_with_rear.ensures.works)

pub returns-clause-hand : goal.returns-clause-hand
returns-clause-hand g t c =
    let s = (dip-made _ _ _ _ _ _ _ _ _ _ c.requires.rests (g.met.W.Words.lawful c.args.words.now).few c.in_ok-spot.ensures.spot c.if-not-spot.false c.in_ok-spot.ensures.same c.in_ok-child.ensures.answer.1 c.in_ok-child.ensures.answer.2) in
    let lower = s.goes.lower in
    let level = c.args.level - 1 in
    let short : Works (4 * level) (g.W.Words.sheet c.load.new.self) (g.W.Words.sheet c.remove_under.new.words) = subst (λ r. IfSome r (λ _. Works (4 * level) (g.W.Words.sheet c.load.new.self) (g.W.Words.sheet c.remove_under.new.words))) c.in-Some.is c.in_ok-short.ensures.hand in
    let down = Works-trans 0 0 _ _ _ c.in_ok-spot.ensures.works c.in_ok-child.ensures.works in
    let so_far = Works-trans (0 + 0 + 4 * level) 0 _ _ _ (Works-trans (0 + 0) (4 * level) _ _ _ down short) c.in_ok-node.ensures.works in
    hand-more (0 + 0 + 4 * level + 0) 4 (4 * c.args.level) _ _ _ c.shrink_with_rear.result so_far (omega (arith, lower)) c.shrink_with_rear.ensures.hand

pub returns-clause-spends : goal.returns-clause-spends
returns-clause-spends g t c =
    let s = (dip-made _ _ _ _ _ _ _ _ _ _ c.requires.rests (g.met.W.Words.lawful c.args.words.now).few c.in_ok-spot.ensures.spot c.if-not-spot.false c.in_ok-spot.ensures.same c.in_ok-child.ensures.answer.1 c.in_ok-child.ensures.answer.2) in
    let lower = s.goes.lower in
    let level = c.args.level - 1 in
    Spends-then (0 + 0 + (192 * level + 64) + 0) 192 _ _ _ _ (omega (arith, lower)) (Spends-trans (0 + 0 + (192 * level + 64)) 0 _ _ _ (Spends-trans (0 + 0) (192 * level + 64) _ _ _ (Spends-trans 0 0 _ _ _ c.seek.ensures.spends c.load.ensures.spends) c.remove_under.ensures.spends) c.read_node.ensures.spends) c.shrink_with_rear.ensures.spends

pub returns-clause-shrinks : goal.returns-clause-shrinks
returns-clause-shrinks g t c t2 =
    let s = (dip-made _ _ _ _ _ _ _ _ _ _ t2 (g.met.W.Words.lawful c.args.words.now).few c.in_ok-spot.ensures.spot c.if-not-spot.false c.in_ok-spot.ensures.same c.in_ok-child.ensures.answer.1 c.in_ok-child.ensures.answer.2) in
    let d = dip-told _ _ _ _ _ _ _ _ _ c.in_ok-short.field-0 _ _ s c.in_ok-short.ensures.shrinks c.in-Some.is in
    let r = dip-read _ _ _ _ _ _ _ _ _ _ c.in-Some.short t2 s.goes d c.in_ok-node.ensures.node c.in_ok-node.ensures.same in
    rear-done _ _ _ _ _ _ _ _ _ _ _ c.in-Some.short t2 _ s.goes d r (omega (arith, c.if-spot-gt0.false)) c.shrink_with_rear.ensures.mended
