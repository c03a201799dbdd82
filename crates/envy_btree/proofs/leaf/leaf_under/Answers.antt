use Rattle.std.proofs.Common.{◌≡◌, ◌+◌, ◌<◌, ◌∙◌, refl, ap, sym, subst, length, get_or, arith, IsTrue}
use Rattle.envy_heap.specs.Pieces.{at, head}
use Rattle.envy_btree.specs.declared.leaf.Spot.{Spot}
use Rattle.envy_btree.specs.Looking.{IsUnder}
use Rattle.envy_btree.proofs.Viewing.{Looks-refl, Looks-trans, unbroken, err-sees}
use Rattle.envy_btree.proofs.LeafLooks.{not-yes, not-no, head-even, head-odd, under-few, under-leaf, under-deep}
use Rattle.envy_btree.proofs.leaf.leaf_under.Goals as goal

pub loop-level-init : goal.loop-level-init
loop-level-init g c = record {
  looks = Looks-refl _;
  on = c.requires.on;
  same = refl;
  within = c.requires.within;
  above = omega arith;
  below = omega arith;
  under = λ es u. u;
}

pub head_of-requires : goal.head_of-requires
head_of-requires g c = record { within = subst (λ w. at c.loop-level.spot.piece 63 < length w) (sym c.loop-level.invariant.same) c.loop-level.invariant.within }

pub returns-in_err-head-clause-looks : goal.returns-in_err-head-clause-looks
returns-in_err-head-clause-looks g c = Looks-trans _ _ _ c.loop-level.invariant.looks c.head_of.ensures.looks

pub returns-in_err-head-clause-sees : goal.returns-in_err-head-clause-sees
returns-in_err-head-clause-sees g c es u =
    let first = subst (λ w. get_or w (head c.loop-level.spot.piece) 0 < 64) (sym c.loop-level.invariant.same) (under-few _ es _ _ _ _ (c.loop-level.invariant.under es u)) in
    unbroken _ c.from_residual.result c.in_err-head.field-0.0 c.from_residual.ensures.1 (λ is. let many = c.in_err-head.ensures.broken is in absurd (omega (arith, first, many)))

pub returns-then-not-head-clause-looks : goal.returns-then-not-head-clause-looks
returns-then-not-head-clause-looks g c = Looks-trans _ _ _ c.loop-level.invariant.looks c.head_of.ensures.looks

pub returns-then-not-head-clause-around : goal.returns-then-not-head-clause-around
returns-then-not-head-clause-around g c = (c.loop-level.invariant.above, c.loop-level.invariant.below)

pub returns-then-not-head-clause-within : goal.returns-then-not-head-clause-within
returns-then-not-head-clause-within g c = (c.loop-level.invariant.within, c.in_ok-head.ensures.head.2)

pub returns-then-not-head-clause-sees : goal.returns-then-not-head-clause-sees
returns-then-not-head-clause-sees g c es u =
    let even = head-even _ _ _ c.in_ok-head.ensures.head.0 (not-yes _ c.if-not-head.true) c.in_ok-head.ensures.head.1 in
    under-leaf _ es _ _ _ _ _ (c.loop-level.invariant.under es u) (sym (ap (λ w. get_or w (head c.loop-level.spot.piece) 0) c.loop-level.invariant.same) ∙ even)

pub child_of-requires-clause-within : goal.child_of-requires-clause-within
child_of-requires-clause-within g c =
    let on : IsTrue (g.W.Words.sheet c.head_of.new.words).on = c.in_ok-head.ensures.power in
    subst (λ w. at c.loop-level.spot.piece 63 < length w) (sym ((c.head_of.ensures.looks.same on).0 ∙ c.loop-level.invariant.same)) c.loop-level.invariant.within

pub child_of-requires-clause-above : goal.child_of-requires-clause-above
child_of-requires-clause-above g c = c.loop-level.invariant.above

pub child_of-requires-clause-below : goal.child_of-requires-clause-below
child_of-requires-clause-below g c = c.loop-level.invariant.below

pub returns-in_err-spot-clause-looks : goal.returns-in_err-spot-clause-looks
returns-in_err-spot-clause-looks g c = Looks-trans _ _ _ c.loop-level.invariant.looks (Looks-trans _ _ _ c.head_of.ensures.looks c.child_of.ensures.looks)

pub returns-in_err-spot-clause-sees : goal.returns-in_err-spot-clause-sees
returns-in_err-spot-clause-sees g c es u =
    let odd = head-odd _ _ _ c.in_ok-head.ensures.head.0 (not-no _ c.if-not-head.false) c.in_ok-head.ensures.head.1 in
    let same : (g.W.Words.sheet c.head_of.new.words).words ≡ (g.W.Words.sheet c.args.words.now).words = (c.head_of.ensures.looks.same c.in_ok-head.ensures.power).0 ∙ c.loop-level.invariant.same in
    let under = subst (λ w. IsUnder w es c.loop-level.spot.piece c.loop-level.spot.low c.loop-level.spot.top c.loop-level._level) (sym same) (c.loop-level.invariant.under es u) in
    let first = ap (λ w. get_or w (head c.loop-level.spot.piece) 0) (c.head_of.ensures.looks.same c.in_ok-head.ensures.power).0 ∙ odd in
    err-sees (λ (x : Spot). IsUnder (g.W.Words.sheet c.head_of.new.words).words es x.piece x.low x.top (c.loop-level._level + 1)) _ c.from_residual-in_err-spot.result c.in_err-spot.field-0.0 c.from_residual-in_err-spot.ensures.1 (c.in_err-spot.ensures.sees es c.loop-level._level under first)

pub loop-level-preserved : goal.loop-level-preserved
loop-level-preserved g c =
    let odd = head-odd _ _ _ c.in_ok-head.ensures.head.0 (not-no _ c.if-not-head.false) c.in_ok-head.ensures.head.1 in
    let held : (g.W.Words.sheet c.head_of.new.words).words ≡ (g.W.Words.sheet c.loop-level.words).words = (c.head_of.ensures.looks.same c.in_ok-head.ensures.power).0 in
    let same : (g.W.Words.sheet c.head_of.new.words).words ≡ (g.W.Words.sheet c.args.words.now).words = held ∙ c.loop-level.invariant.same in
    record {
      looks = Looks-trans _ _ _ c.loop-level.invariant.looks (Looks-trans _ _ _ c.head_of.ensures.looks c.child_of.ensures.looks);
      on = c.in_ok-spot.ensures.power;
      same = (c.child_of.ensures.looks.same c.in_ok-spot.ensures.power).0 ∙ same;
      within = subst (λ w. at c.in_ok-spot.spot.piece 63 < length w) same c.in_ok-spot.ensures.within;
      above = c.in_ok-spot.ensures.around.0;
      below = c.in_ok-spot.ensures.around.1;
      under = λ es u.
          let under = subst (λ w. IsUnder w es c.loop-level.spot.piece c.loop-level.spot.low c.loop-level.spot.top c.loop-level._level) (sym same) (c.loop-level.invariant.under es u) in
          let first = ap (λ w. get_or w (head c.loop-level.spot.piece) 0) held ∙ odd in
          subst (λ w. IsUnder w es c.in_ok-spot.spot.piece c.in_ok-spot.spot.low c.in_ok-spot.spot.top (c.loop-level._level + 1)) same (c.in_ok-spot.ensures.sees es c.loop-level._level under first);
    }

pub returns-clause-looks : goal.returns-clause-looks
returns-clause-looks g c = c.loop-level.invariant.looks

pub returns-clause-power : goal.returns-clause-power
returns-clause-power g c = λ many. c.loop-level.invariant.on

pub returns-clause-sees : goal.returns-clause-sees
returns-clause-sees g c es u = under-deep _ es _ _ _ _ (c.loop-level.invariant.under es u) (omega (arith, c.loop-level-test.false))
