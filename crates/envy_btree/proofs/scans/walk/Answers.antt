use Rattle.std.proofs.Common.{◌≡◌, ◌++◌, ◌∙◌, take, sym, subst, arith}
use Rattle.envy_btree.specs.Index.{IsIndex}
use Rattle.envy_btree.specs.Looking.{IsShown, pairs_by}
use Rattle.envy_btree.proofs.Rows.{drop-later}
use Rattle.envy_btree.proofs.Viewing.{Looks-trans}
use Rattle.envy_btree.proofs.scans.walk.Goals as goal

pub loop-now-preserved : goal.loop-now-preserved
loop-now-preserved g c =
    let mid = c.loop-now.invariant in
    let turn = c.in_ok-now.ensures.rest in
    record {
      looks = Looks-trans _ _ _ mid.looks c.take_turn.ensures.looks;
      on = λ e. c.in_ok-now.ensures.power;
      same = (c.take_turn.ensures.looks.same c.in_ok-now.ensures.power).0 ∙ mid.same;
      long = c.take_turn.auto.out ∙ mid.long;
      room = omega (arith, turn.0, c.take_turn.auto.out);
      rest = turn.1 ∙ drop-later c.loop-now.out c.args.out.now c.loop-now.now.filled c.in_ok-now.now.filled turn.2 mid.rest;
      shown = λ es x.
          let was : take c.loop-now.now.filled c.loop-now.out ++ pairs_by c.args.way c.in-Some.key es ≡ pairs_by c.args.way c.args.key es = subst (λ n. IsShown c.args.way es (pairs_by c.args.way c.args.key es) c.loop-now.now.filled n c.loop-now.out) c.in-Some.is (mid.shown es x) in
          subst (λ all. IsShown c.args.way es all c.in_ok-now.now.filled c.in_ok-now.now.next c.take_turn.new.out) was (c.in_ok-now.ensures.shown es (subst (λ w. IsIndex w es) (sym mid.same) x));
    }
