use Rattle.std.proofs.Common.{◌≡◌, ◌++◌, ◌∙◌, take, sym, subst, arith}
use Rattle.envy_btree.specs.Index.{IsIndex}
use Rattle.envy_btree.specs.Looking.{IsShown, pairs_by}
use Rattle.envy_btree.proofs.Rows.{drop-later}
use Rattle.envy_btree.proofs.Viewing.{Looks-trans}
use Rattle.envy_index_calls.specs.Scanned.{pairs_in}
use Rattle.envy_index_calls.proofs.pair_buffer.fill.Goals as goal

pub loop-now-preserved : goal.loop-now-preserved
loop-now-preserved g c =
    let mid = c.loop-now.invariant in
    let part = c.in_ok-now.ensures.rest in
    record {
      looks = Looks-trans _ _ _ mid.looks c.fill_part.ensures.looks;
      on = λ e. c.in_ok-now.ensures.power;
      same = (c.fill_part.ensures.looks.same c.in_ok-now.ensures.power).0 ∙ mid.same;
      long = c.fill_part.auto.out ∙ mid.long;
      room = omega (arith, part.1, c.fill_part.auto.out);
      rest = part.2 ∙ drop-later (pairs_in c.loop-now.out) (pairs_in c.args.out.now) c.loop-now.now.filled c.in_ok-now.now.filled part.0 mid.rest;
      shown = λ es x.
          let was : take c.loop-now.now.filled (pairs_in c.loop-now.out) ++ pairs_by c.args.way c.in-Some.key es ≡ pairs_by c.args.way c.args.key es = subst (λ n. IsShown c.args.way es (pairs_by c.args.way c.args.key es) c.loop-now.now.filled n (pairs_in c.loop-now.out)) c.in-Some.is (mid.shown es x) in
          subst (λ all. IsShown c.args.way es all c.in_ok-now.now.filled c.in_ok-now.now.next (pairs_in c.fill_part.new.out)) was (c.in_ok-now.ensures.shown es (subst (λ w. IsIndex w es) (sym mid.same) x));
    }
