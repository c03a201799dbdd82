use Rattle.std.proofs.Common.{◌<◌, sym, subst}
use Rattle.envy_base.specs.declared.shape.Shape.{Shape}
use Rattle.envy_memory.proofs.Facts.{on-from}
use Rattle.envy_mirror.specs.Asking.{Reckons}
use Rattle.envy_mirror.proofs.Closing.{copied-more, others-more}
use Rattle.envy_mirror.proofs.Reckoning.{Reckons-trans}
use Rattle.envy_mirror.proofs.page_copy.copy_page.Goals as goal

pub loop-i-preserved : goal.loop-i-preserved
loop-i-preserved g c =
    let e = c.in_ok-copy_word.ensures in
    let v = c.loop-i.invariant in
    let from = c.args.from.now.chart in
    let mid = c.loop-i.to.chart in
    let new = c.copy_word.new.to.chart in
    let inside = subst (λ (sh : Shape). c.args.page < sh.pages) (sym (Reckons.shape v.reckons)) c.requires.within in
    record {
      closed = e.closed (on-from new.on (λ off. let clash = e.off.1 off in cc));
      reckons = Reckons-trans c.args.to.now c.loop-i.to c.copy_word.new.to v.reckons e.reckons;
      page = copied-more from mid new c.args.page c.loop-i.i inside c.loop-i-test.true e.live v.page;
      others = others-more from mid new c.args.to.now.chart c.args.page c.loop-i.i c.loop-i-test.true e.live v.others;
    }
