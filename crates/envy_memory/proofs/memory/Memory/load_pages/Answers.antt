use Rattle.std.proofs.Common.{ap, arith}
use Rattle.envy_memory.specs.Picture.{Picture}
use Rattle.envy_memory.proofs.LoadRuns.{crosses-more, fills-more, kept-both}
use Rattle.envy_memory.proofs.memory.Memory.load_pages.Goals as goal

pub loop-page-preserved : goal.loop-page-preserved
loop-page-preserved g c =
    let before = c.loop-page.invariant in
    let part = c.load_part.ensures in
    let same = ap (λ (p : Picture). p.chart) before.kept in
    record {
      read = fills-more c.loop-page.page c.args.a c.args.self.now.chart c.loop-page.self.chart c.loop-page.into c.load_part.new.into same before.read part.fills;
      visits = crosses-more c.loop-page.page c.args.a c.args.self.now.parts.cache c.loop-page.self.parts.cache c.load_part.new.self.parts.cache (omega arith) before.visits part.visits;
      kept = kept-both c.args.self.now c.loop-page.self c.load_part.new.self before.kept part.kept;
    }
