use Rattle.std.proofs.Common.{sym}
use Rattle.envy_range.specs.Lawful.{inside-long}
use Rattle.envy_range.proofs.within.WithinWords.size.Goals as goal

pub returns : goal.returns
returns g c =
    let v = c.args.self.now in
    sym (inside-long v.first v.count (g.W.Words.sheet v.words).words v.fits)
