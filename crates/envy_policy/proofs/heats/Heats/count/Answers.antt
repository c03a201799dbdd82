use Rattle.std.proofs.Common.{length, ap, arith}
use Rattle.envy_policy.specs.Heats.{Warmth, halved_by}
use Rattle.envy_policy.proofs.Warming.{length-heats}
use Rattle.envy_policy.proofs.heats.Heats.count.Goals as goal

pub returns : goal.returns
returns c =
    let a = c.self.inside in
    let seen = ap (λ (w : Warmth). length w.heats) c.self.view_is in
    let long = length-heats (halved_by a.flushes (length a.kept.items)) a.kept.items in
    omega (arith, seen, long, c.len.ensures, a.kept.ok.0)
